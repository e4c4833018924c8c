use Rattle.passes.proofs.Cells.{Laid}
use Rattle.words.specs.Words.{words}
use Rattle.words.proofs.take_words.Given as goal

abbrev pub invariant-loop-i : goal.invariant-loop-i
invariant-loop-i l = Laid (words l.bytes) l.into l.i
