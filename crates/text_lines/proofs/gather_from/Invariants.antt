use lib.ListN.{length}
use Rattle.text_lines.proofs.Gathering.{Gathering}
use Rattle.text_lines.proofs.gather_from.Given as goal

abbrev pub invariant-loop-rest : goal.invariant-loop-rest
invariant-loop-rest l = Gathering l.text l.boards l.words l.kinds l.rest l.gathered

abbrev pub decreases-loop-rest : goal.decreases-loop-rest
decreases-loop-rest l = length l.rest
