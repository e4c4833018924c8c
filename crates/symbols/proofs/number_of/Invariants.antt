use Rattle.symbols.proofs.Digits.{SoFar}
use Rattle.symbols.proofs.number_of.Given as goal

abbrev pub invariant-loop-byte : goal.invariant-loop-byte
invariant-loop-byte l = SoFar l.run l.byte-index l.value
