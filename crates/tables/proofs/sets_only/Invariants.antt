use Rattle.tables.proofs.Shapes.{SetsTo}
use Rattle.tables.proofs.sets_only.Given as goal

abbrev pub invariant-loop-byte : goal.invariant-loop-byte
invariant-loop-byte l = SetsTo l.table l.byte-index l.sets
