use Rattle.passes.proofs.Cells.{Laid}
use Rattle.tables.proofs.write_cells.Given as goal

abbrev pub invariant-loop-i : goal.invariant-loop-i
invariant-loop-i l = Laid l.cells l.table l.i
