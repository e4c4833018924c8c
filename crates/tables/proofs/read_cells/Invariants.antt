use Rattle.passes.proofs.Cells.{Laid}
use Rattle.tables.proofs.read_cells.Given as goal

abbrev pub invariant-loop-i : goal.invariant-loop-i
invariant-loop-i l = Laid l.table l.cells l.i
