-- `as_asked` meets its contract: the number of cells differs, or it is enough, or it is as the cells say. Assumes nothing.
use mathlib.Core.Path.{◌≡◌, sym, subst}
use mathlib.Core.Bool.{true}
use native.Mathlib.Omega.{arith}
use Rattle.tables.specs.declared.Asked.{Asked}
use Rattle.tables.specs.Asks.{asks}
use Rattle.tables.proofs.Shapes.{square_small, cells_differ, cells_enough, cells_agree}
use Rattle.tables.proofs.as_asked.Goals as goal

pub overflow_mul-v : goal.overflow_mul-v
overflow_mul-v c = record { fits = omega (arith, square_small c.args.v c.requires) }

pub returns-then-table-v : goal.returns-then-table-v
returns-then-table-v c = cells_differ c.args.table.now c.args.v c.if-table-v.true c.args.asked

pub returns-in-Cells : goal.returns-in-Cells
returns-in-Cells c =
    subst (λ (a : Asked). true ≡ asks a c.args.v c.args.table.now) (sym c.in-Cells.is)
    (cells_enough c.args.table.now c.args.v c.if-table-v.false)

pub returns-in-Sets : goal.returns-in-Sets
returns-in-Sets c =
    subst (λ (a : Asked). c.sets_only.result ≡ asks a c.args.v c.args.table.now) (sym c.in-Sets.is)
    (cells_agree c.args.table.now c.args.v c.if-table-v.false c.sets_only.ensures)
