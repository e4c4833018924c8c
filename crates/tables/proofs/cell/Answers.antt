-- `cell` meets its contract: the cell stands at v times p plus q. Assumes nothing.
use mathlib.Core.Path.{◌∙◌}
use native.Mathlib.Omega.{arith}
use Rattle.std.proofs.lemmas.Grind.{get_or_default_zero}
use Rattle.passes.proofs.Passes.{place_few, ready_place}
use Rattle.tables.proofs.cell.Goals as goal

pub overflow_mul-result : goal.overflow_mul-result
overflow_mul-result c = let pre = c.requires in record { fits = omega (arith, place_few pre.0.boards pre.1 pre.2) }

pub overflow_add-result : goal.overflow_add-result
overflow_add-result c = let pre = c.requires in record { fits = omega (arith, place_few pre.0.boards pre.1 pre.2) }

pub bounds-cells-v : goal.bounds-cells-v
bounds-cells-v c = let pre = c.requires in ready_place pre.0 pre.1 pre.2

pub returns : goal.returns
returns c = let pre = c.requires in c.index-cells-v.is ∙ get_or_default_zero c.args.cells.now _ c.index-cells-v.result (ready_place pre.0 pre.1 pre.2)
