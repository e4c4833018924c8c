-- `members` meets its contract: the relations of the cells passed are counted. Assumes nothing.
use mathlib.Core.Path.{sym, ap, ◌∙◌}
use Prim.Native.Nat.{◌+◌}
use native.Mathlib.Omega.{arith}
use Rattle.std.proofs.lemmas.Grind.{get_or_default_zero}
use Rattle.rules.specs.Relations.{relations, size}
use Rattle.rules.specs.Descriptions.{most_cells}
use Rattle.tables.proofs.Counting.{counted_none, counted_more, counted_few}
use Rattle.tables.proofs.members.Goals as goal

pub loop-cell-init : goal.loop-cell-init
loop-cell-init c = sym (counted_none c.args.cells.now)

pub loop-cell-preserved : goal.loop-cell-preserved
loop-cell-preserved c =
    let l = c.loop-cell-test.true in
    counted_more c.args.cells.now c.loop-cell.cell-index l c.loop-cell.invariant
    (c.len-count.ensures ∙ ap size (c.cell-item.is ∙ get_or_default_zero _ _ c.cell-item.result l))

pub overflow_add-count : goal.overflow_add-count
unfolding relations
overflow_add-count c =
    record { fits = omega (arith, loop-cell-preserved c, counted_few c.args.cells.now (c.loop-cell.cell-index + 1) most_cells c.requires) }
