-- `decided` meets its contract: each cell passed has one relation. Assumes nothing.
use mathlib.Core.Path.{ap, ◌∙◌}
use native.Mathlib.Omega.{arith}
use Rattle.std.proofs.lemmas.Grind.{get_or_default_zero}
use Rattle.rules.specs.Relations.{size}
use Rattle.checking.proofs.Checking.{single_each, single_none}
use Rattle.checking.proofs.decided.Goals as goal

pub returns : goal.returns
returns c = single_each c.args.cells.now (λ k l. c.loop-cell.invariant k (omega (arith, c.loop-cell-test.false)))

pub returns-then-len-ne1 : goal.returns-then-len-ne1
returns-then-len-ne1 c =
    let l = c.loop-cell-test.true in
    single_none c.args.cells.now c.loop-cell.cell-index l
    (λ e. c.if-len-ne1.true (c.len.ensures ∙ ap size (c.cell-item.is ∙ get_or_default_zero c.args.cells.now _ c.cell-item.result l) ∙ e))
