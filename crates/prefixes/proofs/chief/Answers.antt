-- `chief` meets its contract: it keeps the loosest of the words passed. Assumes nothing.
use mathlib.Core.Path.{sym, ap, ap₂, ◌∙◌}
use Prim.Native.Nat.{ℕ, ◌+◌}
use native.Mathlib.Omega.{arith}
use Rattle.std.proofs.lemmas.List.{get_or_default}
use Rattle.typed.specs.Scanning.{outranks}
use Rattle.prefixes.proofs.Chiefs.{nothing, chief_of, chief_first, chief_moves, chief_stays, chief_last}
use Rattle.prefixes.proofs.chief.Goals as goal
use Rattle.prefixes.proofs.chief.Goals.{then-outranks, else-outranks}

pub loop-i-init : goal.loop-i-init
loop-i-init c = (omega arith, chief_first c.args.items.now c.requires)

pub loop-i-preserved : goal.loop-i-preserved
loop-i-preserved c =
    let xs = c.args.items.now in
    let loop = c.loop-i in
    let here = c.index-items-i.is ∙ get_or_default xs loop.i c.index-items-i.result nothing c.loop-i-test.true in
    let there = c.index-items-best.is ∙ get_or_default xs loop.best c.index-items-best.result nothing loop.invariant.0 in
    let rank = c.outranks.ensures ∙ ap₂ outranks here there in
    elim c.if-outranks.branch [
      | then-outranks w ↦ (
        omega arith,
        loop.invariant.1 ∙ chief_moves xs loop.best loop.i c.loop-i-test.true (sym rank ∙ w.if-outranks.true)
            ∙ ap (λ (k : ℕ). chief_of xs k (loop.i + 1)) (sym w.best-is),
      )
      | else-outranks w ↦ (
        omega arith,
        loop.invariant.1 ∙ chief_stays xs loop.best loop.i c.loop-i-test.true (sym rank ∙ w.if-outranks.false)
            ∙ ap (λ (k : ℕ). chief_of xs k (loop.i + 1)) (sym w.best-is),
      )
    ]

pub returns-clause-loosest : goal.returns-clause-loosest
returns-clause-loosest c = sym (c.loop-i.invariant.1 ∙ chief_last c.args.items.now c.loop-i.best c.loop-i.i c.loop-i-test.false)
