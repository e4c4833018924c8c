-- `rule6_at` meets its contract: each of its ends is one of the laws of feeding. Assumes nothing.
use mathlib.Core.Path.{sym, ap, ◌∙◌}
use Prim.Native.Nat.{ℕ}
use Rattle.std.proofs.lemmas.Bool.{not-false, eqb-true}
use Rattle.rules.specs.Relations.{relations, A, has, set_to, set_of, meet, join, complement}
use Rattle.rules.proofs.Tests.{true_T, T-differ}
use Rattle.panels.proofs.Feeding.{rule6_at_lacks, rule6_at_none, rule6_at_more, rule6_at_two, rule6_at_alone}
use Rattle.panels.proofs.rule6_at.Goals as goal
use Rattle.panels.proofs.rule6_at.Goals.{then-ne-via-then-ne, then-ne-via-else-ne+then-is_some}

pub returns-then-is_empty : goal.returns-then-is_empty
returns-then-is_empty c =
    let pre = c.requires in
    rule6_at_lacks _ _ _ pre.0 pre.1 pre.2.board pre.3
    (sym (c.bitand.ensures ∙ ap (λ (x : ℕ). meet x A) c.cell-x.ensures) ∙ eqb-true _ _ (sym c.is_empty.ensures ∙ c.if-is_empty.true))

pub returns-in_default : goal.returns-in_default
unfolding relations has set_to set_of complement
returns-in_default c =
    let pre = c.requires in
    rule6_at_none _ _ _ pre.0 pre.1 pre.2.board pre.3 c.in_default.ensures c.strike.result c.strike.ensures

pub returns-then-ne : goal.returns-then-ne
returns-then-ne c =
    let pre = c.requires in
    (elim c.then-ne.branch [ then-ne-via-then-ne w ↦ rule6_at_more _ _ _ pre.0 pre.1 pre.2.board pre.3 c.in-Some.ensures (λ e. T-differ (true_T (sym c.ne.ensures ∙ w.if-ne.true)) (c.cell-x.ensures ∙ e)) | then-ne-via-else-ne+then-is_some w ↦ rule6_at_two _ _ _ pre.0 pre.1 pre.2.board pre.3 c.in-Some.ensures w.reaching-else-ne.result w.reaching-else-ne.ensures (sym w.is_some.ensures ∙ w.if-is_some.true) ])

pub returns : goal.returns
unfolding relations has set_to set_of join
returns c =
    let pre = c.requires in
    rule6_at_alone _ _ _ pre.0 pre.1 pre.2.board pre.3 c.in-Some.ensures
    (sym c.cell-x.ensures ∙ eqb-true _ _ (not-false _ (sym c.ne.ensures ∙ c.if-ne.false)))
    c.reaching-else-ne.result c.reaching-else-ne.ensures (sym c.is_some.ensures ∙ c.if-is_some.false)
    (pre.2.boards _ c.in-Some.ensures.within) c.strike-2.result c.way.ensures c.strike-2.ensures
