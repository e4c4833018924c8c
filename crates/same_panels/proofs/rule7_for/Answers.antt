-- `rule7_for` meets its contract: whether the two boards may be the same, and must be, says which lines need a visit. Assumes nothing.
use mathlib.Core.Path.{sym, ◌∙◌}
use Rattle.std.proofs.lemmas.Bool.{eqb-true, eqb-false}
use Rattle.same_panels.proofs.Finding.{visit_may, visit_panels, visit_ways}
use Rattle.same_panels.proofs.rule7_for.Goals as goal

pub returns-then-eq : goal.returns-then-eq
returns-then-eq c =
    let pre = c.requires in
    visit_panels pre.0 pre.1 pre.2 pre.3 _ _ c.rule7_each.result (sym c.cell-x.ensures ∙ eqb-true _ _ (sym c.eq.ensures ∙ c.if-eq.true))
    (simp (c.with_panel-numbers.ensures, c.with_panel-others.ensures) at c.rule7_each.ensures)

pub returns-then-not-is_empty : goal.returns-then-not-is_empty
returns-then-not-is_empty c =
    let pre = c.requires in
    visit_may pre.0 pre.1 pre.2 pre.3 c.cell-x.ensures c.eq.ensures c.if-eq.false c.bitand.ensures c.is_empty.ensures c.if-not-is_empty.true

pub returns : goal.returns
returns c =
    let pre = c.requires in
    visit_ways pre.0 pre.1 pre.2 pre.3 _ _ c.rule7_by_ways.result (λ e. eqb-false _ _ (sym c.eq.ensures ∙ c.if-eq.false) (c.cell-x.ensures ∙ e))
    c.rule7_by_ways.ensures
