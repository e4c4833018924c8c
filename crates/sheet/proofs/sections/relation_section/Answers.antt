-- `relation_section` meets its contract: from each line on, the section comes to what it comes to from the start. Assumes nothing.
use mathlib.Core.Path.{◌≡◌, sym, ◌∙◌}
use Prim.Native.Nat.{◌+◌, ◌-◌, ◌^◌, ◌≤◌, ◌<◌}
use native.Mathlib.Omega.{arith}
use lib.ListN.{length}
use Rattle.std.proofs.lemmas.Result.{err_from_is_err_and}
use Rattle.std.proofs.iter.Serving.{serving}
use Rattle.rules.proofs.PlacedLines.{placing_relation}
use Rattle.rules.proofs.Lines.{relation_suffix}
use Rattle.answers.specs.Answers.{later_by}
use Rattle.lines.proofs.Fronts.{told_rest_out, told_refused_out}
use Rattle.sheet.proofs.Filled.{none_passed, one_passed, found_place, found_refused, found_next, found_end}
use Rattle.sheet.proofs.Mapped.{mapped, mapped_ok}
use Rattle.sheet.proofs.sections.relation_section.Goals as goal

pub loop-init : goal.loop-init
loop-init c = none_passed

pub map_err-requires : goal.map_err-requires
map_err-requires c e is =
    let place : c.loop.at + e.place ≤ length c.args.words.now =
    found_place c.loop.invariant (omega arith) (told_refused_out _ _ (sym is ∙ c.relation_told.ensures)) (placing_relation c.args.v).within in
    let small : c.loop.at + e.place < 2 ^ 64 = omega (arith, place) in
    grind (arith, serving, small)

pub returns-in_err-rest : goal.returns-in_err-rest
returns-in_err-rest c =
    let more : 0 < c.args.count - c.loop.counter = omega arith in
    let p = err_from_is_err_and c.from_residual.result c.from_residual.ensures.1 in
    let (e, is, came) = mapped _ _ _ c.map_err.ensures.cases _ c.in_err-rest.was in
    let moved : c.in_err-rest.field-0.0 ≡ later_by c.loop.at e = grind (arith, serving, came) in
    rw (p.1, p.2) (found_refused c.loop.invariant more (told_refused_out _ _ (sym is ∙ c.relation_told.ensures)) moved)

pub overflow_sub-at : goal.overflow_sub-at
overflow_sub-at c =
    let was = mapped_ok _ _ _ c.map_err.ensures.cases _ c.in_ok-rest.was in
    (found_next c.loop.invariant (omega arith) (relation_suffix c.args.v) (told_rest_out _ _ (sym was ∙ c.relation_told.ensures))).0

pub loop-preserved : goal.loop-preserved
loop-preserved c =
    let was = mapped_ok _ _ _ c.map_err.ensures.cases _ c.in_ok-rest.was in
    one_passed c.loop.counter (found_next c.loop.invariant (omega arith) (relation_suffix c.args.v) (told_rest_out _ _ (sym was ∙ c.relation_told.ensures))).1

pub returns : goal.returns
returns c = c.ended.ensures ∙ found_end c.loop.invariant (omega arith)
