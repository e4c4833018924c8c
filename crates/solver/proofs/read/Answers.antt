-- `read` meets its contract: the number and the place of what `description` finds. Assumes nothing.
use mathlib.Core.Path.{◌≡◌, sym, ap, ◌∙◌}
use Prim.Native.Nat.{◌^◌, ◌<◌}
use native.Mathlib.Omega.{arith}
use Rattle.std.specs.Prelude.{Err}
use Rattle.std.proofs.lemmas.Result.{err_from_is_err_and}
use Rattle.std.proofs.iter.Serving.{serving}
use Rattle.answers.specs.declared.refusals.Refused.{Refused}
use Rattle.answers.specs.Answers.{Answer, told, outcome}
use Rattle.sheet.proofs.Mapped.{mapped, mapped_ok}
use Rattle.sheet.proofs.Described.{undescribed_place}
use Rattle.sheet.proofs.Wholes.{reading_good, reading_refused}
use Rattle.solver.proofs.read.Goals as goal

pub map_err-requires : goal.map_err-requires
map_err-requires c e is =
    let small : e.place < 2 ^ 32 = undescribed_place c.args.words.now e (sym is ∙ c.description.ensures) (omega (arith, c.type_inv.words 5)) in
    grind (arith, serving, small)

pub returns-in_err-map_err : goal.returns-in_err-map_err
returns-in_err-map_err c =
    let p = err_from_is_err_and c.from_residual.result c.from_residual.ensures.1 in
    let (e, is, came) = mapped _ _ _ c.map_err.ensures.cases _ c.in_err-map_err.was in
    let moved : ◌≡◌ {A = Refused} c.in_err-map_err.field-0.0 (record { fault = e.fault; count = e.place }) = grind (arith, serving, came) in
    ap (λ (a : Answer). outcome a tt) (ap told (p.1 ∙ ap Err (p.2 ∙ moved))) ∙ reading_refused c.args.words.now e (sym is ∙ c.description.ensures)

pub returns : goal.returns
returns c =
    reading_good c.args.words.now _ (sym (mapped_ok _ _ _ c.map_err.ensures.cases _ c.in_ok-map_err.was) ∙ c.description.ensures)
