-- `search` meets its contract: it is refused at once, or what searching the table in this order comes to. Assumes nothing.
use mathlib.Core.Path.{◌≡◌, sym, ap, subst, ◌∙◌}
use Prim.Native.Nat.{◌^◌, ◌<◌}
use native.Mathlib.Omega.{arith}
use Rattle.std.specs.Prelude.{Err}
use Rattle.std.proofs.lemmas.Result.{err_from_is_err_and}
use Rattle.std.proofs.iter.Serving.{serving}
use Rattle.answers.specs.declared.refusals.Refused.{Refused}
use Rattle.answers.specs.Answers.{told, outcome}
use Rattle.sheet.proofs.Mapped.{mapped, mapped_ok}
use mathlib.Core.List.{List}
use Prim.Native.Nat.{ℕ}
use Rattle.rules.specs.Search.{Order}
use Rattle.rules.specs.Calls.{well_formed, searching}
use Rattle.rules.proofs.Search.{plain_order_lem}
use Rattle.admitting.proofs.Admitting.{admit_admitted, admit_place, search_told}
use Rattle.solver.proofs.search.Goals as goal

pub map_err-requires : goal.map_err-requires
map_err-requires c e is =
    let small : e.place < 2 ^ 32 = admit_place well_formed c.args.words.now c.args.table.now e (sym is ∙ c.admit.ensures) (omega (arith, c.type_inv.words 5)) in
    grind (arith, serving, small)

pub returns-in_err-h : goal.returns-in_err-h
returns-in_err-h c =
    let p = err_from_is_err_and c.from_residual.result c.from_residual.ensures.1 in
    let (e, is, came) = mapped _ _ _ c.map_err.ensures.cases _ c.in_err-h.was in
    let moved : ◌≡◌ {A = Refused} c.in_err-h.field-0.0 (record { fault = e.fault; count = e.place }) = grind (arith, serving, came) in
    search_told c.args.words.now c.args.table.now e (ap told (p.1 ∙ ap Err (p.2 ∙ moved))) (sym is ∙ c.admit.ensures) _ c.args.budget

pub search_table-requires : goal.search_table-requires
search_table-requires c = (
  admit_admitted c.args.words.now c.args.table.now (sym (mapped_ok _ _ _ c.map_err.ensures.cases _ c.in_ok-h.was) ∙ c.admit.ensures),
  subst Order (sym c.plain_order-order.ensures) plain_order_lem,
)

pub returns : goal.returns
returns c =
    subst
    (λ (o : List ℕ). outcome (told c.search_table.result) c.search_table.new.table ≡ searching o c.args.words.now c.args.table.now c.args.budget)
    c.plain_order-order.ensures c.search_table.ensures
