-- `composed_by` meets its contract: it reads the entry of y in the row of x. Assumes nothing.
use mathlib.Core.Path.{refl, sym, ap, ◌∙◌, subst}
use mathlib.Core.List.{List}
use Prim.Native.Nat.{ℕ, ◌<◌}
use native.Mathlib.Omega.{arith}
use denote.Ref.{Bor}
use lib.ListN.{get_or}
use Rattle.rules.specs.Relations.{set_limit}
use Rattle.compositions.proofs.Table.{told_at, compose_small}
use Rattle.compositions.proofs.composed_by.Goals as goal

pub new-requires : goal.new-requires
new-requires c =
    let i = c.from-2.result in
    let j = c.from-4.result in
    let read = c.requires.entry i j (omega (arith, c.from.ensures.1, c.from-2.ensures)) (omega (arith, c.from-3.ensures.1, c.from-4.ensures)) in
    let told = told_at (λ (row : Bor (List ℕ)). row.now) c.args.rows.now i _ refl in
    subst (λ (n : ℕ). n < set_limit) (sym (ap (λ (row : List ℕ). get_or row j 0) told ∙ read)) (compose_small i j)
