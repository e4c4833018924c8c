-- Any two answers and sets that a contract of this crate permits are equal. Assumes nothing.
use mathlib.Core.Path.{◌≡◌, refl, sym, ap, ◌∙◌, subst}
use Prim.Native.Nat.{ℕ}
use lib.Dec.{T}
use Rattle.std.specs.Prelude.{Option, Some, None}
use Rattle.contracts.specs.Promises.{OneOutcome}
use Rattle.rules.specs.Relations.{has}
use Rattle.bits.specs.Sets.{removed, Taken}
use Rattle.bits.proofs.Laws.{has_zero}
use Rattle.bits.proofs.NumberSet.insert.Kinds as insert_kinds
use Rattle.bits.proofs.NumberSet.insert.Reads as insert
use Rattle.bits.proofs.NumberSet.pop.Kinds as pop_kinds
use Rattle.bits.proofs.NumberSet.pop.Reads as pop

pub insert_determined : OneOutcome 1 insert_kinds.ps insert_kinds.r insert.Asked insert.Learnt (λ κs e. e.0.now)
insert_determined κs a asked x y d e p q = (refl, p ∙ sym q)

-- an empty set has no number
none_of : (x i : ℕ) → x ≡ 0 → T (has x i) → ⊥
none_of x i z t = subst T (ap (λ (n : ℕ). has n i) z ∙ has_zero i) t

-- one number is the least, and one set is left
one_taken : (x : ℕ) (r s : Option ℕ) (y z : ℕ) → Taken x y r → Taken x z s → (r ≡ s) × (y ≡ z)
one_taken x (Some i) (Some j) y z p q =
    let e : i ≡ j = p.0 ∙ sym q.0 in
    (ap Some e, p.3 ∙ ap (removed x) e ∙ sym q.3)
one_taken x (Some i) None y z p q = absurd (none_of x i q.0 p.1)
one_taken x None (Some j) y z p q = absurd (none_of x j p.0 q.1)
one_taken x None None y z p q = (refl, p.1 ∙ sym q.1)

pub pop_determined : OneOutcome 1 pop_kinds.ps pop_kinds.r pop.Asked pop.Learnt (λ κs e. e.0.now)
pop_determined κs a asked x y d e p q = one_taken _ x y _ _ p q
