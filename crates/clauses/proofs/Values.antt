-- Clauses 25 to 31 of 001 and the inverse operator agree with the meaning of expressions: a value of the choice variable is allowed exactly if its
-- relation is a member of the set. Assumes nothing.
use mathlib.Core.Path.{◌≡◌, refl, sym, ap, ap₂, ◌∙◌, subst}
use mathlib.Core.Bool.{Bool, true, false, not, ◌&&◌, ◌||◌}
use mathlib.Core.List.{[], ◌∷◌}
use Prim.Native.Nat.{ℕ, zero, suc, ◌^◌, ◌<◌}
use native.Mathlib.Nat.{suc_inj}
use native.Mathlib.Omega.{arith}
use lib.Dec.{T, eqb, leb, eqb→eq, eqb_refl, le→leb}
use lib.ListN.{get_or}
use Rattle.rules.specs.Relations.{relations, has, join, meet, complement, opposite, converse}
use Rattle.rules.specs.Expressions.{Phrase, only_e, only_a, only_b, only_s, union_of, intersection_of, complement_of, inverse_of, denoted}
use Rattle.rules.proofs.Digits.{has_single, single_has}
use Rattle.rules.proofs.Sets.{has_set_of}
use Rattle.rules.proofs.Tests.{T_true, and_T, T-ext}
use Rattle.rules.proofs.Composition.{opposite_small}
use Rattle.clauses.specs.Clauses.{values}

-- the choice variable of relation r turned round is that of its opposite
turned : (r : ℕ) → r < relations → get_or (0 ∷ 1 ∷ 3 ∷ 2 ∷ 4 ∷ []) (suc r) 0 ≡ suc (opposite r)
unfolding relations opposite
turned zero h = refl
turned (suc zero) h = refl
turned (suc (suc zero)) h = refl
turned (suc (suc (suc zero))) h = refl
turned (suc (suc (suc (suc r)))) h = let z : ⊥ = omega arith in absurd z

-- value r + 1 is the choice of relation r alone
one_value : (i r : ℕ) → eqb (suc r) (suc i) ≡ has (2 ^ i) r
one_value i r = T-ext (eqb (suc r) (suc i)) (has (2 ^ i) r) there back
  where
    there : T (eqb (suc r) (suc i)) → T (has (2 ^ i) r)
    there t = let e : suc r ≡ suc i = eqb→eq (suc r) (suc i) t in subst (λ (j : ℕ). T (has (2 ^ i) j)) (sym (suc_inj e)) (has_single i)

    back : T (has (2 ^ i) r) → T (eqb (suc r) (suc i))
    back t = subst (λ (j : ℕ). T (eqb (suc r) (suc j))) (single_has i r t) (eqb_refl (suc r))

-- a value that is not allowed is among the others, being one of the four
other : (b : Bool) (r : ℕ) → r < relations → elim b [ true ↦ false | false ↦ leb 1 (suc r) && leb (suc r) relations ] ≡ not b
other true r h = refl
other false r h = T_true (and_T (leb 1 (suc r)) (leb (suc r) relations) (le→leb 1 (suc r) (omega arith)) (le→leb (suc r) relations h))

-- a value of the choice variable is allowed exactly if its relation is in the set that the expression stands for
pub values_denoted : (R : Phrase) (r : ℕ) → r < relations → values R (suc r) ≡ has (denoted R) r
unfolding values denoted join meet complement converse
values_denoted only_e r h = one_value 0 r
values_denoted only_a r h = one_value 1 r
values_denoted only_b r h = one_value 2 r
values_denoted only_s r h = one_value 3 r
values_denoted (union_of R Q) r h =
    ap₂ ◌||◌ (values_denoted R r h) (values_denoted Q r h) ∙ sym (has_set_of (λ r. has (denoted R) r || has (denoted Q) r) r h)
values_denoted (intersection_of R Q) r h =
    ap₂ ◌&&◌ (values_denoted R r h) (values_denoted Q r h) ∙ sym (has_set_of (λ r. has (denoted R) r && has (denoted Q) r) r h)
values_denoted (complement_of R) r h = other (values R (suc r)) r h ∙ ap not (values_denoted R r h) ∙ sym (has_set_of (λ r. not (has (denoted R) r)) r h)
values_denoted (inverse_of R) r h =
    ap (values R) (turned r h) ∙ values_denoted R (opposite r) (opposite_small r h) ∙ sym (has_set_of (λ r. has (denoted R) (opposite r)) r h)
