-- The boards of an arrangement in order: what is at or above what is a partial order, and the boards at or above one are a chain.
-- Assumes nothing.
use mathlib.Core.Path.{◌≡◌, refl, sym, ap, ap₂, ◌∙◌, subst}
use mathlib.Core.Logic.{◌⊎◌, inl, inr}
use mathlib.Core.List.{List}
use Prim.Native.Nat.{ℕ, zero, suc, ◌+◌, ◌*◌, ◌^◌, ◌<◌}
use native.Mathlib.Omega.{arith}
use lib.Dec.{T}
use Rattle.rules.specs.Relations.{relations, same, above, below, side, E, A, B, S, has, set_to, set_of, ◌lies_within◌, opposite, converse, singles, composed, compose}
use Rattle.rules.specs.Descriptions.{Sheet}
use Rattle.rules.specs.Tables.{at}
use Rattle.rules.specs.Arrangements.{Arrangement}
use Rattle.rules.proofs.Composition.{converse_single, compose_single, compose_E_left, compose_E_right}
use Rattle.rules.proofs.Rules.{relations_pos, same_small}
use Rattle.rules.proofs.Arrangements.{One, one_within}

-- p is at or above q
abbrev pub Over : Sheet → List ℕ → ℕ → ℕ → Type 0
Over s t p q = (at s t p q ≡ E) ⊎ (at s t p q ≡ A)

-- a single relation is E, A, B or S
pub one_of_four : (x : ℕ) → One x → (x ≡ E) ⊎ ((x ≡ A) ⊎ ((x ≡ B) ⊎ (x ≡ S)))
unfolding relations
one_of_four x (zero, h, e) = inl e
one_of_four x (suc zero, h, e) = inr (inl e)
one_of_four x (suc (suc zero), h, e) = inr (inr (inl e))
one_of_four x (suc (suc (suc zero)), h, e) = inr (inr (inr e))
one_of_four x (suc (suc (suc (suc r))), h, e) = let z : ⊥ = omega arith in absurd z

-- ---- what the table of sixteen says of same, above and below

-- above what is below: same, above or below, and not side
above_below : (x : ℕ) → One x → x lies_within compose A B → (x ≡ E) ⊎ ((x ≡ A) ⊎ (x ≡ B))
unfolding relations has set_to set_of singles composed compose
above_below x o s = by (one_of_four x o)
  where
    by : (x ≡ E) ⊎ ((x ≡ A) ⊎ ((x ≡ B) ⊎ (x ≡ S))) → (x ≡ E) ⊎ ((x ≡ A) ⊎ (x ≡ B))
    by (inl e) = inl e
    by (inr (inl e)) = inr (inl e)
    by (inr (inr (inl e))) = inr (inr e)
    by (inr (inr (inr e))) = absurd (s.member side (omega arith) (subst (λ (y : ℕ). T (has y side)) (sym e) tt))

below_small : below < relations
unfolding relations
below_small = omega arith

module _ {s : Sheet} {t : List ℕ} (a : Arrangement s t) where
  -- where the composition of two relations is one relation, that one holds
  follows : (i j k : ℕ) → i < relations → j < relations → composed i j ≡ 2 ^ k → (p q r : ℕ) → p < s.boards → q < s.boards → r < s.boards
      → at s t p q ≡ 2 ^ i → at s t q r ≡ 2 ^ j → at s t p r ≡ 2 ^ k
  follows i j k hi hj c p q r hp hq hr d e =
      one_within (a.single p r hp hr) k
      (subst (λ (x : ℕ). at s t p r lies_within x) (ap₂ compose d e ∙ compose_single i j hi hj ∙ c) (a.rule3 p q r hp hq hr))

  -- the other way round it is the opposite
  pub turns : (i : ℕ) → i < relations → (p q : ℕ) → p < s.boards → q < s.boards → at s t p q ≡ 2 ^ i → at s t q p ≡ 2 ^ opposite i
  turns i hi p q hp hq e = a.rule2 p q hp hq ∙ ap converse e ∙ converse_single i hi

  pub same_turned : (p q : ℕ) → p < s.boards → q < s.boards → at s t p q ≡ E → at s t q p ≡ E
  unfolding opposite
  same_turned = turns same same_small

  module _ (p q : ℕ) (hp : p < s.boards) (hq : q < s.boards) where
    pub above_turned : at s t p q ≡ A → at s t q p ≡ B
    unfolding opposite
    above_turned = turns above relations_pos p q hp hq

    pub below_turned : at s t p q ≡ B → at s t q p ≡ A
    unfolding opposite
    below_turned = turns below below_small p q hp hq

    -- a board is at or above another, or it is not
    pub over_decide : Over s t p q ⊎ (Over s t p q → ⊥)
    over_decide = by (one_of_four (at s t p q) (a.single p q hp hq))
      where
        neither : {n : ℕ} → at s t p q ≡ n → (n ≡ E → ⊥) → (n ≡ A → ⊥) → Over s t p q → ⊥
        neither e f g (inl d) = f (sym e ∙ d)
        neither e f g (inr d) = g (sym e ∙ d)

        by : (at s t p q ≡ E) ⊎ ((at s t p q ≡ A) ⊎ ((at s t p q ≡ B) ⊎ (at s t p q ≡ S))) → Over s t p q ⊎ (Over s t p q → ⊥)
        by (inl e) = inl (inl e)
        by (inr (inl e)) = inl (inr e)
        by (inr (inr (inl e))) = inr (neither e (λ d. omega arith) (λ d. omega arith))
        by (inr (inr (inr e))) = inr (neither e (λ d. omega arith) (λ d. omega arith))

    -- two boards that are at or above each other are the same
    pub over_both : Over s t p q → Over s t q p → at s t p q ≡ E
    over_both (inl e) h = e
    over_both (inr e) (inl d) = let z : A ≡ E = sym e ∙ same_turned q p hq hp d in let n : ⊥ = omega arith in absurd n
    over_both (inr e) (inr d) = let z : B ≡ A = sym (above_turned e) ∙ d in let n : ⊥ = omega arith in absurd n

  pub over_refl : (p : ℕ) → p < s.boards → Over s t p p
  over_refl p h = inl (a.rule1 p h)

  module _ (p q r : ℕ) (hp : p < s.boards) (hq : q < s.boards) (hr : r < s.boards) where
    pub same_trans : at s t p q ≡ E → at s t q r ≡ E → at s t p r ≡ E
    unfolding relations singles composed
    same_trans = follows same same same same_small same_small refl p q r hp hq hr

    -- what is at or above q is above what q is above
    pub over_above : Over s t p q → at s t q r ≡ A → at s t p r ≡ A
    unfolding relations singles composed
    over_above (inl d) = follows same above above same_small relations_pos refl p q r hp hq hr d
    over_above (inr d) = follows above above above relations_pos relations_pos refl p q r hp hq hr d

    -- what is above q is above what q is at or above
    pub above_over : at s t p q ≡ A → Over s t q r → at s t p r ≡ A
    unfolding relations singles composed
    above_over d (inl e) = follows above same above relations_pos same_small refl p q r hp hq hr d e
    above_over d (inr e) = follows above above above relations_pos relations_pos refl p q r hp hq hr d e

    pub over_trans : Over s t p q → Over s t q r → Over s t p r
    over_trans (inl d) (inl e) = inl (same_trans d e)
    over_trans (inl d) (inr e) = inr (over_above (inl d) e)
    over_trans (inr d) e = inr (above_over d e)

    -- boards that are the same stand alike to every board
    pub same_rows : at s t p q ≡ E → at s t p r ≡ at s t q r
    same_rows e =
        let o = a.single q r hq hr in
        one_within (a.single p r hp hr) o.0
        (subst (λ (x : ℕ). at s t p r lies_within x)
        (ap (λ (x : ℕ). compose x (at s t q r)) e ∙ compose_E_left (at s t q r) (a.table.small (s.boards * q + r)) ∙ o.2) (a.rule3 p q r hp hq hr))
        ∙ sym o.2

    pub same_columns : at s t q r ≡ E → at s t p q ≡ at s t p r
    same_columns e =
        let o = a.single p q hp hq in
        o.2
        ∙ sym
        (one_within (a.single p r hp hr) o.0
        (subst (λ (x : ℕ). at s t p r lies_within x)
        (ap (compose (at s t p q)) e ∙ compose_E_right (at s t p q) (a.table.small (s.boards * p + q)) ∙ o.2) (a.rule3 p q r hp hq hr)))

  -- two boards that are both at or above a third: one is at or above the other
  pub over_chain : (p q r : ℕ) → p < s.boards → q < s.boards → r < s.boards → Over s t p r → Over s t q r → Over s t p q ⊎ Over s t q p
  over_chain p q r hp hq hr (inl d) e = inr (over_trans q r p hq hr hp e (inl (same_turned p r hp hr d)))
  over_chain p q r hp hq hr (inr d) (inl e) = inl (over_trans p r q hp hr hq (inr d) (inl (same_turned q r hq hr e)))
  over_chain p q r hp hq hr (inr d) (inr e) =
      by
      (above_below (at s t p q) (a.single p q hp hq)
      (subst (λ (x : ℕ). at s t p q lies_within x) (ap₂ compose d (above_turned q r hq hr e)) (a.rule3 p r q hp hr hq)))
    where
      by : (at s t p q ≡ E) ⊎ ((at s t p q ≡ A) ⊎ (at s t p q ≡ B)) → Over s t p q ⊎ Over s t q p
      by (inl g) = inl (inl g)
      by (inr (inl g)) = inl (inr g)
      by (inr (inr g)) = inr (inr (below_turned p q hp hq g))
