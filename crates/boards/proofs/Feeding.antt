-- A board is a way of one panel alone, in one position; and what is next below a panel is one of its ways.
-- Assumes nothing.
use mathlib.Core.Path.{◌≡◌, sym, ◌∙◌, subst}
use mathlib.Core.Bool.{not}
use mathlib.Core.Logic.{◌⊎◌, inl, inr, ⊎_elim}
use mathlib.Core.List.{List, Memᴰ}
use Prim.Native.Nat.{ℕ, ◌<◌}
use native.Mathlib.Omega.{arith}
use lib.Dec.{T, eqb, eqb→eq}
use Rattle.rules.specs.Relations.{E, A, S}
use Rattle.rules.specs.Descriptions.{KindLine, Sheet, WellFormed}
use Rattle.rules.specs.Tables.{at}
use Rattle.rules.specs.Arrangements.{way, width, Arrangement}
use Rattle.rules.proofs.Tests.{T-decide, T-differ}
use Rattle.rules.proofs.Arrangements.{panel, fed}
use Rattle.boards.proofs.Order.{Over, over_both, above_over, same_turned, same_trans}
use Rattle.boards.proofs.Panels.{above_way}

module _ {s : Sheet} (f : WellFormed s) {t : List ℕ} (a : Arrangement s t) where
  module _ (k : KindLine) (m : Memᴰ k s.kinds) (i : ℕ) (hi : i < width k)
      (l : KindLine) (n : Memᴰ l s.kinds) (j : ℕ) (hj : j < width l)
    where
      -- the panel of a way is at or above any other panel that feeds the same board
      feeder_over : at s t (way k i) (way l j) ≡ E → Over s t k.p l.p
      feeder_over e =
          above_way f a l n j hj k.p (panel f k m)
          (above_over a k.p (way k i) (way l j) (panel f k m) (fed f k m i hi) (fed f l n j hj) (a.rule5 k m i hi) (inl e))

  module _ (k : KindLine) (m : Memᴰ k s.kinds) (i : ℕ) (hi : i < width k)
      (l : KindLine) (n : Memᴰ l s.kinds) (j : ℕ) (hj : j < width l) (e : at s t (way k i) (way l j) ≡ E)
    where
      same_feeder : at s t k.p l.p ≡ E
      same_feeder =
          over_both a k.p l.p (panel f k m) (panel f l n) (feeder_over k m i hi l n j hj e)
          (feeder_over l n j hj k m i hi (same_turned a (way k i) (way l j) (fed f k m i hi) (fed f l n j hj) e))

      same_position : i ≡ j
      same_position = ⊎_elim (λ d. eqb→eq i j d) (λ d. absurd (other d)) (T-decide (eqb i j))
        where
          other : T (not (eqb i j)) → ⊥
          other d =
              let g = a.rule7 k l m n same_feeder in
              let h : i < width l = subst (λ (w : ℕ). i < w) g.0.1 hi in
              let b : at s t (way l i) (way l j) ≡ E =
              same_trans a (way l i) (way k i) (way l j) (fed f l n i h) (fed f k m i hi) (fed f l n j hj)
              (same_turned a (way k i) (way l i) (fed f k m i hi) (fed f l n i h) (g.1 i hi)) e in
              let z : E ≡ S = sym b ∙ a.rule5' l n i j h hj (T-differ d) in
              omega arith

      -- boards that are the same are ways of the same panel, in the same position
      pub one_feeder : (at s t k.p l.p ≡ E) × (i ≡ j)
      one_feeder = (same_feeder, same_position)

  -- what a panel is above, with nothing between, is one of its ways
  pub fed_directly : (k : KindLine) → Memᴰ k s.kinds → (b : ℕ) → b < s.boards → at s t k.p b ≡ A
      → ((c : ℕ) → c < s.boards → at s t c b ≡ A → Over s t c k.p) → (i : ℕ) × (i < width k) × (at s t (way k i) b ≡ E)
  fed_directly k m b h e lowest = from (a.rule6 k m b h e)
    where
      between : (i : ℕ) → i < width k → at s t (way k i) b ≡ A → ⊥
      between i hi g =
          let d : at s t k.p k.p ≡ A =
          above_over a k.p (way k i) k.p (panel f k m) (fed f k m i hi) (panel f k m) (a.rule5 k m i hi) (lowest (way k i) (fed f k m i hi) g) in
          let z : A ≡ E = sym d ∙ a.rule1 k.p (panel f k m) in
          omega arith

      from : (i : ℕ) × (i < width k) × ((at s t (way k i) b ≡ E) ⊎ (at s t (way k i) b ≡ A)) → (i : ℕ) × (i < width k) × (at s t (way k i) b ≡ E)
      from (i, hi, inl g) = (i, hi, g)
      from (i, hi, inr g) = absurd (between i hi g)
