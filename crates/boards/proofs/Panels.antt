-- The further conjunct of clause 32 in 001: what is above a way is at or above its panel, and what is at or above a panel is above its ways.
-- Assumes nothing.
use mathlib.Core.Path.{◌≡◌, sym, ◌∙◌, subst}
use mathlib.Core.Bool.{not}
use mathlib.Core.Logic.{◌⊎◌, inl, inr, ⊎_elim}
use mathlib.Core.List.{List, Memᴰ}
use Prim.Native.Nat.{ℕ, ◌<◌}
use native.Mathlib.Omega.{arith}
use lib.Dec.{T, eqb, eqb→eq}
use Rattle.rules.specs.Relations.{E, A, S}
use Rattle.rules.specs.Descriptions.{KindLine, Sheet, WellFormed}
use Rattle.rules.specs.Tables.{at}
use Rattle.rules.specs.Arrangements.{way, width, Arrangement}
use Rattle.rules.proofs.Tests.{T-decide, T-differ}
use Rattle.rules.proofs.Arrangements.{panel, fed}
use Rattle.boards.proofs.Order.{Over, over_above, over_chain, same_turned}

module _ {s : Sheet} (f : WellFormed s) {t : List ℕ} (a : Arrangement s t) (k : KindLine) (m : Memᴰ k s.kinds)
    (i : ℕ) (h : i < width k) (z : ℕ) (hz : z < s.boards)
  where
    -- no way is above a way
    apart : (j : ℕ) → j < width k → at s t (way k j) (way k i) ≡ A → ⊥
    apart j l e = ⊎_elim same other (T-decide (eqb j i))
      where
        same : T (eqb j i) → ⊥
        same d =
            let g : at s t (way k i) (way k i) ≡ A =
            subst (λ (n : ℕ). at s t (way k n) (way k i) ≡ A) (eqb→eq j i d) e in
            let z : A ≡ E = sym g ∙ a.rule1 (way k i) (fed f k m i h) in
            omega arith

        other : T (not (eqb j i)) → ⊥
        other d = let z : A ≡ S = sym e ∙ a.rule5' k m j i l h (T-differ d) in omega arith

    -- z above a way is not below the panel: some way would be at or above z, and so above a way
    not_under : at s t z (way k i) ≡ A → at s t k.p z ≡ A → ⊥
    not_under e g = from (a.rule6 k m z hz g)
      where
        from : (j : ℕ) × (j < width k) × Over s t (way k j) z → ⊥
        from (j, l, d) = apart j l (over_above a (way k j) z (way k i) (fed f k m j l) hz (fed f k m i h) d e)

    -- what is above a way is at or above its panel
    pub above_way : at s t z (way k i) ≡ A → Over s t z k.p
    above_way e = by (over_chain a z k.p (way k i) hz (panel f k m) (fed f k m i h) (inr e) (inr (a.rule5 k m i h)))
      where
        by : Over s t z k.p ⊎ Over s t k.p z → Over s t z k.p
        by (inl o) = o
        by (inr (inl d)) = inl (same_turned a k.p z (panel f k m) hz d)
        by (inr (inr d)) = absurd (not_under e d)

    -- what is at or above a panel is above its ways
    pub way_above : Over s t z k.p → at s t z (way k i) ≡ A
    way_above o = over_above a z k.p (way k i) hz (panel f k m) (fed f k m i h) o (a.rule5 k m i h)
