-- A reading by the tests that it passes or fails, in turn. Assumes nothing.
use mathlib.Core.Path.{◌≡◌, refl, ap}
use mathlib.Core.Bool.{Bool, true, false}
use mathlib.Core.List.{List, ◌∷◌}
use Prim.Native.Nat.{ℕ, suc, ◌+◌, ◌-◌}
use native.Mathlib.Nat.{zero-add}
use lib.Dec.{T}
use lib.ListN.{length}
use Rattle.rules.specs.Descriptions.{Reading, good, refused, Front, need, next, later, section}
use Rattle.rules.proofs.Tests.{clash}

pub never : {X Y : Type 0} (n k : ℕ) (x : X) → refused n k ≡ good x → Y
never n k x p = clash (cc)

module _ {X : Type 0} where
  module _ (n k : ℕ) where
    pub need_passed : (b : Bool) (r : Reading X) → T b → need n k b r ≡ r
    need_passed true r t = refl
    need_passed false r t = absurd t

    pub need_failed : (b : Bool) (r : Reading X) → (T b → ⊥) → need n k b r ≡ refused n k
    need_failed true r f = absurd (f tt)
    need_failed false r f = refl

    -- what a good reading passed, and what it then was
    pub need_out : (b : Bool) (r : Reading X) (x : X) → need n k b r ≡ good x → T b × (r ≡ good x)
    need_out true r x p = (tt, p)
    need_out false r x p = never n k x p

    -- what it was refused with, if it was not by this test, does not hang on the test
    pub need_refused : {Y : Type 0} (b : Bool) (r : Reading X) (s : Reading Y) (m j : ℕ) → (r ≡ refused m j → s ≡ refused m j)
        → need n k b r ≡ refused m j → need n k b s ≡ refused m j
    need_refused true r s m j f e = f e
    need_refused false r s m j f e = cc

  pub next_out : {Y : Type 0} (r : Reading Y) (f : Y → Reading X) (x : X) → next r f ≡ good x → (y : Y) × (r ≡ good y) × (f y ≡ good x)
  next_out (good y) f x p = (y, refl, p)
  next_out (refused n k) f x p = never n k x p

  -- words that stand before change the place alone
  pub later_out : (m : ℕ) (r : Reading X) (x : X) → later m r ≡ good x → r ≡ good x
  later_out m (good y) x p = p
  later_out m (refused n k) x p = never n (m + k) x p

  pub later_none : (r : Reading X) → later 0 r ≡ r
  later_none (good x) = refl
  later_none (refused n k) = ap (refused n) (zero-add k)

-- a good section of some lines is its first line and a good section of the others
pub section_first : {X : Type 0} (line : List ℕ → Reading (Front X)) (n : ℕ) (ws : List ℕ) (xs : List X) → section line (suc n) ws ≡ good xs
    → (f : Front X) × (line ws ≡ good f) × (ls : List X) × (section line n f.rest ≡ good ls) × (xs ≡ f.line ∷ ls)
unfolding section
section_first line n ws xs e =
    let (f, d, g) = next_out (line ws) _ xs e in
    let after = next (section line n f.rest) (λ ls. good (f.line ∷ ls)) in
    let (ls, a, b) = next_out (section line n f.rest) _ xs (later_out (length ws - length f.rest) after xs g) in
    (f, d, ls, a, cc)
