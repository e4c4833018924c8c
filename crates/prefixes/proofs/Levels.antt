-- Which of two words binds looser: `or`, then `and`, then every other. Assumes nothing.
use mathlib.Core.Path.{◌≡◌, refl, sym, ap, ◌∙◌}
use mathlib.Core.Bool.{Bool, true, false, not, ◌||◌, ◌&&◌}
use Prim.Native.Nat.{ℕ, zero, suc}
use native.Mathlib.Nat.{le_of_eq}
use native.Mathlib.Omega.{arith}
use lib.Dec.{leb, ltb, eqb}
use borrow.Author.Tests.{le-leb, le-ltb, eq-eqb, ne_eqb}
use Rattle.typed.specs.Scanning.{Item, tightness, level, joins, outranks}

-- a word at the depth of an earlier one outranks it so, by the codes
over : ℕ → ℕ → Bool
over k l = joins k && leb (level k) (level l)

or_over : (l : ℕ) → over 4 l ≡ true
unfolding tightness over
or_over l = le-leb 0 (level l) (omega arith)

and_over : (l : ℕ) → over 5 l ≡ not (eqb l 4)
unfolding tightness over
and_over zero = refl
and_over (suc zero) = refl
and_over (suc (suc zero)) = refl
and_over (suc (suc (suc zero))) = refl
and_over (suc (suc (suc (suc zero)))) = refl
and_over (suc (suc (suc (suc (suc zero))))) = refl
and_over (suc (suc (suc (suc (suc (suc zero)))))) = refl
and_over (suc (suc (suc (suc (suc (suc (suc zero))))))) = refl
and_over (suc (suc (suc (suc (suc (suc (suc (suc l)))))))) = sym (ap not (ne_eqb (suc (suc (suc (suc (suc (suc (suc (suc l)))))))) 4 (λ e. omega arith)))

other_over : (k l : ℕ) → (k ≡ 4 → ⊥) → (k ≡ 5 → ⊥) → over k l ≡ false
unfolding tightness over
other_over zero l f g = refl
other_over (suc zero) l f g = refl
other_over (suc (suc zero)) l f g = refl
other_over (suc (suc (suc zero))) l f g = refl
other_over (suc (suc (suc (suc zero)))) l f g = absurd (f refl)
other_over (suc (suc (suc (suc (suc zero))))) l f g = absurd (g refl)
other_over (suc (suc (suc (suc (suc (suc zero)))))) l f g = refl
other_over (suc (suc (suc (suc (suc (suc (suc zero))))))) l f g = refl
other_over (suc (suc (suc (suc (suc (suc (suc (suc k)))))))) l f g = refl

or_false : (b : Bool) → b ≡ b || false
or_false true = refl
or_false false = refl

module _ (x y : Item) where
  -- at another depth
  pub outranks_apart : (x.depth ≡ y.depth → ⊥) → ltb x.depth y.depth ≡ outranks x y
  unfolding outranks
  outranks_apart f = rw (ne_eqb x.depth y.depth f) (or_false (ltb x.depth y.depth))

  module _ (e : x.depth ≡ y.depth) where
    level_with : over x.code y.code ≡ outranks x y
    unfolding outranks over
    level_with = rw (le-ltb x.depth y.depth (le_of_eq (sym e)), eq-eqb x.depth y.depth e) refl

    pub outranks_or : x.code ≡ 4 → true ≡ outranks x y
    outranks_or h = sym (or_over y.code) ∙ ap (λ (k : ℕ). over k y.code) (sym h) ∙ level_with

    pub outranks_and : x.code ≡ 5 → not (eqb y.code 4) ≡ outranks x y
    outranks_and h = sym (and_over y.code) ∙ ap (λ (k : ℕ). over k y.code) (sym h) ∙ level_with

    pub outranks_other : (x.code ≡ 4 → ⊥) → (x.code ≡ 5 → ⊥) → false ≡ outranks x y
    outranks_other f g = sym (other_over x.code y.code f g) ∙ level_with
