-- A number by its binary digits: what a number built from digits has, and that two numbers with the same digits are equal. Assumes nothing.
use mathlib.Core.Path.{◌≡◌, refl, sym, ap, ◌∙◌, subst}
use mathlib.Core.Bool.{Bool, true, false}
use Prim.Native.Nat.{ℕ, zero, suc, ◌+◌, ◌*◌, ◌/◌, ◌%◌, ◌^◌, ◌<◌}
use native.Mathlib.Nat.{not-suc-le-zero, le_of_suc-le-suc}
use native.Mathlib.Omega.{arith}
use lib.Dec.{T, eqb}
use Rattle.rules.specs.Relations.{has, digit, set_to}

-- what a digit adds
half : (b : Bool) (y : ℕ) → (digit b + 2 * y) / 2 ≡ y
half true y = omega arith
half false y = omega arith

odd : (b : Bool) (y : ℕ) → eqb ((digit b + 2 * y) % 2) 1 ≡ b
odd true y = let e : (1 + 2 * y) % 2 ≡ 1 = omega arith in ap (λ (x : ℕ). eqb x 1) e
odd false y = let e : (0 + 2 * y) % 2 ≡ 0 = omega arith in ap (λ (x : ℕ). eqb x 1) e

pub has_set_to : (n : ℕ) (f : ℕ → Bool) (r : ℕ) → r < n → has (set_to n f) r ≡ f r
unfolding has set_to
has_set_to zero f r h = absurd (not-suc-le-zero h)
has_set_to (suc n) f zero h = odd (f 0) (set_to n (λ r. f (suc r)))
has_set_to (suc n) f (suc r) h =
    ap (λ (x : ℕ). has x r) (half (f 0) (set_to n (λ r. f (suc r)))) ∙ has_set_to n (λ r. f (suc r)) r (le_of_suc-le-suc h)

digit_small : (b : Bool) → digit b < 2
digit_small true = omega arith
digit_small false = omega arith

pub set_to_small : (n : ℕ) (f : ℕ → Bool) → set_to n f < 2 ^ n
unfolding set_to
set_to_small zero f = omega arith
set_to_small (suc n) f = let l : set_to n (λ r. f (suc r)) < 2 ^ n = set_to_small n (λ r. f (suc r)) in omega (arith, digit_small (f 0))

same_odd : (a b : ℕ) → a < 2 → b < 2 → eqb a 1 ≡ eqb b 1 → a ≡ b
same_odd zero zero g h e = refl
same_odd zero (suc zero) g h e = absurd (subst T (sym e) tt)
same_odd zero (suc (suc b)) g h e = let z : ⊥ = omega arith in absurd z
same_odd (suc zero) zero g h e = absurd (subst T e tt)
same_odd (suc zero) (suc zero) g h e = refl
same_odd (suc zero) (suc (suc b)) g h e = let z : ⊥ = omega arith in absurd z
same_odd (suc (suc a)) b g h e = let z : ⊥ = omega arith in absurd z

-- two numbers with the same digits below n are equal
pub digits_ext : (n x y : ℕ) → x < 2 ^ n → y < 2 ^ n → ((r : ℕ) → r < n → has x r ≡ has y r) → x ≡ y
unfolding has
digits_ext zero x y h k e = omega arith
digits_ext (suc n) x y h k e =
    let o : x % 2 ≡ y % 2 = same_odd (x % 2) (y % 2) (omega arith) (omega arith) (e 0 (omega arith)) in
    let d : x / 2 ≡ y / 2 = digits_ext n (x / 2) (y / 2) (omega arith) (omega arith) (λ r l. e (suc r) (omega arith)) in
    omega arith

-- the empty set has nothing, and 2 ^ r has r alone
pub has_zero : (r : ℕ) → has 0 r ≡ false
unfolding has
has_zero zero = refl
has_zero (suc r) = has_zero r

pub has_single : (r : ℕ) → T (has (2 ^ r) r)
unfolding has
has_single zero = tt
has_single (suc r) = let e : 2 ^ suc r / 2 ≡ 2 ^ r = omega arith in subst (λ (x : ℕ). T (has x r)) (sym e) (has_single r)

pub single_has : (r s : ℕ) → T (has (2 ^ r) s) → s ≡ r
unfolding has
single_has zero zero t = refl
single_has zero (suc s) t = absurd (subst T (has_zero s) t)
single_has (suc r) zero t = let e : 2 ^ suc r % 2 ≡ 0 = omega arith in absurd (subst (λ (x : ℕ). T (eqb x 1)) e t)
single_has (suc r) (suc s) t =
    let e : 2 ^ suc r / 2 ≡ 2 ^ r = omega arith in ap suc (single_has r s (subst (λ (x : ℕ). T (has x s)) e t))

-- a member of a set below 2 ^ n is below n
pub has_small : (n x r : ℕ) → x < 2 ^ n → T (has x r) → r < n
unfolding has
has_small zero x r h t = let e : x ≡ 0 = omega arith in absurd (subst T (has_zero r) (subst (λ (y : ℕ). T (has y r)) e t))
has_small (suc n) x zero h t = omega arith
has_small (suc n) x (suc r) h t = let l : r < n = has_small n (x / 2) r (omega arith) t in omega arith
