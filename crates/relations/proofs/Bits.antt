-- The operations on sets by the bits of a byte, over the number of relations. Assumes nothing.
use mathlib.Core.Path.{◌≡◌, refl, sym, ap, ◌∙◌}
use mathlib.Core.Bool.{Bool, true, false, not, ◌&&◌, ◌||◌}
use Prim.Native.Nat.{ℕ, zero, suc, ◌+◌, ◌*◌, ◌/◌, ◌%◌, ◌^◌, ◌<◌, min, max}
use native.Mathlib.Omega.{arith}
use lib.Dec.{eqb}
use lib.Bits.{bit_and, bit_or, and_step, and_zero_l, or_step}
use lib.Count.{ones, ones_step, ones_in}
use Rattle.rules.specs.Relations.{has, digit, set_to, count_below}

-- a binary digit as a test and back
odd : (x : ℕ) → x < 2 → digit (eqb x 1) ≡ x
odd zero h = refl
odd (suc zero) h = refl
odd (suc (suc x)) h = let z : ⊥ = omega arith in absurd z

digit_min : (a b : Bool) → digit (a && b) ≡ min (digit a) (digit b)
digit_min true true = refl
digit_min true false = refl
digit_min false true = refl
digit_min false false = refl

digit_max : (a b : Bool) → digit (a || b) ≡ max (digit a) (digit b)
digit_max true true = refl
digit_max true false = refl
digit_max false true = refl
digit_max false false = refl

digit_not : (a : Bool) → digit (not a) + digit a ≡ 1
digit_not true = refl
digit_not false = refl

-- the digits that both have, and those that either has, are those of a byte's `&` and `|`
pub set_to_and : (n x y : ℕ) → x < 2 ^ n → set_to n (λ r. has x r && has y r) ≡ bit_and x y
unfolding has set_to
set_to_and zero x y h = let e : x ≡ 0 = omega arith in sym (ap (λ (z : ℕ). bit_and z y) e ∙ and_zero_l y)
set_to_and (suc n) x y h =
    let rest : set_to n (λ r. has (x / 2) r && has (y / 2) r) ≡ bit_and (x / 2) (y / 2) = set_to_and n (x / 2) (y / 2) (omega arith) in
    let low : digit (eqb (x % 2) 1 && eqb (y % 2) 1) ≡ min (x % 2) (y % 2) =
    rw (digit_min, odd (x % 2) (omega arith), odd (y % 2) (omega arith)) in
    let all : bit_and x y ≡ bit_and (x / 2) (y / 2) * 2 + min (x % 2) (y % 2) = and_step x y in
    omega arith

pub set_to_or : (n x y : ℕ) → x < 2 ^ n → y < 2 ^ n → set_to n (λ r. has x r || has y r) ≡ bit_or x y
unfolding has set_to
set_to_or zero x y h k =
    let e : x ≡ 0 = omega arith in
    let f : y ≡ 0 = omega arith in
    sym (ap (λ (z : ℕ). bit_or z y) e ∙ f)
set_to_or (suc n) x y h k =
    let rest : set_to n (λ r. has (x / 2) r || has (y / 2) r) ≡ bit_or (x / 2) (y / 2) = set_to_or n (x / 2) (y / 2) (omega arith) (omega arith) in
    let low : digit (eqb (x % 2) 1 || eqb (y % 2) 1) ≡ max (x % 2) (y % 2) =
    rw (digit_max, odd (x % 2) (omega arith), odd (y % 2) (omega arith)) in
    let all : bit_or x y ≡ bit_or (x / 2) (y / 2) * 2 + max (x % 2) (y % 2) = or_step x y in
    omega arith

-- the digits that a number lacks and those that it has make them all
pub set_to_not : (n x : ℕ) → x < 2 ^ n → set_to n (λ r. not (has x r)) + x ≡ set_to n (λ r. true)
unfolding has set_to
set_to_not zero x h = omega arith
set_to_not (suc n) x h =
    let rest : set_to n (λ r. not (has (x / 2) r)) + x / 2 ≡ set_to n (λ r. true) = set_to_not n (x / 2) (omega arith) in
    let low : digit (not (eqb (x % 2) 1)) + digit (eqb (x % 2) 1) ≡ 1 = digit_not (eqb (x % 2) 1) in
    let bit : digit (eqb (x % 2) 1) ≡ x % 2 = odd (x % 2) (omega arith) in
    omega arith

-- counting from either end comes to the same
count_low : (n : ℕ) (f : ℕ → Bool) → count_below (suc n) f ≡ digit (f 0) + count_below n (λ r. f (suc r))
count_low zero f = go (f 0)
  where
    go : (b : Bool) → ◌≡◌ {A = ℕ} (elim b [ true ↦ 1 | false ↦ 0 ]) (digit b + 0)
    go true = refl
    go false = refl
count_low (suc n) f = go (f (suc n)) (count_low n f)
  where
    go : (b : Bool) → count_below (suc n) f ≡ digit (f 0) + count_below n (λ r. f (suc r))
        → ◌≡◌ {A = ℕ} (elim b [ true ↦ suc (count_below (suc n) f) | false ↦ count_below (suc n) f ])
        (digit (f 0) + elim b [ true ↦ suc (count_below n (λ r. f (suc r))) | false ↦ count_below n (λ r. f (suc r)) ])
    go true e = omega arith
    go false e = e

-- the number of digits that a number has is a byte's count of ones
pub count_ones : (n x : ℕ) → x < 2 ^ n → count_below n (has x) ≡ ones x
unfolding has ones ones_in
count_ones zero x h = let e : 0 ≡ x = omega arith in ap ones e
count_ones (suc n) x h =
    let rest : count_below n (has (x / 2)) ≡ ones (x / 2) = count_ones n (x / 2) (omega arith) in
    let low : digit (eqb (x % 2) 1) ≡ x % 2 = odd (x % 2) (omega arith) in
    let all : ones x ≡ x % 2 + ones (x / 2) = ones_step x in
    let both : count_below (suc n) (has x) ≡ digit (eqb (x % 2) 1) + count_below n (has (x / 2)) = count_low n (has x) in
    omega arith
