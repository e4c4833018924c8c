-- A set of numbers as a number's binary digits: what it has, how large it is and how many it has, once a number is put in or taken out.
-- Each law goes by halving: a digit above the lowest is a digit of the half. Assumes nothing.
use mathlib.Core.Path.{◌≡◌, refl, sym, ap, ◌∙◌, subst}
use mathlib.Core.Bool.{Bool, true, false, not, ◌&&◌, ◌||◌, and-true, and-false, or-true, or-false}
use Prim.Native.Nat.{ℕ, zero, suc, ◌+◌, ◌-◌, ◌*◌, ◌/◌, ◌%◌, ◌^◌, ◌≤◌, ◌<◌, max}
use native.Mathlib.Nat.{one-mul, mod-eq_of_lt}
use native.Mathlib.Omega.{arith}
use borrow.Author.Tests.{eqb-true, eqb-false}
use lib.Bits.{bit_or, or_step, or_zero_r}
use lib.Count.{ones, ones_step, count_trailing_zeros, under}
use lib.Dec.{T, eqb, eqb→eq, eqb-suc-suc, eqb-suc-zero, eqb-zero-suc}
use lib.Pow.{pow_pos, pow-lt}
use Rattle.std.specs.Prelude.{Some}
use Rattle.rules.specs.Relations.{has}
use Rattle.bits.specs.Sets.{word_bits, added, removed, lowest, Taken}
pub use Rattle.rules.proofs.Digits.{has_zero, has_small}

-- ---- the lowest digit, and the others

-- what a set has is counted in its number
pub has_most : (x i : ℕ) → T (has x i) → 2 ^ i ≤ x
unfolding has
has_most x zero t = let e : x % 2 ≡ 1 = eqb→eq (x % 2) 1 t in omega arith
has_most x (suc i) t = let l : 2 ^ i ≤ x / 2 = has_most (x / 2) i t in omega arith

-- the lowest digit and the half, once a number is put in: 0, and one above 0
added_low : (x : ℕ) → (added x 0 % 2 ≡ 1) × (added x 0 / 2 ≡ x / 2)
unfolding has added
added_low x = go (eqb (x % 2) 1) refl
  where
    go : (b : Bool) → eqb (x % 2) 1 ≡ b
        → (elim b [ true ↦ x | false ↦ x + 2 ^ 0 ] % 2 ≡ 1) × (elim b [ true ↦ x | false ↦ x + 2 ^ 0 ] / 2 ≡ x / 2)
    go true e = (eqb-true (x % 2) 1 e, refl)
    go false e = let n : x % 2 ≡ 1 → ⊥ = eqb-false (x % 2) 1 e in (omega arith, omega arith)

added_up : (x i : ℕ) → (added x (suc i) % 2 ≡ x % 2) × (added x (suc i) / 2 ≡ added (x / 2) i)
unfolding has added
added_up x i = go (has (x / 2) i)
  where
    go : (b : Bool)
        → (elim b [ true ↦ x | false ↦ x + 2 ^ suc i ] % 2 ≡ x % 2)
        × (elim b [ true ↦ x | false ↦ x + 2 ^ suc i ] / 2 ≡ elim b [ true ↦ x / 2 | false ↦ x / 2 + 2 ^ i ])
    go true = (refl, refl)
    go false = (omega arith, omega arith)

-- and once one is taken out
removed_low : (x : ℕ) → T (has x 0) → (removed x 0 % 2 ≡ 0) × (removed x 0 / 2 ≡ x / 2)
unfolding has removed
removed_low x t = let e : x % 2 ≡ 1 = eqb→eq (x % 2) 1 t in (omega arith, omega arith)

removed_up : (x i : ℕ) → T (has x (suc i)) → (removed x (suc i) % 2 ≡ x % 2) × (removed x (suc i) / 2 ≡ removed (x / 2) i)
unfolding removed
removed_up x i t = let l : 2 ^ suc i ≤ x = has_most x (suc i) t in (omega arith, omega arith)

-- ---- what a set has

pub has_added : (x i j : ℕ) → has (added x i) j ≡ (has x j || eqb i j)
unfolding has
has_added x zero zero = rw ((added_low x).0, or-true)
has_added x zero (suc j) = rw ((added_low x).1, eqb-zero-suc j, or-false)
has_added x (suc i) zero = rw ((added_up x i).0, eqb-suc-zero i, or-false)
has_added x (suc i) (suc j) = rw ((added_up x i).1, eqb-suc-suc i j) (has_added (x / 2) i j)

pub has_removed : (x i j : ℕ) → T (has x i) → has (removed x i) j ≡ (has x j && not (eqb i j))
unfolding has
has_removed x zero zero t = rw ((removed_low x t).0, and-false)
has_removed x zero (suc j) t = rw ((removed_low x t).1, eqb-zero-suc j, and-true)
has_removed x (suc i) zero t = rw ((removed_up x i t).0, eqb-suc-zero i, and-true)
has_removed x (suc i) (suc j) t = rw ((removed_up x i t).1, eqb-suc-suc i j) (has_removed (x / 2) i j t)

-- ---- how large it is

-- it stays below a power of two
pub added_small : (n x i : ℕ) → x < 2 ^ n → i < n → added x i < 2 ^ n
added_small zero x i h l = let z : ⊥ = omega arith in absurd z
added_small (suc n) x zero h l = let e = added_low x in omega arith
added_small (suc n) x (suc i) h l =
    let e = added_up x i in
    let s : added (x / 2) i < 2 ^ n = added_small n (x / 2) i (omega arith) (omega arith) in
    omega arith

pub removed_small : (n x i : ℕ) → x < 2 ^ n → removed x i < 2 ^ n
unfolding removed
removed_small n x i h = omega arith

-- and is less without a number that it has
pub removed_less : (x i : ℕ) → T (has x i) → removed x i < x
unfolding removed
removed_less x i t = omega (arith, has_most x i t, pow_pos i)

-- ---- the least number that it has

-- by the digits that are left to look at
least_has : (n x : ℕ) → x < 2 ^ n → (x ≡ 0 → ⊥) → T (has x (count_trailing_zeros n x))
unfolding has count_trailing_zeros
least_has zero x h f = absurd (f (omega arith))
least_has (suc n) x h f = go (x % 2) refl (λ g. least_has n (x / 2) (omega arith) g)
  where
    go : (d : ℕ) → x % 2 ≡ d → ((x / 2 ≡ 0 → ⊥) → T (has (x / 2) (count_trailing_zeros n (x / 2)))) → T (has x (under d (count_trailing_zeros n (x / 2))))
    go zero e k = k (λ z. f (omega arith))
    go (suc d) e k = let o : 1 ≡ x % 2 = omega arith in subst (λ (y : ℕ). T (eqb y 1)) o tt

pub lowest_has : (x : ℕ) → x < 2 ^ word_bits → (x ≡ 0 → ⊥) → T (has x (lowest x))
unfolding lowest
lowest_has x h f = least_has word_bits x h f

-- ---- how many it has

-- at most one more, and one less
pub ones_added : (x i : ℕ) → ones (added x i) ≤ suc (ones x)
ones_added x zero =
    let e = added_low x in
    let r : ones (added x 0 / 2) ≡ ones (x / 2) = ap ones e.1 in
    omega (arith, ones_step x, ones_step (added x 0))
ones_added x (suc i) =
    let e = added_up x i in
    let r : ones (added x (suc i) / 2) ≡ ones (added (x / 2) i) = ap ones e.1 in
    let l : ones (added (x / 2) i) ≤ suc (ones (x / 2)) = ones_added (x / 2) i in
    omega (arith, ones_step x, ones_step (added x (suc i)))

pub ones_removed : (x i : ℕ) → T (has x i) → suc (ones (removed x i)) ≡ ones x
unfolding has
ones_removed x zero t =
    let o : x % 2 ≡ 1 = eqb→eq (x % 2) 1 t in
    let e = removed_low x t in
    let r : ones (removed x 0 / 2) ≡ ones (x / 2) = ap ones e.1 in
    omega (arith, ones_step x, ones_step (removed x 0))
ones_removed x (suc i) t =
    let e = removed_up x i t in
    let r : ones (removed x (suc i) / 2) ≡ ones (removed (x / 2) i) = ap ones e.1 in
    let l : suc (ones (removed (x / 2) i)) ≡ ones (x / 2) = ones_removed (x / 2) i t in
    omega (arith, ones_step x, ones_step (removed x (suc i)))

-- ---- a word's bits

-- a number put in is a bit set
pub or_single : (x i : ℕ) → bit_or x (2 ^ i) ≡ added x i
or_single x zero =
    let e = added_low x in
    let r : bit_or (x / 2) 0 ≡ x / 2 = or_zero_r (x / 2) in
    let s : bit_or x 1 ≡ bit_or (x / 2) 0 * 2 + max (x % 2) 1 = or_step x 1 in
    omega arith
or_single x (suc i) =
    let e = added_up x i in
    let h : 2 ^ suc i / 2 ≡ 2 ^ i = omega arith in
    let l : 2 ^ suc i % 2 ≡ 0 = omega arith in
    let r : bit_or (x / 2) (2 ^ suc i / 2) ≡ added (x / 2) i = rw h (or_single (x / 2) i) in
    let s : bit_or x (2 ^ suc i) ≡ bit_or (x / 2) (2 ^ suc i / 2) * 2 + max (x % 2) (2 ^ suc i % 2) = or_step x (2 ^ suc i) in
    omega arith

-- a number below the bits of a word is a bit of it
pub single_word : (i : ℕ) → i < word_bits → 1 * 2 ^ i % 2 ^ word_bits ≡ 2 ^ i
single_word i h = ap (λ (n : ℕ). n % 2 ^ word_bits) (one-mul (2 ^ i)) ∙ mod-eq_of_lt (pow-lt h)

-- the least number is put out by the bit that is set for it
module _ (x i : ℕ) (h : x < 2 ^ word_bits) (some : x ≡ 0 → ⊥) (low : i ≡ count_trailing_zeros word_bits x) where
  met : T (has x i)
  unfolding lowest
  met = subst (λ (j : ℕ). T (has x j)) (sym low) (lowest_has x h some)

  pub taken_fits : 1 * 2 ^ i % 2 ^ word_bits ≤ x
  taken_fits = rw (single_word i (has_small word_bits x i h met)) (has_most x i met)

  pub taken_least : Taken x (x - 1 * 2 ^ i % 2 ^ word_bits) (Some i)
  unfolding lowest removed
  taken_least = (low, met, has_small word_bits x i h met, ap (λ (n : ℕ). x - n) (single_word i (has_small word_bits x i h met)))
