-- Numbers in decimal: a number's digits are those of its tenth and its last one; how many there are. Assumes nothing.
use mathlib.Core.Path.{◌≡◌, refl, sym, ap, ◌∙◌}
use mathlib.Core.Bool.{Bool, true, false}
use mathlib.Core.List.{List, [], ◌∷◌, ◌++◌}
use Prim.Native.Nat.{ℕ, zero, suc, ◌+◌, ◌*◌, ◌/◌, ◌≤◌, ◌<◌}
use native.Mathlib.Omega.{arith}
use borrow.Author.Tests.{lt-ltb, le-ltb, ltb-true, ltb-false}
use lib.Dec.{ltb}
use lib.ListN.{length, length-append}
use Rattle.puts.specs.Decimals.{last_digit, digits, decimal}

-- the digits by whether there is only one
by_test : ℕ → ℕ → Bool → List ℕ
by_test k n b = elim b [ true ↦ last_digit n ∷ [] | false ↦ digits k (n / 10) ++ (last_digit n ∷ []) ]

digits_one : (k n : ℕ) → n < 10 → digits (suc k) n ≡ last_digit n ∷ []
unfolding digits by_test
digits_one k n h = ap (by_test k n) (lt-ltb n 10 h)

digits_more : (k n : ℕ) → 10 ≤ n → digits (suc k) n ≡ digits k (n / 10) ++ (last_digit n ∷ [])
unfolding digits by_test
digits_more k n h = ap (by_test k n) (le-ltb n 10 h)

tenth_less : (n : ℕ) → 10 ≤ n → n / 10 < n
tenth_less n h = omega arith

-- more digits than are needed make no difference
digits_enough : (k m n : ℕ) → n < k → n < m → digits k n ≡ digits m n
digits_enough zero m n h l = let z : ⊥ = omega arith in absurd z
digits_enough (suc k) zero n h l = let z : ⊥ = omega arith in absurd z
digits_enough (suc k) (suc m) n h l = go (ltb n 10) refl (digits_enough k m (n / 10))
  where
    go : (b : Bool) → ltb n 10 ≡ b → (n / 10 < k → n / 10 < m → digits k (n / 10) ≡ digits m (n / 10)) → digits (suc k) n ≡ digits (suc m) n
    go true e f = let s = ltb-true n 10 e in digits_one k n s ∙ sym (digits_one m n s)
    go false e f =
        let s : 10 ≤ n = ltb-false n 10 e in
        let r = tenth_less n s in
        digits_more k n s ∙ ap (λ (ds : List ℕ). ds ++ (last_digit n ∷ [])) (f (omega arith) (omega arith)) ∙ sym (digits_more m n s)

pub decimal_one : (n : ℕ) → n < 10 → decimal n ≡ last_digit n ∷ []
unfolding decimal
decimal_one n h = digits_one n n h

pub decimal_more : (n : ℕ) → 10 ≤ n → decimal n ≡ decimal (n / 10) ++ (last_digit n ∷ [])
unfolding decimal
decimal_more n h =
    let r = tenth_less n h in
    digits_more n n h ∙ ap (λ (ds : List ℕ). ds ++ (last_digit n ∷ [])) (digits_enough n (suc (n / 10)) (n / 10) (omega arith) (omega arith))

-- ---- how many digits there are

pub decimal_length_one : (n : ℕ) → n < 10 → length (decimal n) ≡ 1
decimal_length_one n h = ap length (decimal_one n h)

pub decimal_length_more : (n : ℕ) → 10 ≤ n → length (decimal n) ≡ length (decimal (n / 10)) + 1
decimal_length_more n h = ap length (decimal_more n h) ∙ length-append (decimal (n / 10)) (last_digit n ∷ [])

-- each number below m has at most k digits
abbrev Short : ℕ → ℕ → Type 0
Short m k = (n : ℕ) → n < m → length (decimal n) ≤ k

short_one : Short 10 1
short_one n h = omega (arith, decimal_length_one n h)

short_more : (m k : ℕ) → 1 ≤ k → Short m k → Short (10 * m) (suc k)
short_more m k l f n h = go (ltb n 10) refl
  where
    go : (b : Bool) → ltb n 10 ≡ b → length (decimal n) ≤ suc k
    go true e = omega (arith, short_one n (ltb-true n 10 e))
    go false e = omega (arith, f (n / 10) (omega arith), decimal_length_more n (ltb-false n 10 e))

pub decimal_two : Short 100 2
decimal_two = short_more 10 1 (omega arith) short_one

pub decimal_five : Short 100000 5
decimal_five =
    short_more 10000 4 (omega arith) (short_more 1000 3 (omega arith) (short_more 100 2 (omega arith) decimal_two))
