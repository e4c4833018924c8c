-- Numbers in decimal, read back: their digits, and that a run of bytes is read as a number exactly if it spells that number. Assumes nothing.
use mathlib.Core.Path.{◌≡◌, refl, sym, ap, ap₂, ◌∙◌, subst}
use mathlib.Core.Bool.{Bool, true, false, ◌&&◌}
use mathlib.Core.Logic.{◌⊎◌, inl, inr, ⊎_elim}
use mathlib.Core.List.{List, [], ◌∷◌, ◌++◌}
use Prim.Native.Nat.{ℕ, zero, suc, ◌+◌, ◌-◌, ◌*◌, ◌/◌, ◌%◌, ◌≤◌, ◌<◌}
use native.Mathlib.Omega.{arith}
use borrow.Author.Tests.{ltb-true, ltb-false}
use lib.Dec.{ltb, leb, leb→le, le→leb}
use lib.ListN.{length, get_or, length-append, get_or-append}
use lib.Seq.{get_or-append_seam}
use Rattle.puts.specs.Decimals.{decimal, last_digit}
use Rattle.puts.proofs.Decimals.{decimal_one, decimal_more}
use Rattle.rules.proofs.Tests.{clash, T_true, true_T, and_T, T-and_left, T-and_right, below_suc}
use Rattle.typed.specs.Symbols.{Symbol, number, unknown, most_number, equal_bytes, value, number_of}
use Rattle.spelled.proofs.Runs.{same_bytes, bytes_same}

-- ---- the digits of a number

-- one more digit after those of a number
pub decimal_next : (n d : ℕ) → 1 ≤ n → d < 10 → decimal (10 * n + d) ≡ decimal n ++ ((48 + d) ∷ [])
decimal_next n d h l = decimal_more (10 * n + d) (omega arith) ∙ ap₂ (λ (m c : ℕ). decimal m ++ (c ∷ [])) (omega arith) (omega arith)

-- what holds of each single digit, and of each number with another digit if it holds of the number, holds of all numbers
module _ (P : List ℕ → ℕ → Type 0) (single : (d : ℕ) → d < 10 → P ((48 + d) ∷ []) d)
    (next : (n d : ℕ) → 1 ≤ n → d < 10 → P (decimal n) n → P (decimal n ++ ((48 + d) ∷ [])) (10 * n + d)) where
  by_tenths : (k n : ℕ) → n < k → P (decimal n) n
  by_tenths zero n h = let z : ⊥ = omega arith in absurd z
  by_tenths (suc k) n h = go (ltb n 10) refl (by_tenths k (n / 10))
    where
      go : (b : Bool) → ltb n 10 ≡ b → (n / 10 < k → P (decimal (n / 10)) (n / 10)) → P (decimal n) n
      go true e f =
          let s : n < 10 = ltb-true n 10 e in
          let d : 48 + n ≡ last_digit n = omega arith in
          subst (λ (xs : List ℕ). P xs n) (ap (λ (c : ℕ). c ∷ []) d ∙ sym (decimal_one n s)) (single n s)
      go false e f =
          let s : 10 ≤ n = ltb-false n 10 e in
          let v : 10 * (n / 10) + n % 10 ≡ n = omega arith in
          let m : n % 10 < 10 = omega arith in
          subst (λ (xs : List ℕ). P xs n) (sym (decimal_more n s))
          (subst (λ (j : ℕ). P (decimal (n / 10) ++ (last_digit n ∷ [])) j) v (next (n / 10) (n % 10) (omega arith) m (f (omega arith))))

  by_digits : (n : ℕ) → P (decimal n) n
  by_digits n = by_tenths (suc n) n (omega arith)

-- there is a digit
pub decimal_some : (n : ℕ) → 1 ≤ length (decimal n)
decimal_some = by_digits (λ ds n. 1 ≤ length ds) (λ d h. omega arith) (λ n d h l p. simp length-append (omega arith))

-- each is one of 0 to 9
pub decimal_digit : (n i : ℕ) → i < length (decimal n) → (48 ≤ get_or (decimal n) i 0) × (get_or (decimal n) i 0 ≤ 57)
decimal_digit = by_digits (λ ds n. (i : ℕ) → i < length ds → (48 ≤ get_or ds i 0) × (get_or ds i 0 ≤ 57)) single next
  where
    single : (d : ℕ) → d < 10 → (i : ℕ) → i < 1 → (48 ≤ get_or ((48 + d) ∷ []) i 0) × (get_or ((48 + d) ∷ []) i 0 ≤ 57)
    single d h zero l = (omega arith, omega arith)
    single d h (suc i) l = let z : ⊥ = omega arith in absurd z

    next : (n d : ℕ) → 1 ≤ n → d < 10 → ((i : ℕ) → i < length (decimal n) → (48 ≤ get_or (decimal n) i 0) × (get_or (decimal n) i 0 ≤ 57))
        → (i : ℕ) → i < length (decimal n ++ ((48 + d) ∷ []))
        → (48 ≤ get_or (decimal n ++ ((48 + d) ∷ [])) i 0) × (get_or (decimal n ++ ((48 + d) ∷ [])) i 0 ≤ 57)
    next n d h l p i b = go (below_suc {n = length (decimal n)} (omega (arith, length-append (decimal n) ((48 + d) ∷ []))))
      where
        go : (i ≡ length (decimal n)) ⊎ (i < length (decimal n))
            → (48 ≤ get_or (decimal n ++ ((48 + d) ∷ [])) i 0) × (get_or (decimal n ++ ((48 + d) ∷ [])) i 0 ≤ 57)
        go (inl e) = rw (e, get_or-append_seam) (omega arith, omega arith)
        go (inr m) = rw get_or-append (p i m)

-- the digits of a number that is not 0 begin with no 0
lead : (n : ℕ) → 1 ≤ n → 49 ≤ get_or (decimal n) 0 0
lead =
    by_digits (λ ds n. 1 ≤ n → 49 ≤ get_or ds 0 0) (λ d h l. omega arith)
    (λ n d h l p m. let s : 0 < length (decimal n) = decimal_some n in rw get_or-append (p h))

-- of two digits or more the first is no 0
pub decimal_lead : (n : ℕ) → 2 ≤ length (decimal n) → 49 ≤ get_or (decimal n) 0 0
decimal_lead n h = go (ltb n 10) refl
  where
    go : (b : Bool) → ltb n 10 ≡ b → 49 ≤ get_or (decimal n) 0 0
    go true e = let z : ⊥ = omega (arith, ap length (decimal_one n (ltb-true n 10 e))) in absurd z
    go false e = lead n (omega (arith, ltb-false n 10 e))

-- ---- the number that bytes make

-- the digits go on from the number that those before them make
pub value_append : (n : ℕ) (xs ys : List ℕ) → value n (xs ++ ys) ≡ value (value n xs) ys
unfolding value
value_append n [] ys = refl
value_append n (x ∷ xs) ys = value_append (10 * n + (x - 48)) xs ys

-- the digits of a number make it
pub value_decimal : (n : ℕ) → value 0 (decimal n) ≡ n
unfolding value
value_decimal =
    by_digits (λ ds n. value 0 ds ≡ n) (λ d h. omega arith)
    (λ n d h l p. value_append 0 (decimal n) ((48 + d) ∷ []) ∙ ap (λ (m : ℕ). 10 * m + (48 + d - 48)) p ∙ omega arith)

-- the bytes are the digits of this number, and it is not too large
spells : ℕ → List ℕ → Bool
spells n r = leb n most_number && equal_bytes (decimal n) r

spells_in : (n : ℕ) → n ≤ most_number → spells n (decimal n) ≡ true
unfolding spells
spells_in n h = T_true (and_T (leb n most_number) (equal_bytes (decimal n) (decimal n)) (le→leb n most_number h) (true_T (bytes_same (decimal n))))

spells_out : (n : ℕ) (r : List ℕ) → spells n r ≡ true → (r ≡ decimal n) × (n ≤ most_number)
unfolding spells
spells_out n r e =
    let same = T-and_right (leb n most_number) (equal_bytes (decimal n) r) (true_T e) in
    (sym (same_bytes (decimal n) r (T_true same)), leb→le n most_number (T-and_left (leb n most_number) (equal_bytes (decimal n) r) (true_T e)))

-- what they are read as by whether they are
by_test : ℕ → Bool → Symbol
by_test n b = elim b [ true ↦ number n | false ↦ unknown ]

-- the digits of a number that is not too large are read as it
pub number_of_decimal : (n : ℕ) → n ≤ most_number → number_of (decimal n) ≡ number n
unfolding number_of by_test spells
number_of_decimal n h = ap (λ (m : ℕ). by_test m (spells m (decimal n))) (value_decimal n) ∙ ap (by_test n) (spells_in n h)

-- and nothing else is
pub number_of_number : (r : List ℕ) (n : ℕ) → number_of r ≡ number n → (r ≡ decimal n) × (n ≤ most_number)
unfolding number_of by_test spells
number_of_number r n e = go (spells (value 0 r) r) refl e
  where
    go : (b : Bool) → spells (value 0 r) r ≡ b → by_test (value 0 r) b ≡ number n → (r ≡ decimal n) × (n ≤ most_number)
    go true t p = let v : value 0 r ≡ n = cc in subst (λ (m : ℕ). (r ≡ decimal m) × (m ≤ most_number)) v (spells_out (value 0 r) r t)
    go false t p = clash (cc)

-- bytes are read as the number that they make, or are unknown
pub number_of_either : (r : List ℕ) → (number_of r ≡ number (value 0 r)) ⊎ (number_of r ≡ unknown)
unfolding number_of by_test spells
number_of_either r = go (spells (value 0 r) r)
  where
    go : (b : Bool) → (by_test (value 0 r) b ≡ number (value 0 r)) ⊎ (by_test (value 0 r) b ≡ unknown)
    go true = inl refl
    go false = inr refl

-- they are unknown if they are the digits of no number that is not too large
pub number_of_none : (r : List ℕ) → ((n : ℕ) → r ≡ decimal n → n ≤ most_number → ⊥) → number_of r ≡ unknown
number_of_none r f = ⊎_elim (λ e. let s = number_of_number r (value 0 r) e in absurd (f (value 0 r) s.0 s.1)) (λ e. e) (number_of_either r)
