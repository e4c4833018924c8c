-- Digits passed one after the other: they are the digits of the number so far. Assumes nothing.
use mathlib.Core.Path.{◌≡◌, refl, sym, ap, ◌∙◌}
use mathlib.Core.Bool.{Bool, true, false, ◌&&◌}
use mathlib.Core.Logic.{inl, inr}
use mathlib.Core.List.{List, [], ◌∷◌, ◌++◌}
use Prim.Native.Nat.{ℕ, zero, suc, ◌+◌, ◌*◌, ◌≤◌, ◌<◌}
use native.Mathlib.Numerals.{add-one}
use native.Mathlib.Omega.{arith}
use borrow.Author.Tests.{lt-ltb, leb-true, leb-false, eqb-false}
use lib.Dec.{ltb, leb, eqb, ltb→lt, eqb→eq}
use lib.ListN.{length, get_or, take}
use lib.Seq.{take-suc, take_all}
use Rattle.puts.specs.Decimals.{decimal}
use Rattle.puts.proofs.Decimals.{decimal_one, decimal_five}
use Rattle.std.specs.Prelude.{Option, Some, None, Result, Ok, Err}
use Rattle.std.specs.Char.{IsDigitOf}
use Rattle.std.specs.Result.{OkIff, result_ok}
use Rattle.typed.specs.Symbols.{Symbol, number, unknown, most_number, if_number, value, number_of}
use Rattle.spelled.proofs.Numbers.{decimal_next, decimal_digit, decimal_some, decimal_lead, value_decimal, number_of_decimal, number_of_none}
use Rattle.rules.proofs.Tests.{true_T, T-and_left, T-and_right}
use Rattle.symbols.specs.Tokens.{padded}

-- the largest number of i digits
pub most : ℕ → ℕ
most zero = 0
most (suc i) = 10 * most i + 9

pub most_few : (i : ℕ) → i < 5 → most i ≤ 9999
unfolding most
most_few zero h = omega arith
most_few (suc zero) h = omega arith
most_few (suc (suc zero)) h = omega arith
most_few (suc (suc (suc zero))) h = omega arith
most_few (suc (suc (suc (suc zero)))) h = omega arith
most_few (suc (suc (suc (suc (suc i))))) h = let z : ⊥ = omega arith in absurd z

-- there is no leading zero
pub plain_lead : (run : List ℕ) → padded run ≡ false → 1 < length run → get_or run 0 0 ≡ 48 → ⊥
unfolding padded
plain_lead run e h z = eqb-false (get_or run 0 0) 48 (sym (ap (λ (t : Bool). t && eqb (get_or run 0 0) 48) (lt-ltb 1 (length run) h)) ∙ e) z

-- the first i bytes of a run without a leading zero are the digits of a number
pub record SoFar (run : List ℕ) (i n : ℕ) : Type 0 where
  pub inside : i ≤ length run
  pub small : n ≤ most i
  pub none : i ≡ 0 → n ≡ 0
  pub digits : 1 ≤ i → decimal n ≡ take i run
  pub some : 1 ≤ i → 1 < length run → 1 ≤ n

pub none_so_far : (run : List ℕ) → SoFar run 0 0
none_so_far run =
    record {
      inside = omega arith;
      small = omega arith;
      none = λ e. refl;
      digits = λ h. let z : ⊥ = omega arith in absurd z;
      some = λ h l. let z : ⊥ = omega arith in absurd z;
    }

-- another digit
pub next_so_far : (run : List ℕ) (i n d : ℕ) → padded run ≡ false → SoFar run i n → i < length run → d < 10 → get_or run i 0 ≡ 48 + d
    → SoFar run (i + 1) (10 * n + d)
unfolding most
next_so_far run zero n d p s h l e =
    let z : n ≡ 0 = s.none refl in
    let v : d ≡ 10 * n + d = omega arith in
    let t : take 1 run ≡ get_or run 0 0 ∷ [] = take-suc run 0 0 h in
    let c : get_or run 0 0 ≡ 48 + d = e in
    record {
      inside = omega arith;
      small = omega (arith, s.small);
      none = λ q. let z : ⊥ = omega arith in absurd z;
      digits = λ q. ap decimal (sym v) ∙ decimal_one d l ∙ ap (λ (b : ℕ). b ∷ []) (omega arith) ∙ sym t;
      some = λ q m. first (plain_lead run p m) c;
    }
  where
    first : (get_or run 0 0 ≡ 48 → ⊥) → get_or run 0 0 ≡ 48 + d → 1 ≤ 10 * n + d
    first f c = go d c
      where
        go : (d : ℕ) → get_or run 0 0 ≡ 48 + d → 1 ≤ 10 * n + d
        go zero c = absurd (f c)
        go (suc d) c = omega arith
next_so_far run (suc i) n d p s h l e =
    record {
      inside = omega arith;
      small = more;
      none = λ q. let z : ⊥ = omega arith in absurd z;
      digits =
          λ q. decimal_next n d (s.some (omega arith) (omega arith)) l ∙ ap (λ (xs : List ℕ). xs ++ ((48 + d) ∷ [])) (s.digits (omega arith))
          ∙ ap (λ (b : ℕ). take (suc i) run ++ (b ∷ [])) (sym e) ∙ sym (take-suc run (suc i) 0 h) ∙ ap (λ (k : ℕ). take k run) (sym (add-one (suc i)));
      some = λ q m. omega (arith, s.some (omega arith) m);
    }
  where
    more : 10 * n + d ≤ most (suc i + 1)
    more = omega (arith, s.small, ap most (add-one (suc i)))

-- a digit of a number in decimal, as `char` has it
pub decimal_char : (b d : ℕ) → IsDigitOf b d → d < 10 → b ≡ 48 + d
decimal_char b d (inl p) h = sym p.1
decimal_char b d (inr (inl p)) h = let z : ⊥ = omega (arith, p.0, p.1) in absurd z
decimal_char b d (inr (inr p)) h = let z : ⊥ = omega (arith, p.0, p.1) in absurd z

-- a byte that is not between the digits
pub outside : (b : ℕ) → (48 ≤ b → b ≤ 57 → ⊥) → 48 ≤ b → 57 < b
outside b f h = go (leb b 57) refl
  where
    go : (t : Bool) → leb b 57 ≡ t → 57 < b
    go true e = absurd (f h (leb-true _ _ e))
    go false e = leb-false _ _ e

-- ---- what a run spells

module _ (run : List ℕ) where
  pub nothing_spelled : length run ≡ 0 → number_of run ≡ unknown
  nothing_spelled e = number_of_none run (λ n d h. let z : ⊥ = omega (arith, ap length d, decimal_some n) in absurd z)

  pub too_long : 5 < length run → number_of run ≡ unknown
  too_long l = number_of_none run (λ n d h. let z : ⊥ = omega (arith, ap length d, decimal_five n (omega arith)) in absurd z)

  pub padded_none : padded run ≡ true → number_of run ≡ unknown
  unfolding padded
  padded_none p =
      let l = ltb→lt 1 (length run) (T-and_left (ltb 1 (length run)) (eqb (get_or run 0 0) 48) (true_T p)) in
      let e = eqb→eq (get_or run 0 0) 48 (T-and_right (ltb 1 (length run)) (eqb (get_or run 0 0) 48) (true_T p)) in
      number_of_none run
      (λ n d h. let z : ⊥ = omega (arith, decimal_lead n (omega (arith, ap length d)), ap (λ (xs : List ℕ). get_or xs 0 0) d) in absurd z)

  pub no_digit : (i : ℕ) → i < length run → (48 ≤ get_or run i 0 → 57 < get_or run i 0) → number_of run ≡ unknown
  no_digit i l f =
      number_of_none run
      (λ n d h.
      let q = decimal_digit n i (omega (arith, ap length d)) in
      let e : get_or (decimal n) i 0 ≡ get_or run i 0 = ap (λ (xs : List ℕ). get_or xs i 0) (sym d) in
      let z : ⊥ = omega (arith, q.0, q.1, f (omega (arith, q.0))) in absurd z)

  module _ (i n : ℕ) (some : 1 ≤ length run) (l : length run ≤ i) (s : SoFar run i n) where
    all : run ≡ decimal n
    all = sym (s.digits (omega arith) ∙ take_all i run l)

    pub too_large : most_number < n → number_of run ≡ unknown
    too_large m =
        number_of_none run
        (λ k d h. let e : n ≡ k = sym (value_decimal n) ∙ ap (value 0) (sym all ∙ d) ∙ value_decimal k in let z : ⊥ = omega arith in absurd z)

    pub spelled : n ≤ most_number → number_of run ≡ number n
    spelled m = ap number_of all ∙ number_of_decimal n m

  -- ---- the number that a run spells, if any

  number_in : Symbol → Option ℕ
  number_in s = if_number s Some None

  pub no_number : number_of run ≡ unknown → None ≡ if_number (number_of run) Some None
  unfolding number_in
  no_number e = sym (ap number_in e)

  module _ (i n : ℕ) (some : 1 ≤ length run) (l : length run ≤ i) (s : SoFar run i n) where
    pub one_number : {E : Type 0} (r : Result ℕ E) → OkIff r (n < 65536) n → result_ok r ≡ if_number (number_of run) Some None
    unfolding number_in
    one_number (Ok m) p = ap Some p.1 ∙ sym (ap number_in (spelled i n some l s (omega (arith, p.0))))
    one_number (Err e) p = sym (ap number_in (too_large i n some l s (omega (arith, p))))
