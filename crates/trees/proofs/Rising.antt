-- Rising numbers of children: the numbers at two positions differ, and two rising lists with the same numbers are one.
-- Assumes nothing.
use mathlib.Core.Path.{◌≡◌, refl, sym, ap₂}
use mathlib.Core.Logic.{◌⊎◌, inl, inr}
use mathlib.Core.List.Memᴰ
use mathlib.Core.List.{List, [], ◌∷◌, Memᴰ}
use Prim.Native.Nat.{ℕ, zero, suc, ◌<◌}
use native.Mathlib.Nat.{not-suc-le-zero, le_of_suc-le-suc}
use native.Mathlib.Omega.{arith}
use lib.Dec.{T, ltb, ltb→lt}
use lib.ListN.{length, get_or}
use Rattle.rules.proofs.Tests.{T-and_left, T-and_right, order_cases}
use Rattle.rules.proofs.Members.{member_at}
use Rattle.trees.specs.Trees.{rising}

-- what comes after the first number rises too
rising_tail : (c : ℕ) (cs : List ℕ) → T (rising (c ∷ cs)) → T (rising cs)
rising_tail c [] t = tt
rising_tail c (d ∷ cs) t = T-and_right (ltb c d) (rising (d ∷ cs)) t

-- the first number is below all that come after it
rising_head : (c : ℕ) (cs : List ℕ) → T (rising (c ∷ cs)) → (e : ℕ) → Memᴰ e cs → c < e
rising_head c [] t e m = absurd (Memᴰ.not-nil m)
rising_head c (d ∷ cs) t e m = go (Memᴰ.cases_cons m) (rising_head d cs (rising_tail c (d ∷ cs) t) e)
  where
    first : c < d
    first = ltb→lt c d (T-and_left (ltb c d) (rising (d ∷ cs)) t)

    go : (e ≡ d) ⊎ Memᴰ e cs → (Memᴰ e cs → d < e) → c < e
    go (inl g) k = omega (arith, first)
    go (inr n) k = omega (arith, first, k n)

-- an earlier child has the smaller number
rising_order : (cs : List ℕ) → T (rising cs) → (i j : ℕ) → i < j → j < length cs → get_or cs i 0 < get_or cs j 0
rising_order [] t i j h l = absurd (not-suc-le-zero l)
rising_order (c ∷ cs) t i zero h l = absurd (not-suc-le-zero h)
rising_order (c ∷ cs) t zero (suc j) h l = rising_head c cs t (get_or cs j 0) (member_at cs j (le_of_suc-le-suc l))
rising_order (c ∷ cs) t (suc i) (suc j) h l = rising_order cs (rising_tail c cs t) i j (le_of_suc-le-suc h) (le_of_suc-le-suc l)

-- children at different positions have different numbers
pub rising_differ : (cs : List ℕ) → T (rising cs) → (i j : ℕ) → i < length cs → j < length cs → (i ≡ j → ⊥) → get_or cs i 0 ≡ get_or cs j 0 → ⊥
rising_differ cs t i j hi hj n e = go (order_cases i j)
  where
    go : (i < j) ⊎ ((j < i) ⊎ (i ≡ j)) → ⊥
    go (inl l) = omega (arith, rising_order cs t i j l hj)
    go (inr (inl l)) = omega (arith, rising_order cs t j i l hi)
    go (inr (inr d)) = n d

-- each number of the first list is one of the second
abbrev pub Among : List ℕ → List ℕ → Type 0
Among cs ds = (e : ℕ) → Memᴰ e cs → Memᴰ e ds

-- the first numbers of two rising lists with the same numbers are equal
heads_equal : (c d : ℕ) (cs ds : List ℕ) → T (rising (c ∷ cs)) → T (rising (d ∷ ds)) → Among (c ∷ cs) (d ∷ ds) → Among (d ∷ ds) (c ∷ cs) → c ≡ d
heads_equal c d cs ds t u f g = go (Memᴰ.cases_cons (f c (Memᴰ.head refl))) (Memᴰ.cases_cons (g d (Memᴰ.head refl)))
  where
    go : (c ≡ d) ⊎ Memᴰ c ds → (d ≡ c) ⊎ Memᴰ d cs → c ≡ d
    go (inl e) w = e
    go (inr m) (inl e) = sym e
    go (inr m) (inr n) = let z : ⊥ = omega (arith, rising_head c cs t d n, rising_head d ds u c m) in absurd z

-- what comes after equal first numbers is the same too
tails_among : (c d : ℕ) (cs ds : List ℕ) → c ≡ d → T (rising (c ∷ cs)) → Among (c ∷ cs) (d ∷ ds) → Among cs ds
tails_among c d cs ds e t f a m = go (Memᴰ.cases_cons (f a (Memᴰ.tail m)))
  where
    go : (a ≡ d) ⊎ Memᴰ a ds → Memᴰ a ds
    go (inl g) = let z : ⊥ = omega (arith, rising_head c cs t a m) in absurd z
    go (inr n) = n

-- two rising lists with the same numbers are one
pub rising_one : (cs ds : List ℕ) → T (rising cs) → T (rising ds) → Among cs ds → Among ds cs → cs ≡ ds
rising_one [] [] t u f g = refl
rising_one [] (d ∷ ds) t u f g = absurd (Memᴰ.not-nil (g d (Memᴰ.head refl)))
rising_one (c ∷ cs) [] t u f g = absurd (Memᴰ.not-nil (f c (Memᴰ.head refl)))
rising_one (c ∷ cs) (d ∷ ds) t u f g =
    let e = heads_equal c d cs ds t u f g in
    ap₂ ◌∷◌ e
    (rising_one cs ds (rising_tail c cs t) (rising_tail d ds u) (tails_among c d cs ds e t f) (tails_among d c ds cs (sym e) u g))
