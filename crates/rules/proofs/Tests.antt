-- Tests: what they say together, and what a test says of the numbers below n: some pass, each passes, so many pass. Assumes nothing.
use mathlib.Core.Path.{◌≡◌, refl, sym, subst}
use mathlib.Core.Bool.{Bool, true, false, not, ◌&&◌, ◌||◌}
use mathlib.Core.Logic.{◌⊎◌, inl, inr, ⊎_elim}
use Prim.Native.Nat.{ℕ, zero, suc, ◌≤◌, ◌<◌}
use native.Mathlib.Nat.{not-suc-le-zero, le_of_suc-le-suc, eq-or-lt_of_le, le_antisymm}
use native.Mathlib.Omega.{arith}
use borrow.Author.Tests.{ltb-true, ltb-false, leb-true, leb-false, eqb-true, eqb-false, not-true, not-false}
use lib.Dec.{T, eqb, eqb→eq, eqb_refl, T_not, not_T, ltb, ltb→lt, nltb→le}
use Rattle.rules.specs.Relations.{some_below, each_below, count_below}

-- what two constructors of one type being equal comes to
pub clash : {X : Type 0} → ◌≡◌ {A = ℕ} 0 1 → X
clash e = let z : ⊥ = omega arith in absurd z

-- ---- tests

-- a test that two numbers differ, passed or not
pub unequal : (a b : ℕ) → not (eqb a b) ≡ true → a ≡ b → ⊥
unequal a b p = eqb-false a b (not-true (eqb a b) p)

pub equal : (a b : ℕ) → not (eqb a b) ≡ false → a ≡ b
equal a b p = eqb-true a b (not-false (eqb a b) p)

-- what `omega` is handed where the code's tests of numbers stand as tests: after the first of a row of them
pub ruleset tested = (arith, ltb-true, ltb-false, leb-true, leb-false, unequal, equal)

pub T_true : {b : Bool} → T b → b ≡ true
T_true {b} t = go b t
  where
    go : (b : Bool) → T b → b ≡ true
    go true t = refl
    go false t = absurd t

pub T_false : {b : Bool} → (T b → ⊥) → b ≡ false
T_false {b = true} f = absurd (f tt)
T_false {b = false} f = refl

pub true_T : {b : Bool} → b ≡ true → T b
true_T e = subst T (sym e) tt

pub and_T : (a b : Bool) → T a → T b → T (a && b)
and_T true b s t = t
and_T false b s t = s

pub T-and_left : (a b : Bool) → T (a && b) → T a
T-and_left true b t = tt
T-and_left false b t = t

pub T-and_right : (a b : Bool) → T (a && b) → T b
T-and_right true b t = t
T-and_right false b t = absurd t

pub or_T_left : (a b : Bool) → T a → T (a || b)
or_T_left true b t = tt
or_T_left false b t = absurd t

pub or_T_right : (a b : Bool) → T b → T (a || b)
or_T_right true b t = tt
or_T_right false b t = t

pub T-or : (a b : Bool) → T (a || b) → T a ⊎ T b
T-or true b t = inl tt
T-or false b t = inr t

pub T-decide : (b : Bool) → T b ⊎ T (not b)
T-decide true = inl tt
T-decide false = inr tt

pub T_not-not : (b : Bool) → (T (not b) → ⊥) → T b
T_not-not true f = tt
T_not-not false f = f tt

-- two tests that imply one another are equal
pub T-ext : (a b : Bool) → (T a → T b) → (T b → T a) → a ≡ b
T-ext true true f g = refl
T-ext true false f g = absurd (f tt)
T-ext false true f g = absurd (g tt)
T-ext false false f g = refl

pub differ_T : {i j : ℕ} → (i ≡ j → ⊥) → T (not (eqb i j))
differ_T {i} {j} n = not_T (eqb i j) (λ e. n (eqb→eq i j e))

pub T-differ : {i j : ℕ} → T (not (eqb i j)) → i ≡ j → ⊥
T-differ {i} {j} t e = T_not (eqb i j) t (subst (λ (k : ℕ). T (eqb i k)) e (eqb_refl i))

-- of two numbers one is below the other, or they are equal
pub order_cases : (m n : ℕ) → (m < n) ⊎ ((n < m) ⊎ (m ≡ n))
order_cases m n =
    ⊎_elim (λ l. inl (ltb→lt m n l))
    (λ a. ⊎_elim (λ l. inr (inl (ltb→lt n m l))) (λ b. inr (inr (le_antisymm (nltb→le n m b) (nltb→le m n a)))) (T-decide (ltb n m)))
    (T-decide (ltb m n))

-- ---- tests over the numbers below n

-- below suc n is below n, or n
pub below_suc : {i n : ℕ} → i < suc n → (i ≡ n) ⊎ (i < n)
below_suc h = eq-or-lt_of_le (le_of_suc-le-suc h)

pub some_in : (n : ℕ) (f : ℕ → Bool) (i : ℕ) → i < n → T (f i) → T (some_below n f)
some_in zero f i h t = absurd (not-suc-le-zero h)
some_in (suc n) f i h t = go (f n) (some_below n f) (below_suc h) (λ e. subst (λ (j : ℕ). T (f j)) e t) (λ l. some_in n f i l t)
  where
    go : (b c : Bool) → (i ≡ n) ⊎ (i < n) → (i ≡ n → T b) → (i < n → T c) → T (elim b [ true ↦ true | false ↦ c ])
    go true c d f g = tt
    go false c (inl e) f g = absurd (f e)
    go false c (inr l) f g = g l

pub some_out : (n : ℕ) (f : ℕ → Bool) → T (some_below n f) → (i : ℕ) × (i < n) × T (f i)
some_out zero f t = absurd t
some_out (suc n) f t = go (f n) (some_below n f) refl t (λ u. some_out n f u)
  where
    go : (b c : Bool) → f n ≡ b → T (elim b [ true ↦ true | false ↦ c ]) → (T c → (i : ℕ) × (i < n) × T (f i)) → (i : ℕ) × (i < suc n) × T (f i)
    go true c e t g = (n, omega arith, true_T e)
    go false c e t g = let r : (i : ℕ) × (i < n) × T (f i) = g t in let l : r.0 < n = r.1 in (r.0, omega arith, r.2)

pub each_at : (n : ℕ) (f : ℕ → Bool) → T (each_below n f) → (i : ℕ) → i < n → T (f i)
each_at zero f t i h = absurd (not-suc-le-zero h)
each_at (suc n) f t i h = go (f n) (each_below n f) refl t (below_suc h) (λ u l. each_at n f u i l)
  where
    go : (b c : Bool) → f n ≡ b → T (elim b [ true ↦ c | false ↦ false ]) → (i ≡ n) ⊎ (i < n) → (T c → i < n → T (f i)) → T (f i)
    go true c e t (inl d) g = subst (λ (j : ℕ). T (f j)) (sym d) (true_T e)
    go true c e t (inr l) g = g t l
    go false c e t d g = absurd t

-- a test of two numbers
pub each_at_both : (n m : ℕ) (f : ℕ → ℕ → Bool) → T (each_below n (λ i. each_below m (f i))) → (i j : ℕ) → i < n → j < m → T (f i j)
each_at_both n m f t i j h l = each_at m (f i) (each_at n (λ i. each_below m (f i)) t i h) j l

pub each_all : (n : ℕ) (f : ℕ → Bool) → ((i : ℕ) → i < n → T (f i)) → T (each_below n f)
each_all zero f h = tt
each_all (suc n) f h = go (f n) (each_below n f) (h n (omega arith)) (each_all n f (λ i l. h i (omega arith)))
  where
    go : (b c : Bool) → T b → T c → T (elim b [ true ↦ c | false ↦ false ])
    go true c s t = t
    go false c s t = s

-- more passes, at least as many are counted
pub count_mono : (n : ℕ) (f g : ℕ → Bool) → ((i : ℕ) → i < n → T (f i) → T (g i)) → count_below n f ≤ count_below n g
count_mono zero f g h = omega arith
count_mono (suc n) f g h = go (f n) (g n) (h n (omega arith)) (count_mono n f g (λ i l. h i (omega arith)))
  where
    go : (a b : Bool) → (T a → T b) → count_below n f ≤ count_below n g
        → elim a [ true ↦ suc (count_below n f) | false ↦ count_below n f ] ≤ elim b [ true ↦ suc (count_below n g) | false ↦ count_below n g ]
    go true true h l = omega arith
    go true false h l = absurd (h tt)
    go false true h l = omega arith
    go false false h l = l

-- where no more are counted, no more pass
pub count_tight : (n : ℕ) (f g : ℕ → Bool) → ((i : ℕ) → i < n → T (f i) → T (g i)) → count_below n g ≤ count_below n f
    → (i : ℕ) → i < n → T (g i) → T (f i)
count_tight zero f g h c i l t = absurd (not-suc-le-zero l)
count_tight (suc n) f g h c i l t =
    go (f n) (g n) refl refl (h n (omega arith)) (count_mono n f g (λ j m. h j (omega arith))) c (below_suc l)
    (λ d m. count_tight n f g (λ j k. h j (omega arith)) d i m t)
  where
    go : (a b : Bool) → f n ≡ a → g n ≡ b → (T a → T b) → count_below n f ≤ count_below n g
        → elim b [ true ↦ suc (count_below n g) | false ↦ count_below n g ] ≤ elim a [ true ↦ suc (count_below n f) | false ↦ count_below n f ]
        → (i ≡ n) ⊎ (i < n) → (count_below n g ≤ count_below n f → i < n → T (f i)) → T (f i)
    go true b e e' h m c (inl d) k = subst (λ (j : ℕ). T (f j)) (sym d) (true_T e)
    go true true e e' h m c (inr l) k = k (omega arith) l
    go true false e e' h m c (inr l) k = absurd (h tt)
    go false true e e' h m c d k = let z : ⊥ = omega arith in absurd z
    go false false e e' h m c (inl d) k = absurd (subst T e' (subst (λ (j : ℕ). T (g j)) d t))
    go false false e e' h m c (inr l) k = k c l

pub count_none : (n : ℕ) (f : ℕ → Bool) → ((i : ℕ) → i < n → T (f i) → ⊥) → count_below n f ≤ 0
count_none zero f h = omega arith
count_none (suc n) f h = go (f n) (h n (omega arith)) (count_none n f (λ i l. h i (omega arith)))
  where
    go : (a : Bool) → (T a → ⊥) → count_below n f ≤ 0 → elim a [ true ↦ suc (count_below n f) | false ↦ count_below n f ] ≤ 0
    go true h e = absurd (h tt)
    go false h e = e

pub count_one : (n : ℕ) (f : ℕ → Bool) (i : ℕ) → ((j : ℕ) → T (f j) → j ≡ i) → count_below n f ≤ 1
count_one zero f i u = omega arith
count_one (suc n) f i u = go (f n) refl (count_one n f i u)
  where
    go : (a : Bool) → f n ≡ a → count_below n f ≤ 1 → elim a [ true ↦ suc (count_below n f) | false ↦ count_below n f ] ≤ 1
    go true e k =
        omega (arith, count_none n f (λ j l s. let a : j ≡ i = u j s in let b : n ≡ i = u n (true_T e) in omega arith))
    go false e k = k

pub count_pos : (n : ℕ) (f : ℕ → Bool) (i : ℕ) → i < n → T (f i) → 0 < count_below n f
count_pos zero f i h t = absurd (not-suc-le-zero h)
count_pos (suc n) f i h t = go (f n) refl (below_suc h) (λ l. count_pos n f i l t)
  where
    go : (a : Bool) → f n ≡ a → (i ≡ n) ⊎ (i < n) → (i < n → 0 < count_below n f)
        → 0 < elim a [ true ↦ suc (count_below n f) | false ↦ count_below n f ]
    go true e d k = omega arith
    go false e (inl d) k = absurd (subst T e (subst (λ (j : ℕ). T (f j)) d t))
    go false e (inr l) k = k l

pub count_some : (n : ℕ) (f : ℕ → Bool) → 0 < count_below n f → (i : ℕ) × (i < n) × T (f i)
count_some zero f h = absurd (not-suc-le-zero h)
count_some (suc n) f h = go (f n) refl h (λ l. count_some n f l)
  where
    go : (a : Bool) → f n ≡ a → 0 < elim a [ true ↦ suc (count_below n f) | false ↦ count_below n f ]
        → (0 < count_below n f → (i : ℕ) × (i < n) × T (f i)) → (i : ℕ) × (i < suc n) × T (f i)
    go true e h k = (n, omega arith, true_T e)
    go false e h k = let r : (i : ℕ) × (i < n) × T (f i) = k h in let l : r.0 < n = r.1 in (r.0, omega arith, r.2)

-- at most all of them pass
pub count_most : (n : ℕ) (f : ℕ → Bool) → count_below n f ≤ n
count_most zero f = omega arith
count_most (suc n) f = go (f n) (count_most n f)
  where
    go : (b : Bool) → count_below n f ≤ n → elim b [ true ↦ suc (count_below n f) | false ↦ count_below n f ] ≤ suc n
    go true h = omega arith
    go false h = omega arith
