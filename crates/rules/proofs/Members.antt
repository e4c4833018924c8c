-- What holds of each member of a list that is made from other lists. Assumes nothing.
use mathlib.Core.Path.{◌≡◌, refl, sym, subst}
use mathlib.Core.Bool.{Bool, true, false, ◌||◌}
use mathlib.Core.Logic.{◌⊎◌, inl, inr, ⊎_elim}
use mathlib.Core.List.Memᴰ
use mathlib.Core.List.{List, [], ◌∷◌, ◌++◌, map, flat_map, Memᴰ}
use Prim.Native.Nat.{ℕ, zero, suc, ◌+◌, ◌≤◌, ◌<◌}
use native.Mathlib.Nat.{eq-or-lt_of_le, not-suc-le-zero, le_of_suc-le-suc}
use native.Mathlib.Omega.{arith}
use lib.Dec.{T, ltb, ltb→lt, nltb→le}
use lib.ListN.{length, get_or, replicate, get_or-eq_default}
use Rattle.rules.specs.Relations.{some_of, each_of}
use Rattle.rules.specs.Tables.{range, up_to}
use Rattle.rules.proofs.Tests.{true_T, T-decide}

module _ {A : Type 0} (P : A → Type 0) where
  -- P holds of each member of the list
  abbrev pub All : List A → Type 0
  All xs = (x : A) → Memᴰ x xs → P x

  pub all_none : All []
  all_none x m = absurd (Memᴰ.not-nil m)

  pub all_one : {a : A} → P a → All (a ∷ [])
  all_one h x m = subst P (sym (Memᴰ.eq_of_singleton m)) h

  pub one_all : {a : A} → All (a ∷ []) → P a
  one_all {a} h = h a (Memᴰ.head refl)

  pub all_append : (xs : List A) {ys : List A} → All xs → All ys → All (xs ++ ys)
  all_append xs f g x m = ⊎_elim (f x) (g x) (Memᴰ.append_cases xs m)

  pub append_left : (xs ys : List A) → All (xs ++ ys) → All xs
  append_left xs ys h x m = h x (Memᴰ.append_left ys m)

  pub append_right : (xs ys : List A) → All (xs ++ ys) → All ys
  append_right xs ys h x m = h x (Memᴰ.append_right xs m)

  module _ {B : Type 0} (f : B → List A) where
    pub all_over : (bs : List B) → ((b : B) → Memᴰ b bs → All (f b)) → All (flat_map f bs)
    unfolding flat_map
    all_over [] h = all_none
    all_over (b ∷ bs) h = all_append (f b) (h b (Memᴰ.head refl)) (all_over bs (λ c m. h c (Memᴰ.tail m)))

    pub over_all : (bs : List B) → All (flat_map f bs) → (b : B) → Memᴰ b bs → All (f b)
    unfolding flat_map
    over_all [] h b m = absurd (Memᴰ.not-nil m)
    over_all (c ∷ bs) h b m =
        ⊎_elim (λ (e : b ≡ c). subst (λ (d : B). All (f d)) (sym e) (append_left (f c) (flat_map f bs) h))
        (λ n. over_all bs (append_right (f c) (flat_map f bs) h) b n) (Memᴰ.cases_cons m)

-- ---- tests of each element

module _ {A : Type 0} (f : A → Bool) where
  pub each_of_out : (xs : List A) → T (each_of f xs) → All (λ x. T (f x)) xs
  each_of_out [] t = all_none (λ x. T (f x))
  each_of_out (a ∷ xs) t = go (f a) refl t (λ u. each_of_out xs u)
    where
      go : (b : Bool) → f a ≡ b → T (elim b [ true ↦ each_of f xs | false ↦ false ]) → (T (each_of f xs) → All (λ x. T (f x)) xs)
          → All (λ x. T (f x)) (a ∷ xs)
      go true e t h = λ x m. ⊎_elim (λ (d : x ≡ a). subst (λ (y : A). T (f y)) (sym d) (true_T e)) (h t x) (Memᴰ.cases_cons m)
      go false e t h = absurd t

  pub each_of_in : (xs : List A) → All (λ x. T (f x)) xs → T (each_of f xs)
  each_of_in [] h = tt
  each_of_in (a ∷ xs) h = go (f a) (h a (Memᴰ.head refl)) (each_of_in xs (λ x m. h x (Memᴰ.tail m)))
    where
      go : (b : Bool) → T b → T (each_of f xs) → T (elim b [ true ↦ each_of f xs | false ↦ false ])
      go true s t = t
      go false s t = s

  pub some_of_out : (xs : List A) → T (some_of f xs) → (x : A) × Memᴰ x xs × T (f x)
  some_of_out [] t = absurd t
  some_of_out (a ∷ xs) t = go (f a) refl t (λ u. some_of_out xs u)
    where
      go : (b : Bool) → f a ≡ b → T (elim b [ true ↦ true | false ↦ some_of f xs ]) → (T (some_of f xs) → (x : A) × Memᴰ x xs × T (f x))
          → (x : A) × Memᴰ x (a ∷ xs) × T (f x)
      go true e t h = (a, Memᴰ.head refl, true_T e)
      go false e t h = let r = h t in (r.0, Memᴰ.tail r.1, r.2)

  -- one element more
  pub some_of_more : (xs : List A) (x : A) → some_of f (xs ++ (x ∷ [])) ≡ (some_of f xs || f x)
  some_of_more [] x = go (f x)
    where
      go : (b : Bool) → elim b [ true ↦ true | false ↦ false ] ≡ b
      go true = refl
      go false = refl
  some_of_more (a ∷ xs) x = go (f a) (some_of_more xs x)
    where
      go : (b : Bool) → some_of f (xs ++ (x ∷ [])) ≡ (some_of f xs || f x)
          → elim b [ true ↦ true | false ↦ some_of f (xs ++ (x ∷ [])) ] ≡ (elim b [ true ↦ true | false ↦ some_of f xs ] || f x)
      go true e = refl
      go false e = e

  pub some_of_in : (xs : List A) (x : A) → Memᴰ x xs → T (f x) → T (some_of f xs)
  some_of_in [] x m t = absurd (Memᴰ.not-nil m)
  some_of_in (a ∷ xs) x m t = go (f a) (some_of f xs) (Memᴰ.cases_cons m) (λ e. subst (λ (y : A). T (f y)) e t) (λ n. some_of_in xs x n t)
    where
      go : (b c : Bool) → (x ≡ a) ⊎ Memᴰ x xs → (x ≡ a → T b) → (Memᴰ x xs → T c) → T (elim b [ true ↦ true | false ↦ c ])
      go true c d g h = tt
      go false c (inl e) g h = absurd (g e)
      go false c (inr n) g h = h n

-- the first of a list at which a test passes, or d
module _ {A : Type 0} (f : A → Bool) (d : A) where
  pub first : List A → A
  first [] = d
  first (x ∷ xs) = elim (f x) [ true ↦ x | false ↦ first xs ]

  pub first_in : (xs : List A) (x : A) → Memᴰ x xs → T (f x) → Memᴰ (first xs) xs × T (f (first xs))
  unfolding first
  first_in [] x m t = absurd (Memᴰ.not-nil m)
  first_in (a ∷ xs) x m t = by (f a) refl (Memᴰ.cases_cons m) (λ n. first_in xs x n t)
    where
      by : (b : Bool) → f a ≡ b → (x ≡ a) ⊎ Memᴰ x xs → (Memᴰ x xs → Memᴰ (first xs) xs × T (f (first xs)))
          → Memᴰ (elim b [ true ↦ a | false ↦ first xs ]) (a ∷ xs) × T (f (elim b [ true ↦ a | false ↦ first xs ]))
      by true e c g = (Memᴰ.head refl, true_T e)
      by false e (inl c) g = absurd (subst T e (subst (λ (y : A). T (f y)) c t))
      by false e (inr n) g = let r = g n in (Memᴰ.tail r.0, r.1)

-- the members of a list are what stands at its places
pub member_at : (xs : List ℕ) (k : ℕ) → k < length xs → Memᴰ (get_or xs k 0) xs
member_at [] k h = absurd (not-suc-le-zero h)
member_at (x ∷ xs) zero h = Memᴰ.head refl
member_at (x ∷ xs) (suc k) h = Memᴰ.tail (member_at xs k (le_of_suc-le-suc h))

pub at_member : (xs : List ℕ) (x : ℕ) → Memᴰ x xs → (k : ℕ) × (k < length xs) × (get_or xs k 0 ≡ x)
at_member [] x m = absurd (Memᴰ.not-nil m)
at_member (y ∷ xs) x m = go (Memᴰ.cases_cons m) (λ n. at_member xs x n)
  where
    go : (x ≡ y) ⊎ Memᴰ x xs → (Memᴰ x xs → (k : ℕ) × (k < length xs) × (get_or xs k 0 ≡ x))
        → (k : ℕ) × (k < suc (length xs)) × (get_or (y ∷ xs) k 0 ≡ x)
    go (inl e) f = (0, omega arith, sym e)
    go (inr n) f = let r = f n in let l : r.0 < length xs = r.1 in (suc r.0, omega arith, r.2)

-- what holds at each place of a list, and of 0 beyond it, holds at every place
pub everywhere : (P : ℕ → ℕ → Type 0) (xs : List ℕ) → ((k : ℕ) → k < length xs → P k (get_or xs k 0)) → ((k : ℕ) → P k 0) → (k : ℕ) → P k (get_or xs k 0)
everywhere P xs h z k =
    ⊎_elim (λ l. h k (ltb→lt k (length xs) l))
    (λ n. subst (P k) (sym (get_or-eq_default xs 0 (nltb→le k (length xs) n))) (z k)) (T-decide (ltb k (length xs)))

-- every place of a list of zeros has 0
pub zeros : (n k : ℕ) → ◌≡◌ {A = ℕ} (get_or (replicate n 0) k 0) 0
zeros zero k = refl
zeros (suc n) zero = refl
zeros (suc n) (suc k) = zeros n k

-- what stands at a place of a list whose elements are each put through f
pub at_map : {X Y : Type 0} (f : X → Y) (xs : List X) (i : ℕ) (d : X) (e : Y) → i < length xs → get_or (map f xs) i e ≡ f (get_or xs i d)
at_map f [] i d e h = absurd (not-suc-le-zero h)
at_map f (x ∷ xs) zero d e h = refl
at_map f (x ∷ xs) (suc i) d e h = at_map f xs i d e (le_of_suc-le-suc h)

-- a test that passes at each place passes at each element
pub each_of_places : (f : ℕ → Bool) (xs : List ℕ) → ((k : ℕ) → k < length xs → T (f (get_or xs k 0))) → T (each_of f xs)
each_of_places f xs h = each_of_in f xs (λ x m. from x (at_member xs x m))
  where
    from : (x : ℕ) → (k : ℕ) × (k < length xs) × (get_or xs k 0 ≡ x) → T (f x)
    from x m = subst (λ (y : ℕ). T (f y)) m.2 (h m.0 m.1)

-- ---- ranges of numbers

pub range_in : (n i j : ℕ) → i ≤ j → j < i + n → Memᴰ j (range i n)
range_in zero i j h k = let z : ⊥ = omega arith in absurd z
range_in (suc n) i j h k =
    ⊎_elim (λ (e : i ≡ j). Memᴰ.head (sym e)) (λ (l : i < j). Memᴰ.tail (range_in n (suc i) j l (omega arith))) (eq-or-lt_of_le h)

pub range_out : (n i j : ℕ) → Memᴰ j (range i n) → (i ≤ j) × (j < i + n)
range_out zero i j m = absurd (Memᴰ.not-nil m)
range_out (suc n) i j m = ⊎_elim (λ (e : j ≡ i). omega arith) (λ k. let r : (suc i ≤ j) × (j < suc i + n) = range_out n (suc i) j k in omega arith) (Memᴰ.cases_cons m)

-- the members of `up_to n` are the numbers below n
pub up_to_in : {n j : ℕ} → j < n → Memᴰ j (up_to n)
up_to_in {n} {j} h = range_in n 0 j (omega arith) (omega arith)

pub up_to_out : (n j : ℕ) → Memᴰ j (up_to n) → j < n
up_to_out n j m = let r : (0 ≤ j) × (j < 0 + n) = range_out n 0 j m in omega arith
