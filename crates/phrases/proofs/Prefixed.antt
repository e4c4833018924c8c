-- Words in prefix order: the word that binds loosest, then those before it, then those after it. Assumes nothing.
use mathlib.Core.Path.{◌≡◌, refl, ap₂, ◌∙◌}
use mathlib.Core.Bool.{Bool, true, false}
use mathlib.Core.List.Memᴰ
use mathlib.Core.List.{List, [], ◌∷◌, ◌++◌}
use Prim.Native.Nat.{ℕ, zero, suc, ◌+◌, ◌≤◌, ◌<◌}
use native.Mathlib.Nat.{not-suc-le-zero, le_refl}
use native.Mathlib.Numerals.{add-one}
use native.Mathlib.Omega.{arith}
use lib.Dec.{T}
use lib.ListN.{length, take, drop, length-append, length-take, length-drop}
use lib.Seq.{take-append_seam, drop-append-add, get_or-append_seam}
use Rattle.rules.proofs.Members.{All}
use Rattle.rules.proofs.Tests.{T_true, T_false}
use Rattle.typed.specs.Scanning.{Item, outranks, chief_from, chief, code_at, prefixed_in, prefixed}

-- ---- the word that binds loosest

chief_from_below : (at : ℕ) (best : Item) (i : ℕ) (xs : List Item) → at < i → chief_from at best i xs < i + length xs
unfolding chief_from
chief_from_below at best i [] h = omega arith
chief_from_below at best i (x ∷ xs) h =
    go (outranks x best) (chief_from_below i x (suc i) xs (omega arith)) (chief_from_below at best (suc i) xs (omega arith))
  where
    go : (b : Bool) → chief_from i x (suc i) xs < suc i + length xs → chief_from at best (suc i) xs < suc i + length xs
        → elim b [ true ↦ chief_from i x (suc i) xs | false ↦ chief_from at best (suc i) xs ] < i + suc (length xs)
    go true p q = omega arith
    go false p q = omega arith

-- the word that binds loosest is one of them
pub chief_below : (x : Item) (xs : List Item) → chief (x ∷ xs) < length (x ∷ xs)
chief_below x xs = omega (arith, chief_from_below 0 x 1 xs (omega arith))

-- none of the words after it outranks it
chief_from_stays : (at : ℕ) (best : Item) (i : ℕ) (zs : List Item) → All (λ z. T (outranks z best) → ⊥) zs → chief_from at best i zs ≡ at
unfolding chief_from
chief_from_stays at best i [] h = refl
chief_from_stays at best i (z ∷ zs) h =
    let e : outranks z best ≡ false = T_false (h z (Memᴰ.head refl)) in
    rw (e, chief_from) (chief_from_stays at best (suc i) zs (λ x m. h x (Memᴰ.tail m)))

-- y outranks all before it, and none after it outranks y
chief_from_moves : (at : ℕ) (best : Item) (i : ℕ) (xs : List Item) (y : Item) (zs : List Item) → T (outranks y best)
    → All (λ x. T (outranks y x)) xs → All (λ z. T (outranks z y) → ⊥) zs → chief_from at best i (xs ++ (y ∷ zs)) ≡ i + length xs
unfolding chief_from
chief_from_moves at best i [] y zs t f g =
    let e : outranks y best ≡ true = T_true t in rw (e, chief_from) (chief_from_stays i y (suc i) zs g ∙ omega arith)
chief_from_moves at best i (x ∷ xs) y zs t f g =
    go (outranks x best) (chief_from_moves i x (suc i) xs y zs (f x (Memᴰ.head refl)) (λ w m. f w (Memᴰ.tail m)) g)
    (chief_from_moves at best (suc i) xs y zs t (λ w m. f w (Memᴰ.tail m)) g)
  where
    go : (b : Bool) → chief_from i x (suc i) (xs ++ (y ∷ zs)) ≡ suc i + length xs → chief_from at best (suc i) (xs ++ (y ∷ zs)) ≡ suc i + length xs
        → elim b [ true ↦ chief_from i x (suc i) (xs ++ (y ∷ zs)) | false ↦ chief_from at best (suc i) (xs ++ (y ∷ zs)) ] ≡ i + suc (length xs)
    go true p q = omega arith
    go false p q = omega arith

-- a word that outranks those before it, and is outranked by none after it, binds loosest
chief_at : (xs : List Item) (y : Item) (zs : List Item) → All (λ x. T (outranks y x)) xs → All (λ z. T (outranks z y) → ⊥) zs
    → chief (xs ++ (y ∷ zs)) ≡ length xs
chief_at [] y zs f g = chief_from_stays 0 y 1 zs g
chief_at (x ∷ xs) y zs f g =
    chief_from_moves 0 x 1 xs y zs (f x (Memᴰ.head refl)) (λ w m. f w (Memᴰ.tail m)) g ∙ omega arith

-- ---- how many words are allowed

-- the words before the loosest, and those after it, are fewer
before_fewer : (x : Item) (xs : List Item) → length (take (chief (x ∷ xs)) (x ∷ xs)) ≤ length xs
before_fewer x xs = omega (arith, chief_below x xs, length-take (chief (x ∷ xs)) (x ∷ xs))

after_fewer : (x : Item) (xs : List Item) → length (drop (suc (chief (x ∷ xs))) (x ∷ xs)) ≤ length xs
after_fewer x xs = omega (arith, length-drop (suc (chief (x ∷ xs))) (x ∷ xs))

-- how many words are allowed makes no difference, once they are enough
pub prefixed_in_enough : (n m : ℕ) (xs : List Item) → length xs ≤ n → length xs ≤ m → prefixed_in n xs ≡ prefixed_in m xs
unfolding prefixed_in
prefixed_in_enough zero zero xs h k = refl
prefixed_in_enough zero (suc m) [] h k = refl
prefixed_in_enough zero (suc m) (x ∷ xs) h k = absurd (not-suc-le-zero h)
prefixed_in_enough (suc n) zero [] h k = refl
prefixed_in_enough (suc n) zero (x ∷ xs) h k = absurd (not-suc-le-zero k)
prefixed_in_enough (suc n) (suc m) [] h k = refl
prefixed_in_enough (suc n) (suc m) (x ∷ xs) h k =
    let p = before_fewer x xs in
    let q = after_fewer x xs in
    ap₂ (λ (a b : List ℕ). code_at (x ∷ xs) (chief (x ∷ xs)) ∷ (a ++ b)) (prefixed_in_enough n m _ (omega arith) (omega arith))
    (prefixed_in_enough n m _ (omega arith) (omega arith))

prefixed_in_length : (n : ℕ) (xs : List Item) → length xs ≤ n → length (prefixed_in n xs) ≡ length xs
unfolding prefixed_in
prefixed_in_length zero [] h = refl
prefixed_in_length zero (x ∷ xs) h = absurd (not-suc-le-zero h)
prefixed_in_length (suc n) [] h = refl
prefixed_in_length (suc n) (x ∷ xs) h =
    let c = chief (x ∷ xs) in
    let l = before_fewer x xs in
    let m = after_fewer x xs in
    let p = prefixed_in_length n (take c (x ∷ xs)) (omega arith) in
    let q = prefixed_in_length n (drop (suc c) (x ∷ xs)) (omega arith) in
    simp length-append (omega (arith, chief_below x xs, length-take c (x ∷ xs), length-drop (suc c) (x ∷ xs)))

-- ---- all words

-- as many words as there are, in prefix order
pub prefixed_length : (xs : List Item) → length (prefixed xs) ≡ length xs
unfolding prefixed
prefixed_length xs = prefixed_in_length (length xs) xs (le_refl (length xs))

-- the word that binds loosest comes first, then those before it, then those after it
pub prefixed_step : (x : Item) (xs : List Item)
    → prefixed (x ∷ xs)
    ≡ code_at (x ∷ xs) (chief (x ∷ xs)) ∷ (prefixed (take (chief (x ∷ xs)) (x ∷ xs)) ++ prefixed (drop (suc (chief (x ∷ xs))) (x ∷ xs)))
unfolding prefixed prefixed_in
prefixed_step x xs =
    ap₂ (λ (a b : List ℕ). code_at (x ∷ xs) (chief (x ∷ xs)) ∷ (a ++ b)) (prefixed_in_enough _ _ _ (before_fewer x xs) (le_refl _))
    (prefixed_in_enough _ _ _ (after_fewer x xs) (le_refl _))

step_at : (xs : List Item) (i : ℕ) → 0 < length xs → chief xs ≡ i
    → prefixed xs ≡ code_at xs i ∷ (prefixed (take i xs) ++ prefixed (drop (suc i) xs))
step_at [] i h e = absurd (not-suc-le-zero h)
step_at (x ∷ xs) i h e = rw (← e) (prefixed_step x xs)

-- a word that outranks those before it, and is outranked by none after it, comes first
pub prefixed_split : (xs : List Item) (y : Item) (zs : List Item) → All (λ x. T (outranks y x)) xs → All (λ z. T (outranks z y) → ⊥) zs
    → prefixed (xs ++ (y ∷ zs)) ≡ y.code ∷ (prefixed xs ++ prefixed zs)
prefixed_split xs y zs f g =
    step_at (xs ++ (y ∷ zs)) (length xs) (simp length-append (omega arith)) (chief_at xs y zs f g)
    ∙ simp (code_at, take-append_seam, get_or-append_seam, ← add-one, drop-append-add)
