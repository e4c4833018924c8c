-- Runs of bytes: when two are the same, and where the run that some bytes begin with ends. Assumes nothing.
use mathlib.Core.Path.{◌≡◌, refl, ap, ap₂, ◌∙◌}
use mathlib.Core.Bool.{Bool, true, false}
use mathlib.Core.List.{List, [], ◌∷◌, ◌++◌}
use Prim.Native.Nat.{ℕ, zero, suc, ◌≤◌, ◌<◌}
use native.Mathlib.Nat.{not-suc-le-zero}
use native.Mathlib.Omega.{arith}
use borrow.Author.Tests.{eqb-true}
use lib.Dec.{T, eqb, eqb_refl}
use lib.ListN.{length, get_or, take, drop, take-append-drop}
use Rattle.rules.proofs.Tests.{clash, T_true, T_false, true_T, and_T, T-and_left, T-and_right}
use Rattle.typed.specs.Symbols.{blank, parts, ended, run, equal_bytes}

-- ---- the same bytes

-- the test says that they are equal, and passes where they are
pub same_bytes : (xs ys : List ℕ) → equal_bytes xs ys ≡ true → xs ≡ ys
unfolding equal_bytes
same_bytes [] [] e = refl
same_bytes [] (y ∷ ys) e = clash (cc)
same_bytes (x ∷ xs) [] e = clash (cc)
same_bytes (x ∷ xs) (y ∷ ys) e =
    ap₂ {C = List ℕ} (λ a r. a ∷ r) (eqb-true x y (T_true (T-and_left (eqb x y) (equal_bytes xs ys) (true_T e))))
    (same_bytes xs ys (T_true (T-and_right (eqb x y) (equal_bytes xs ys) (true_T e))))

pub bytes_same : (xs : List ℕ) → equal_bytes xs xs ≡ true
unfolding equal_bytes
bytes_same [] = refl
bytes_same (x ∷ xs) = T_true (and_T (eqb x x) (equal_bytes xs xs) (eqb_refl x) (true_T (bytes_same xs)))

pub other_bytes : (xs ys : List ℕ) → (xs ≡ ys → ⊥) → equal_bytes xs ys ≡ false
other_bytes xs ys f = T_false (λ t. f (same_bytes xs ys (T_true t)))

-- ---- where a run ends

-- a byte that is no blank, no colon and no parenthesis does not part
pub unparting : (b : ℕ) → eqb b blank ≡ false → eqb b 58 ≡ false → eqb b 40 ≡ false → eqb b 41 ≡ false → parts b ≡ false
unfolding parts
unparting b s c l r = cc

-- no byte of these parts
abbrev pub Joined : List ℕ → Type 0
Joined xs = (i : ℕ) → i < length xs → parts (get_or xs i 0) ≡ false

-- a run by whether its first byte parts
by_parting : ℕ → List ℕ → Bool → List ℕ
by_parting b bs p = elim p [ true ↦ [] | false ↦ b ∷ run bs ]

run_none : (b : ℕ) (bs : List ℕ) → parts b ≡ true → run (b ∷ bs) ≡ []
unfolding run by_parting
run_none b bs e = ap (by_parting b bs) e

pub run_more : (b : ℕ) (bs : List ℕ) → parts b ≡ false → run (b ∷ bs) ≡ b ∷ run bs
unfolding run by_parting
run_more b bs e = ap (by_parting b bs) e

-- bytes that do not part are the run, where what comes after them ends it
pub run_is : (xs bs : List ℕ) → Joined xs → T (ended bs) → run (xs ++ bs) ≡ xs
unfolding run
run_is [] [] f t = refl
run_is [] (b ∷ bs) f t = run_none b bs (T_true t)
run_is (x ∷ xs) bs f t =
    run_more x (xs ++ bs) (f 0 (omega arith)) ∙ ap (λ (r : List ℕ). x ∷ r) (run_is xs bs (λ i h. f (suc i) (omega arith)) t)

-- the run of these bytes ends at place n: no byte before it parts, and the byte there, if there is one, does
pub record Stops (bs : List ℕ) (n : ℕ) : Type 0 where
  pub within : n ≤ length bs
  pub joined : (i : ℕ) → i < n → parts (get_or bs i 0) ≡ false
  pub parted : n < length bs → parts (get_or bs n 0) ≡ true

-- a run ends where the bytes up to a place do not part and the next does
pub run_stops : (bs : List ℕ) → Stops bs (length (run bs))
unfolding run by_parting
run_stops [] = record { within = omega arith; joined = λ i h. absurd (not-suc-le-zero h); parted = λ h. absurd (not-suc-le-zero h) }
run_stops (b ∷ bs) = go (parts b) refl (run_stops bs)
  where
    joins : parts b ≡ false → Stops bs (length (run bs)) → (i : ℕ) → i < suc (length (run bs)) → parts (get_or (b ∷ bs) i 0) ≡ false
    joins e r zero h = e
    joins e r (suc i) h = r.joined i (omega arith)

    go : (p : Bool) → parts b ≡ p → Stops bs (length (run bs)) → Stops (b ∷ bs) (length (by_parting b bs p))
    go true e r = record { within = omega arith; joined = λ i h. absurd (not-suc-le-zero h); parted = λ h. e }
    go false e r = record { within = omega arith; joined = joins e r; parted = λ h. r.parted (omega arith) }

-- and at no other place
pub run_at : (bs : List ℕ) (n : ℕ) → n ≤ length bs → ((i : ℕ) → i < n → parts (get_or bs i 0) ≡ false)
    → (n < length bs → parts (get_or bs n 0) ≡ true) → run bs ≡ take n bs
unfolding run
run_at [] zero h f g = refl
run_at [] (suc n) h f g = absurd (not-suc-le-zero h)
run_at (b ∷ bs) zero h f g = run_none b bs (g (omega arith))
run_at (b ∷ bs) (suc n) h f g =
    run_more b bs (f 0 (omega arith))
    ∙ ap (λ (r : List ℕ). b ∷ r) (run_at bs n (omega arith) (λ i l. f (suc i) (omega arith)) (λ l. g (omega arith)))

-- a run is the front of the bytes, and what is left ends it
pub run_front : (bs : List ℕ) → run bs ≡ take (length (run bs)) bs
run_front bs = let s = run_stops bs in run_at bs (length (run bs)) s.within s.joined s.parted

pub run_rest : (bs : List ℕ) → run bs ++ drop (length (run bs)) bs ≡ bs
run_rest bs = ap (λ (r : List ℕ). r ++ drop (length (run bs)) bs) (run_front bs) ∙ take-append-drop (length (run bs)) bs

ended_from : (bs : List ℕ) (n : ℕ) → (n < length bs → parts (get_or bs n 0) ≡ true) → T (ended (drop n bs))
ended_from [] zero g = tt
ended_from [] (suc n) g = tt
ended_from (b ∷ bs) zero g = true_T (g (omega arith))
ended_from (b ∷ bs) (suc n) g = ended_from bs n (λ h. g (omega arith))

pub run_ended : (bs : List ℕ) → T (ended (drop (length (run bs)) bs))
run_ended bs = ended_from bs (length (run bs)) (run_stops bs).parted
