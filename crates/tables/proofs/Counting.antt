-- The relations of the first cells of a table, counted. Assumes nothing.
use mathlib.Core.Path.{◌≡◌, refl, ap}
use mathlib.Core.List.{List, [], ◌∷◌}
use Prim.Native.Nat.{ℕ, zero, suc, ◌+◌, ◌*◌, ◌≤◌, ◌<◌}
use native.Mathlib.Nat.{mul-le-mul_left, not-suc-le-zero, le_of_suc-le-suc}
use native.Mathlib.Omega.{arith}
use lib.ListN.{length, get_or, take}
use Rattle.rules.specs.Relations.{relations, size}
use Rattle.rules.specs.Tables.{total}
use Rattle.rules.proofs.Calls.{total_most}

pub counted_none : (t : List ℕ) → total (take 0 t) ≡ 0
unfolding total
counted_none t = refl

counted_suc : (t : List ℕ) (k : ℕ) → k < length t → total (take (suc k) t) ≡ total (take k t) + size (get_or t k 0)
unfolding total
counted_suc [] k h = absurd (not-suc-le-zero h)
counted_suc (x ∷ xs) zero h = omega arith
counted_suc (x ∷ xs) (suc k) h = omega (arith, counted_suc xs k (le_of_suc-le-suc h))

pub counted_more : (t : List ℕ) (k : ℕ) {n m : ℕ} → k < length t → n ≡ total (take k t) → m ≡ size (get_or t k 0) → n + m ≡ total (take (k + 1) t)
counted_more t k h e f =
    let one : k + 1 ≡ suc k = omega arith in
    let same : total (take (k + 1) t) ≡ total (take (suc k) t) = ap (λ (j : ℕ). total (take j t)) one in
    omega (arith, counted_suc t k h)

pub counted_all : (t : List ℕ) (k : ℕ) → length t ≤ k → total (take k t) ≡ total t
unfolding total
counted_all [] zero h = refl
counted_all [] (suc k) h = refl
counted_all (x ∷ xs) zero h = absurd (not-suc-le-zero h)
counted_all (x ∷ xs) (suc k) h = ap (λ (n : ℕ). size x + n) (counted_all xs k (le_of_suc-le-suc h))

counted_part : (t : List ℕ) (k : ℕ) → total (take k t) ≤ total t
unfolding total
counted_part [] zero = omega arith
counted_part [] (suc k) = omega arith
counted_part (x ∷ xs) zero = omega arith
counted_part (x ∷ xs) (suc k) = omega (arith, counted_part xs k)

-- few enough for a count
pub counted_few : (t : List ℕ) (k n : ℕ) → length t ≤ n → total (take k t) ≤ relations * n
counted_few t k n h = omega (arith, counted_part t k, total_most t, mul-le-mul_left relations h)
