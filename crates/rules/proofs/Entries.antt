-- A constant table whose entries are the values of a function has that value at each place. Assumes nothing.
use mathlib.Core.Path.{◌≡◌, refl, ap, ◌∙◌}
use mathlib.Core.List.{List, [], ◌∷◌}
use Prim.Native.Nat.{ℕ, zero, suc, ◌+◌, ◌<◌}
use native.Mathlib.Nat.{not-suc-le-zero, le_of_suc-le-suc}
use native.Mathlib.Omega.{arith}
use lib.ListN.{length, get_or}

-- the values of f at n numbers from i on
abbrev pub values : (ℕ → ℕ) → ℕ → ℕ → List ℕ
values f i zero = []
values f i (suc n) = f i ∷ values f (suc i) n

from : (f : ℕ → ℕ) (n i k : ℕ) → k < n → get_or (values f i n) k 0 ≡ f (i + k)
from f zero i k h = absurd (not-suc-le-zero h)
from f (suc n) i zero h = let e : i ≡ i + 0 = omega arith in ap f e
from f (suc n) i (suc k) h = let e : suc i + k ≡ i + suc k = omega arith in from f n (suc i) k (le_of_suc-le-suc h) ∙ ap f e

pub value_at : (f : ℕ → ℕ) (n k : ℕ) → k < n → get_or (values f 0 n) k 0 ≡ f k
value_at f n k h = let e : 0 + k ≡ k = omega arith in from f n 0 k h ∙ ap f e

pub values_length : (f : ℕ → ℕ) (i n : ℕ) → length (values f i n) ≡ n
values_length f i zero = refl
values_length f i (suc n) = ap suc (values_length f (suc i) n)
