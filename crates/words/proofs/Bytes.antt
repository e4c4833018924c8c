-- Words of two bytes: how many there are, and which pair of bytes each is. Assumes nothing.
use mathlib.Core.Path.{◌≡◌, ap}
use mathlib.Core.List.{List, [], ◌∷◌}
use Prim.Native.Nat.{ℕ, zero, suc, ◌*◌, ◌<◌, ◌≤◌}
use native.Mathlib.Omega.{arith}
use lib.ListN.{length, get_or}
use Rattle.std.specs.Int.{w16, from_le_bytes}
use Rattle.std.specs.Simd.{first_chunks}
use Rattle.words.specs.Words.{words}

pub words_length : (bs : List ℕ) (n : ℕ) → length bs ≡ 2 * n → length (words bs) ≡ n
unfolding words
words_length [] n h = omega arith
words_length (low ∷ []) n h = let z : ⊥ = omega arith in absurd z
words_length (low ∷ high ∷ bs) zero h = let z : ⊥ = omega arith in absurd z
words_length (low ∷ high ∷ bs) (suc n) h = ap suc (words_length bs n (omega arith))

pub pair_word : (bs : List ℕ) (n i : ℕ) → 2 * n ≤ length bs → i < n → from_le_bytes w16 (get_or (first_chunks 2 n bs) i []) ≡ get_or (words bs) i 0
unfolding words
pair_word [] n i h m = let z : ⊥ = omega arith in absurd z
pair_word (low ∷ []) n i h m = let z : ⊥ = omega arith in absurd z
pair_word (low ∷ high ∷ bs) zero i h m = let z : ⊥ = omega arith in absurd z
pair_word (low ∷ high ∷ bs) (suc n) zero h m = omega arith
pair_word (low ∷ high ∷ bs) (suc n) (suc i) h m = pair_word bs n i (omega arith) (omega arith)
