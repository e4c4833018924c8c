-- Sets of numbers below the bits of a word, as the number that has their binary digits. Assumes nothing.
use Rattle.std.specs.Prelude.{◌≡◌, true, false, List, ℕ, ◌+◌, ◌-◌, ◌^◌, ◌<◌, T, Option, Some, None, slice_index, set}
use Rattle.std.specs.Int.Count.{count_trailing_zeros}
use Rattle.rules.specs.Relations.{has}

-- a set holds numbers below this one
abbrev pub word_bits : ℕ
word_bits = 32

-- x with i too
unfoldable pub added : ℕ → ℕ → ℕ
added x i = elim (has x i) [ true ↦ x | false ↦ x + 2 ^ i ]

-- the words ws, with i too in the set in word k
abbrev pub added_at : List ℕ → ℕ → ℕ → List ℕ
added_at ws k i = set ws k (added (slice_index ws k) i)

-- x without i, which it has
unfoldable pub removed : ℕ → ℕ → ℕ
removed x i = x - 2 ^ i

-- the least number in x, word_bits if there is none
unfoldable pub lowest : ℕ → ℕ
lowest x = count_trailing_zeros word_bits x

-- the least number of x, if it has one, was taken out, and left y
abbrev pub Taken : ℕ → ℕ → Option ℕ → Type 0
Taken x y (Some i) = (i ≡ lowest x) × T (has x i) × (i < word_bits) × (y ≡ removed x i)
Taken x y None = (x ≡ 0) × (y ≡ 0)
