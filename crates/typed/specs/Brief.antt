-- The words of a line where they may be too many (02, request 1): a line that is too long is refused by its length alone, so only that is kept.
-- Assumes nothing.
use Rattle.std.specs.Prelude.{true, false, List, [], ◌∷◌, ℕ, suc, nat_le, slice_index}

-- the words of a line with at most m words after the first three, or the first three with a length that is one too many
unfoldable pub brief : ℕ → List ℕ → List ℕ
brief m w = elim (nat_le (slice_index w 2) m) [ true ↦ w | false ↦ slice_index w 0 ∷ slice_index w 1 ∷ suc m ∷ [] ]
