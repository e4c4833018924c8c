-- What rule 6 looks at in a panel's ways. Assumes nothing.
use Rattle.std.specs.Prelude.{List, ℕ, ◌≤◌, ◌<◌, T, Option, Some, None, length, slice_index}
use Rattle.rules.specs.Tables.{cell}
use Rattle.rules.specs.Closing.{reaches}

-- the way in place j may be at or above z: it has E or A towards z
abbrev pub Reaching : ℕ → List ℕ → List ℕ → ℕ → ℕ → Type 0
Reaching v t ws z j = T (reaches (cell v t (slice_index ws j) z))

-- i is the first place from `from` on whose way reaches z
pub record Reaches (v : ℕ) (t ws : List ℕ) (z from i : ℕ) : Type 0 where
  pub after : from ≤ i
  pub within : i < length ws
  pub before : (j : ℕ) → from ≤ j → j < i → Reaching v t ws z j → ⊥
  pub found : Reaching v t ws z i

-- the first such place, or none
abbrev pub FirstReaching : ℕ → List ℕ → List ℕ → ℕ → ℕ → Option ℕ → Type 0
FirstReaching v t ws z from (Some i) = Reaches v t ws z from i
FirstReaching v t ws z from None = (j : ℕ) → from ≤ j → j < length ws → Reaching v t ws z j → ⊥
