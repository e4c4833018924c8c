-- What rule 6 sees to, of several kind lines. Assumes nothing.
use Rattle.std.specs.Prelude.{◌≡◌, ℕ, ◌<◌, T}
use mathlib.Core.List.{List, Memᴰ}
use Rattle.rules.specs.Relations.{has}
use Rattle.rules.specs.Descriptions.{most_ways, KindLine}
use Rattle.rules.specs.Arrangements.{width}
use Rattle.by_board.specs.Found.{numbered, with_way}
use Rattle.moves.specs.Moves.{Fed}

-- rule 6 towards z is seen to: of each kind line with its number in the set; of each that has the board a as a way
abbrev pub FedEach : ℕ → List ℕ → ℕ → ℕ → List ℕ → List ℕ → Type 0
FedEach v ws lines z m t = (n : ℕ) → T (has lines n) → Fed v (numbered ws n) z m t

abbrev pub FedWays : ℕ → List ℕ → List ℕ → ℕ → ℕ → List ℕ → List ℕ → Type 0
FedWays v ws xs a z m t = (i : ℕ) → i < most_ways → FedEach v ws (with_way xs a i) z m t

-- of a kind line that has no ways, towards each board
abbrev pub FedBare : ℕ → KindLine → List ℕ → List ℕ → Type 0
FedBare v k m t = width k ≡ 0 → (z : ℕ) → z < v → Fed v k z m t

-- and of each that has none
abbrev pub FedWithout : ℕ → List KindLine → List ℕ → List ℕ → Type 0
FedWithout v ks m t = (k : KindLine) → Memᴰ k ks → FedBare v k m t
