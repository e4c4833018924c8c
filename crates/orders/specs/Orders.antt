-- Relations of a set in an order, over any order: those that are still to be tried, the first of them, and the set without it. Assumes nothing.
use Rattle.std.specs.Prelude.{true, false, List, [], ◌∷◌, ℕ, ◌^◌}
use Rattle.rules.specs.Relations.{has, meet, complement}

-- the relations of the set c, as the order has them
unfoldable pub still : List ℕ → ℕ → List ℕ
still [] c = []
still (r ∷ rs) c = elim (has c r) [ true ↦ r ∷ still rs c | false ↦ still rs c ]

-- the relation of the set c that comes first in the order, as a set of one; nothing of an empty set
unfoldable pub pick : List ℕ → ℕ → ℕ
pick [] c = 0
pick (r ∷ rs) c = elim (has c r) [ true ↦ 2 ^ r | false ↦ pick rs c ]

-- the set c without the relation that `pick` gives
abbrev pub unpicked : List ℕ → ℕ → ℕ
unpicked ord c = meet c (complement (pick ord c))
