-- The pairs p < q as the code walks along them. Assumes nothing.
use Rattle.std.specs.Prelude.{◌≡◌, ℕ, zero, suc, ◌+◌, ◌-◌, ◌≤◌, ◌<◌, slice_index}
use Rattle.rules.specs.Search.{places}
use Rattle.choosing.specs.declared.pairs.Pair.{Pair}

-- the cell of the pair before which m pairs come
abbrev pub pair_cell : ℕ → ℕ → ℕ
pair_cell v m = slice_index (places v) m

-- how many pairs come before those of the board p
unfoldable pub before : ℕ → ℕ → ℕ
before v zero = 0
before v (suc p) = before v p + (v - suc p)

-- a pair of boards with its number, or the place past the last pair
pub record IsPair (v : ℕ) (at : Pair) : Type 0 where
  pub below : at.p < at.q
  pub most : at.q ≤ v
  pub last : at.q ≡ v → at.p + 1 ≡ v
  pub counted : at.index + at.p + 1 ≡ before v at.p + at.q
