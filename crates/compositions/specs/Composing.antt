-- The table of compositions, with a row for each set. Assumes nothing.
use Rattle.std.specs.Prelude.{◌≡◌, List, [], ℕ, ◌<◌, length, slice_index, slice_index_or}
use Rattle.rules.specs.Relations.{set_limit, compose}

-- what the sets x and y compose to stands at y in the row at x
pub record Composes (rows : List (List ℕ)) : Type 0 where
  pub sets : length rows ≡ set_limit
  pub entry : (x y : ℕ) → x < set_limit → y < set_limit → slice_index (slice_index_or rows x []) y ≡ compose x y
