-- What strikes by a list of rules make of a table. Nothing here says which rules they are. Assumes nothing.
use Rattle.std.specs.Prelude.{◌≡◌, not, ℕ, ◌+◌, ◌*◌, ◌-◌, ◌≤◌, T, slice_index}
use mathlib.Core.List.{List, Memᴰ}
use Rattle.rules.specs.Relations.{meet, size}
use Rattle.rules.specs.Descriptions.{most_boards, most_cells}
use Rattle.rules.specs.Tables.{Table, narrowed, Inside, emptied, total}
use Rattle.rules.specs.Closing.{Rule, Idle}

-- the most relations in the cells of a table
abbrev pub most_members : ℕ
most_members = 4 * most_cells

-- no cell is empty
abbrev pub Filled : List ℕ → Type 0
Filled t = T (not (emptied t))

-- the rules strike nothing in t
abbrev pub Idles : ℕ → List Rule → List ℕ → Type 0
Idles v rs t = (r : Rule) → Memᴰ r rs → Idle v t r

-- A cell was narrowed by a set, which left w of the table t and struck n relations.
pub record Narrowed (t : List ℕ) (k b : ℕ) (w : List ℕ) (n : ℕ) : Type 0 where
  pub cells : w ≡ narrowed t k b
  pub struck : n ≡ size (slice_index t k) - size (meet (slice_index t k) b)

-- a well-formed table of a site that is not too large
pub record Ready (v : ℕ) (t : List ℕ) : Type 0 where
  pub boards : v ≤ most_boards
  pub table : Table v t

-- Strikes took the table t to w inside it, and the count from a to b: every table inside t in which the rules strike nothing is inside w, and the
-- count is of relations really struck.
pub record Kept (v : ℕ) (rs : List Rule) (t : List ℕ) (a : ℕ) (w : List ℕ) (b : ℕ) : Type 0 where
  pub table : Table v w
  pub inside : Inside w t
  pub keeps : (x : List ℕ) → Inside x t → Idles v rs x → Inside x w
  pub counted : b + total w ≡ a + total t

-- Strikes took the table t to w, as `Kept` says; and the rules strike nothing in any table inside w.
pub record Once (v : ℕ) (rs : List Rule) (t : List ℕ) (a : ℕ) (w : List ℕ) (b : ℕ) : Type 0 where
  pub kept : Kept v rs t a w b
  pub held : (x : List ℕ) → Inside x w → Idles v rs x

-- Every table inside t in which the rules strike nothing has an empty cell.
abbrev pub Clash : ℕ → List Rule → List ℕ → Type 0
Clash v rs t = (x : List ℕ) → Table v x → Inside x t → Idles v rs x → T (emptied x)
