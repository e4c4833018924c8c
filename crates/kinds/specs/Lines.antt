-- Kind lines by their place in the words of a description. Assumes nothing.
use Rattle.std.specs.Prelude.{List, ℕ, ◌+◌, ◌-◌, ◌≤◌, ◌<◌, length, slice_index, take, drop}
use Rattle.rules.specs.Descriptions as descriptions
use Rattle.kinds.specs.declared.KindLine.{KindLine}

-- the kind line that begins at the word `at`: a board, a code, a number of ways, and then the ways
abbrev pub kind_at : List ℕ → ℕ → KindLine
kind_at ws at = record { p = slice_index ws at; code = slice_index ws (at + 1); first = at + 3; end = at + 3 + slice_index ws (at + 2) }

-- the ways of a line, out of the words
abbrev pub ways_at : List ℕ → KindLine → List ℕ
ways_at ws line = take (line.end - line.first) (drop line.first ws)

-- the kind line of the description that stands there
abbrev pub line_at : List ℕ → KindLine → descriptions.KindLine
line_at ws line = record { p = line.p; code = line.code; ways = ways_at ws line }

-- each of these is a board below v
abbrev pub Below : ℕ → List ℕ → Type 0
Below v ws = (i : ℕ) → i < length ws → slice_index ws i < v

-- the line stands in the words, on boards below v
pub record StandsIn (v : ℕ) (ws : List ℕ) (line : KindLine) : Type 0 where
  pub ordered : line.first ≤ line.end
  pub room : line.end ≤ length ws
  pub board : line.p < v
  pub boards : Below v (ways_at ws line)
