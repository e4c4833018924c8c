-- The kind lines by number, and words that tell them by board. Assumes nothing.
use Rattle.std.specs.Prelude.{◌≡◌, not, ◌&&◌, List, ℕ, zero, suc, ◌+◌, ◌*◌, ◌^◌, ◌≤◌, ◌<◌, T, nat_lt, nat_eq, length, slice_index}
use Rattle.rules.specs.Relations.{has}
use Rattle.rules.specs.Descriptions.{most_boards, most_kinds, most_ways, KindLine}
use Rattle.rules.specs.Arrangements.{way, width}
use Rattle.kinds.specs.Lines.{kind_at, line_at}
use Rattle.kinds.specs.Sections.{HasKinds, HasAgreed}

-- where kind line n begins, in the words of the kind lines
unfoldable pub start_of : List ℕ → ℕ → ℕ
start_of ws zero = 0
start_of ws (suc n) = (kind_at ws (start_of ws n)).end

-- kind line n
abbrev pub numbered : List ℕ → ℕ → KindLine
numbered ws n = line_at ws (kind_at ws (start_of ws n))

-- A word for each board has the lines with their panel there, by number; then one for each board and place has those with a way there, in that place;
-- then one for each board has the places where some line has it; then it is told where each line begins.
abbrev pub spots_at : ℕ
spots_at = most_boards

abbrev pub places_at : ℕ
places_at = spots_at + most_ways * most_boards

abbrev pub starts_at : ℕ
starts_at = places_at + most_boards

abbrev pub index_words : ℕ
index_words = starts_at + most_kinds

-- what the index xs has for board b: the lines with their panel there, those with a way there in place i, and the places in which some line has it
abbrev pub with_panel : List ℕ → ℕ → ℕ
with_panel xs b = slice_index xs b

abbrev pub with_way : List ℕ → ℕ → ℕ → ℕ
with_way xs b i = slice_index xs (spots_at + most_ways * b + i)

abbrev pub places_of : List ℕ → ℕ → ℕ
places_of xs b = slice_index xs (places_at + b)

-- `count` kind lines, on boards below some number, fill the words, and there are no more of either than there may be
abbrev pub Fitting : ℕ → List ℕ → Type 0
Fitting count ws = (count ≤ most_kinds) × ((v : ℕ) × (v ≤ most_boards) × HasKinds v count ws)

-- line n of such lines begins at the word `at`
pub record Begins (n : ℕ) (ws : List ℕ) (at : ℕ) : Type 0 where
  pub place : at ≡ start_of ws n
  pub count : ℕ
  pub below : n < count
  pub fits : Fitting count ws

-- the words xs tell the first `count` kind lines by board, and no others
pub record Indexed (count : ℕ) (ws xs : List ℕ) : Type 0 where
  pub words : length xs ≡ index_words
  pub panels : (b n : ℕ) → b < most_boards → has (with_panel xs b) n ≡ (nat_lt n count && nat_eq (numbered ws n).p b)
  pub spots : (b i n : ℕ) → b < most_boards → i < most_ways
      → has (with_way xs b i) n ≡ (nat_lt n count && (nat_lt i (width (numbered ws n)) && nat_eq (way (numbered ws n) i) b))
  pub few : (b : ℕ) → b < most_boards → places_of xs b < 2 ^ most_ways
  pub places : (b i : ℕ) → b < most_boards → i < most_ways → has (places_of xs b) i ≡ not (nat_eq (with_way xs b i) 0)
  pub starts : (n : ℕ) → n < count → slice_index xs (starts_at + n) ≡ start_of ws n
  pub beyond : (n : ℕ) → count ≤ n → slice_index xs (starts_at + n) ≡ 0

-- kind lines that fill the words ws, of which lines of one code have as many ways, no more than there may be, and the index xs that tells them
pub record Listed (v count : ℕ) (ws xs : List ℕ) : Type 0 where
  pub lines : HasAgreed v count ws
  pub few : count ≤ most_kinds
  pub told : Indexed count ws xs

-- each number in the set is that of a line
abbrev pub Numbers : ℕ → ℕ → Type 0
Numbers count lines = (n : ℕ) → T (has lines n) → n < count

-- line n stands in the words ws where the index xs says
pub record Located (n : ℕ) (ws xs : List ℕ) : Type 0 where
  pub words : length xs ≡ index_words
  pub few : n < most_kinds
  pub place : slice_index xs (starts_at + n) ≡ start_of ws n
  pub room : start_of ws n + 3 ≤ length ws
