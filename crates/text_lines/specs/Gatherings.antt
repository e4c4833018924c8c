-- What gathering the lines of a text answers and leaves. Assumes nothing.
use Rattle.std.specs.Prelude.{◌≡◌, ℕ, suc, ◌+◌, ◌*◌, length, take, drop, Result, Err, IsOkAnd}
use mathlib.Core.List.{List, [], ◌∷◌, map, flatten}
use Rattle.rules.specs.Descriptions.{most_lines, most_kinds, most_expression_words, most_ways, describe}
use Rattle.typed.specs.Symbols.{symbols}
use Rattle.typed.specs.Brief.{brief}
use Rattle.typed.specs.Sheets.{First, no_boards, boards_of, first_of, Lines, stopped, lines, lines_from, Typed, malformed_at, made}
use Rattle.text_lines.specs.declared.Gathered.{Gathered}

-- the number of boards, the words of the relation lines and those of the kind lines, or the number of the first malformed line
pub data Parts : Type 0 where
  fault_at : ℕ → Parts
  parts : ℕ → List (List ℕ) → List (List ℕ) → Parts

abbrev pub parts_of : ℕ → Lines → Parts
parts_of v (stopped n) = fault_at n
parts_of v (lines rs ks) = parts v rs ks

abbrev pub opened_parts : First → List (List ℕ) → Parts
opened_parts no_boards ls = fault_at 1
opened_parts (boards_of v) ls = parts_of v (lines_from 2 ls)

abbrev pub sheet_parts : List (List ℕ) → Parts
sheet_parts [] = fault_at 1
sheet_parts (l ∷ ls) = opened_parts (first_of (symbols l)) ls

-- what they make
abbrev pub typed_parts : Parts → Typed
typed_parts (fault_at n) = malformed_at n
typed_parts (parts v rs ks) = made (describe v rs ks)

-- the words of these lines, each with at most m words after the first three, stand from one place to another
pub record Stored (m from : ℕ) (ws : List ℕ) (to : ℕ) (ls : List (List ℕ)) : Type 0 where
  pub place : to ≡ from + length (flatten (map (brief m) ls))
  pub words : take (length (flatten (map (brief m) ls))) (drop from ws) ≡ flatten (map (brief m) ls)

-- room for the words of one kind line more than there may be
abbrev pub kinds_room : ℕ
kinds_room = suc most_kinds * (3 + most_ways)

-- the words of as many lines as there may be are gathered, and all lines are counted
pub record Whole (v : ℕ) (rs ks : List (List ℕ)) (ws kinds : List ℕ) (r : Gathered) : Type 0 where
  pub boards : r.boards ≡ v
  pub relations : r.relations.lines ≡ length rs
  pub panels : r.kinds.lines ≡ length ks
  pub relation_words_lem : Stored most_expression_words 6 ws r.relations.end (take most_lines rs)
  pub kind_words_lem : Stored most_ways 0 kinds r.kinds.end (take most_kinds ks)

abbrev pub Gathers : Parts → List ℕ → List ℕ → Result Gathered ℕ → Type 0
Gathers (fault_at n) ws kinds r = r ≡ Err n
Gathers (parts v rs ks) ws kinds r = IsOkAnd r (Whole v rs ks ws kinds)
