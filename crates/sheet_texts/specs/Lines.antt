-- Lines that some words begin with, and their bytes as they are typed. Assumes nothing.
use Rattle.std.specs.Prelude.{◌≡◌, ℕ, zero, suc, ◌+◌, ◌≤◌, ◌<◌, length, slice_index, take, drop}
use mathlib.Core.List.{List, [], ◌∷◌, ◌++◌, map, flat_map}
use Rattle.rules.specs.Expressions.{Phrase, written}
use Rattle.rules.specs.Descriptions.{most_boards, most_expression_words, most_ways}
use Rattle.puts.specs.Decimals.{decimal}
use Rattle.typed.specs.Symbols.{Symbol, number, most_number}
use Rattle.typed.specs.Writing.{relation_typing, kind_typing, lines_typing, spaced, line_text}
use Rattle.sheet_texts.specs.declared.Sort.{Sort}
use Rattle.sheet_texts.specs.declared.Sort.TheVariants.{Relation, Kind}

-- ---- the words of lines

-- a relation line: p and q are boards, and the words of an expression stand after the length
pub record IsRelation (p q : ℕ) (es : List ℕ) : Type 0 where
  pub p_board : p < most_boards
  pub q_board : q < most_boards
  pub few : length es ≤ most_expression_words
  pub phrase : Phrase
  pub words : es ≡ written phrase

-- a kind line: p is a board, and so are the ways, which stand after the length
pub record IsKind (p c : ℕ) (ys : List ℕ) : Type 0 where
  pub p_board : p < most_boards
  pub code : c ≤ most_number
  pub few : length ys ≤ most_ways
  pub boards : (i : ℕ) → i < length ys → slice_index ys i < most_boards

-- a line of a sort, and how it is typed
abbrev pub IsLine : Sort → ℕ → ℕ → List ℕ → Type 0
IsLine Relation = IsRelation
IsLine Kind = IsKind

abbrev pub line_typing : Sort → ℕ → ℕ → List ℕ → List Symbol
line_typing Relation = relation_typing
line_typing Kind = kind_typing

-- the words of a line after its length, and how many words it has
abbrev pub listed : List ℕ → List ℕ
listed ws = take (slice_index ws 2) (drop 3 ws)

abbrev pub line_words : List ℕ → ℕ
line_words ws = 3 + slice_index ws 2

-- some words begin with such a line: two words, a length and as many words as that says
pub record HasLine (P : ℕ → ℕ → List ℕ → Type 0) (ws : List ℕ) : Type 0 where
  pub inside : line_words ws ≤ length ws
  pub such : P (slice_index ws 0) (slice_index ws 1) (listed ws)

-- some words begin with n such lines
unfoldable pub HasLines : (ℕ → ℕ → List ℕ → Type 0) → ℕ → List ℕ → Type 0
HasLines P zero ws = Unit {0}
HasLines P (suc n) ws = HasLine P ws × HasLines P n (drop (line_words ws) ws)

-- ---- their bytes

-- a number after a blank, which ends its line
abbrev pub last_text : ℕ → List ℕ
last_text n = spaced (number n) ++ (10 ∷ [])

-- a kind line up to its ways
abbrev pub panel_text : ℕ → ℕ → List ℕ
panel_text p c = decimal p ++ ((32 ∷ 58 ∷ []) ++ (spaced (number c) ++ (32 ∷ 40 ∷ [])))

-- its ways
abbrev pub ways_text : List ℕ → List ℕ
ways_text ys = flat_map spaced (map number ys)

-- its end: a parenthesis and a line feed
abbrev pub closed_text : List ℕ
closed_text = 32 ∷ 41 ∷ 10 ∷ []

-- the line, and the n lines, that some words begin with
abbrev pub front_text : (ℕ → ℕ → List ℕ → List Symbol) → List ℕ → List ℕ
front_text line ws = line_text (line (slice_index ws 0) (slice_index ws 1) (listed ws))

abbrev pub lines_text : (ℕ → ℕ → List ℕ → List Symbol) → ℕ → List ℕ → List ℕ
lines_text line n ws = flat_map line_text (lines_typing line n ws)
