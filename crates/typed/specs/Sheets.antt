-- What a typed sheet makes (02, request 1): the words of its lines, or the number of the first malformed line; as functions.
-- Assumes nothing.
use Rattle.std.specs.Prelude.{true, false, List, [], ◌∷◌, ℕ, suc, length}
use Rattle.rules.specs.Descriptions.{describe}
use Rattle.typed.specs.Symbols.{Symbol, is_boards, is_colon, is_left, is_right, if_number, symbols}
use Rattle.typed.specs.Grammar.{lines_of}
use Rattle.typed.specs.Scanning.{Scanned, malformed, scanned, prefixed, scan}

-- ---- a line

-- the words that a line makes, by its sort, unless it is malformed
pub data Line : Type 0 where
  malformed_line : Line
  relation_words : List ℕ → Line
  kind_words : List ℕ → Line

-- p, the board after the expression, the length and the expression
abbrev pub relation_of : ℕ → Scanned → Line
relation_of p malformed = malformed_line
relation_of p (scanned xs q) = relation_words (p ∷ q ∷ length xs ∷ prefixed xs)

-- the ways up to the closing parenthesis, which ends the line
pub data Ways : Type 0 where
  no_ways : Ways
  ways : List ℕ → Ways

abbrev pub way_before : ℕ → Ways → Ways
way_before y no_ways = no_ways
way_before y (ways ys) = ways (y ∷ ys)

abbrev pub at_end : List Symbol → Ways
at_end [] = ways []
at_end (s ∷ ss) = no_ways

unfoldable pub ways_of : List Symbol → Ways
ways_of [] = no_ways
ways_of (s ∷ ss) = elim (is_right s) [ true ↦ at_end ss | false ↦ if_number s (λ y. way_before y (ways_of ss)) no_ways ]

abbrev pub kind_of : ℕ → ℕ → Ways → Line
kind_of p c no_ways = malformed_line
kind_of p c (ways ys) = kind_words (p ∷ c ∷ length ys ∷ ys)

-- after the code of a kind line
unfoldable pub listed_of : ℕ → ℕ → List Symbol → Line
listed_of p c [] = malformed_line
listed_of p c (s ∷ ss) = elim (is_left s) [ true ↦ kind_of p c (ways_of ss) | false ↦ malformed_line ]

-- after the colon of a kind line
unfoldable pub code_of : ℕ → List Symbol → Line
code_of p [] = malformed_line
code_of p (s ∷ ss) = if_number s (λ c. listed_of p c ss) malformed_line

-- after the first board of a line: a colon, or an expression, where an operand is expected
unfoldable pub placed_of : ℕ → List Symbol → Line
placed_of p [] = malformed_line
placed_of p (s ∷ ss) = elim (is_colon s) [ true ↦ code_of p ss | false ↦ relation_of p (scan 0 true (s ∷ ss)) ]

unfoldable pub line_of : List Symbol → Line
line_of [] = malformed_line
line_of (s ∷ ss) = if_number s (λ p. placed_of p ss) malformed_line

-- ---- the first line

pub data First : Type 0 where
  no_boards : First
  boards_of : ℕ → First

unfoldable pub boards_in : List Symbol → First
boards_in [] = no_boards
boards_in (s ∷ []) = if_number s boards_of no_boards
boards_in (s ∷ t ∷ ss) = no_boards

unfoldable pub first_of : List Symbol → First
first_of [] = no_boards
first_of (s ∷ ss) = elim (is_boards s) [ true ↦ boards_in ss | false ↦ no_boards ]

-- ---- all lines

-- the words of the relation lines and those of the kind lines, each in their order, or the number of the first malformed line
pub data Lines : Type 0 where
  stopped : ℕ → Lines
  lines : List (List ℕ) → List (List ℕ) → Lines

abbrev pub relation_before : List ℕ → Lines → Lines
relation_before w (stopped n) = stopped n
relation_before w (lines rs ks) = lines (w ∷ rs) ks

abbrev pub kind_before : List ℕ → Lines → Lines
kind_before w (stopped n) = stopped n
kind_before w (lines rs ks) = lines rs (w ∷ ks)

-- a line with this number, and those after it
abbrev pub line_before : ℕ → Line → Lines → Lines
line_before n malformed_line r = stopped n
line_before n (relation_words w) r = relation_before w r
line_before n (kind_words w) r = kind_before w r

-- the lines from number n on
unfoldable pub lines_from : ℕ → List (List ℕ) → Lines
lines_from n [] = lines [] []
lines_from n (l ∷ ls) = line_before n (line_of (symbols l)) (lines_from (suc n) ls)

-- the words of the description, or the number of the first malformed line, from 1
pub data Typed : Type 0 where
  malformed_at : ℕ → Typed
  made : List ℕ → Typed

abbrev pub description : ℕ → Lines → Typed
description v (stopped n) = malformed_at n
description v (lines rs ks) = made (describe v rs ks)

abbrev pub opened : First → List (List ℕ) → Typed
opened no_boards ls = malformed_at 1
opened (boards_of v) ls = description v (lines_from 2 ls)

abbrev pub sheet : List (List ℕ) → Typed
sheet [] = malformed_at 1
sheet (l ∷ ls) = opened (first_of (symbols l)) ls

unfoldable pub typed : List ℕ → Typed
typed text = sheet (lines_of text)
