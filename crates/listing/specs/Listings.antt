-- What the program prints for the bytes that it read, in ASCII (01, 'Sites to try', the program).
-- Assumes nothing.
use Rattle.std.specs.Prelude.{true, false, ◌&&◌, ℕ, suc, ◌-◌, ◌*◌, ◌%◌, nat_le, nat_eq, length, slice_index}
use mathlib.Core.List.{List, [], ◌∷◌, ◌++◌, flat_map}
use Rattle.rules.specs.Relations.{E, A, B}
use Rattle.rules.specs.Descriptions.{most_words}
use Rattle.rules.specs.Tables.{cell, range, up_to, filled}
use Rattle.rules.specs.Search.{plain_order}
use Rattle.rules.specs.Calls.{Outcome, searching}
use Rattle.words.specs.Words.{words}
use Rattle.puts.specs.Decimals.{decimal}

-- the bytes of the longest description, two for each word
abbrev pub most_bytes : ℕ
most_bytes = 2 * most_words

-- the tries that are allowed
abbrev pub budget : ℕ
budget = 10000

-- ---- what a line is made of

-- `boards `
abbrev pub boards_text : List ℕ
boards_text = 98 ∷ 111 ∷ 97 ∷ 114 ∷ 100 ∷ 115 ∷ 32 ∷ []

-- ` tries `
abbrev pub tries_text : List ℕ
tries_text = 32 ∷ 116 ∷ 114 ∷ 105 ∷ 101 ∷ 115 ∷ 32 ∷ []

-- `refused `
abbrev pub refused_text : List ℕ
refused_text = 114 ∷ 101 ∷ 102 ∷ 117 ∷ 115 ∷ 101 ∷ 100 ∷ 32 ∷ []

-- `input` and a line feed
abbrev pub input_line : List ℕ
input_line = 105 ∷ 110 ∷ 112 ∷ 117 ∷ 116 ∷ 10 ∷ []

abbrev pub line_feed : List ℕ
line_feed = 10 ∷ []

-- the sign of a single relation: = E, < A, > B, | S
unfoldable pub sign : ℕ → ℕ
sign x = elim (nat_eq x E) [ true ↦ 61 | false ↦ elim (nat_eq x A) [ true ↦ 60 | false ↦ elim (nat_eq x B) [ true ↦ 62 | false ↦ 124 ] ] ]

-- the sign between blanks
abbrev pub sign_text : ℕ → List ℕ
sign_text x = 32 ∷ sign x ∷ 32 ∷ []

-- ---- the lines

-- A refusal prints only `refused`, a blank and its number.
unfoldable pub refusal_line : ℕ → List ℕ
refusal_line n = refused_text ++ (decimal n ++ line_feed)

-- The first line has V and the tries.
unfoldable pub heading : ℕ → ℕ → List ℕ
heading v n = boards_text ++ (decimal v ++ (tries_text ++ (decimal n ++ line_feed)))

-- The line of a pair has p, the sign and q.
unfoldable pub pair_line : ℕ → List ℕ → ℕ → ℕ → List ℕ
pair_line v t p q = decimal p ++ (sign_text (cell v t p q) ++ (decimal q ++ line_feed))

-- Each board after p has a line with p, in order.
abbrev pub pairs_of : ℕ → List ℕ → ℕ → List ℕ
pairs_of v t p = flat_map (pair_line v t p) (range (suc p) (v - suc p))

-- There is one line for each pair p < q, by p and then q.
abbrev pub pairs : ℕ → List ℕ → List ℕ
pairs v t = flat_map (pairs_of v t) (up_to v)

-- what is printed of an outcome of the search
unfoldable pub told : ℕ → Outcome (List ℕ) → List ℕ
told v o = elim (nat_eq o.number 0) [ true ↦ heading v o.count ++ pairs v o.lent | false ↦ refusal_line o.number ]

-- The program starts from a full table with a budget of 10,000.
unfoldable pub solved : List ℕ → List ℕ
solved ws = let v = slice_index ws 0 in told v (searching plain_order ws (filled v) budget)

-- An odd number of bytes, or more than 4,972, prints only `input`.
unfoldable pub listing : List ℕ → List ℕ
listing bytes = elim (nat_eq (length bytes % 2) 0 && nat_le (length bytes) most_bytes) [ true ↦ solved (words bytes) | false ↦ input_line ]
