-- Descriptions (01, 'The description' and 'Refusal numbers' 1 to 5; 02, request 2: 11, and request 3: places): the meaning of a run of words, or its
-- first refusal and where it is.
-- Assumes nothing.
use Rattle.std.specs.Prelude.{◌≡◌, Bool, true, false, not, ◌&&◌, ◌||◌, ℕ, zero, suc, ◌+◌, ◌-◌, ◌*◌, ◌/◌, ◌≤◌, ◌<◌, nat_le, nat_lt, nat_eq, length, slice_index, take, drop}
use mathlib.Core.List.{List, [], ◌∷◌, ◌++◌, flatten, Memᴰ}
use Rattle.rules.specs.Relations.{some_of}
use Rattle.rules.specs.Expressions.{Value, value, malformed, expression}

-- the most boards, relation lines, kind lines, words of an expression and ways
abbrev pub most_boards : ℕ
most_boards = 16

abbrev pub most_lines : ℕ
most_lines = 128

abbrev pub most_kinds : ℕ
most_kinds = 16

abbrev pub most_expression_words : ℕ
most_expression_words = 15

abbrev pub most_ways : ℕ
most_ways = 8

-- the words of the longest description, the most cells of a table and the most pairs of boards
abbrev pub most_words : ℕ
most_words = 6 + most_lines * (3 + most_expression_words) + most_kinds * (3 + most_ways)

abbrev pub most_cells : ℕ
most_cells = most_boards * most_boards

abbrev pub most_pairs : ℕ
most_pairs = most_boards * (most_boards - 1) / 2

-- (p, q) is in the set
pub record RelationLine : Type 0 where
  pub p : ℕ
  pub q : ℕ
  pub allowed : ℕ

-- p is a panel of this code, and feeds exactly these ways, in order
pub record KindLine : Type 0 where
  pub p : ℕ
  pub code : ℕ
  pub ways : List ℕ

pub record Sheet : Type 0 where
  pub boards : ℕ
  pub lines : List RelationLine
  pub kinds : List KindLine

-- what is read, or the number of the first refusal and its place, in the words that are read: the index of the first word that breaks the rule or, where words are
-- missing, the place just after those that there are
pub data Reading (X : Type 0) : Type 0 where
  good : X → Reading X
  refused : ℕ → ℕ → Reading X

-- a line and the words of its section after it
pub record Front (X : Type 0) : Type 0 where
  pub line : X
  pub rest : List ℕ

module _ {X : Type 0} where
  -- refused with this number at this place unless the test passes
  abbrev pub need : ℕ → ℕ → Bool → Reading X → Reading X
  need n k true r = r
  need n k false r = refused n k

  abbrev pub next : {Y : Type 0} → Reading Y → (Y → Reading X) → Reading X
  next (good y) f = f y
  next (refused n k) f = refused n k

  -- what is read of the words after the first m, so that a place counts these too
  abbrev pub later : ℕ → Reading X → Reading X
  later m (good x) = good x
  later m (refused n k) = refused n (m + k)

-- The meaning of a whole expression of n words, or refusal 5, where these fail to be one: at a code above 7, at the first word left over, or just after them.
abbrev pub meaning : ℕ → Value → Reading ℕ
meaning n (value x []) = good x
meaning n (value x (w ∷ ws)) = refused 5 (n - length (w ∷ ws))
meaning n (malformed ws) = refused 5 (n - length ws)

-- Relation line: p, q, a length from 1 to 15, then that many words of an expression. Within a line 3 comes first, then 4, then 5. A line that its section is too
-- short for is refused at the section's end.
unfoldable pub relation_line : ℕ → List ℕ → Reading (Front RelationLine)
relation_line v [] = refused 3 0
relation_line v (p ∷ []) = refused 3 1
relation_line v (p ∷ q ∷ []) = refused 3 2
relation_line v (p ∷ q ∷ n ∷ ws) =
    need 3 2 (nat_le 1 n && nat_le n most_expression_words)
    (need 3 (3 + length ws) (nat_le n (length ws))
    (need 4 0 (nat_lt p v)
    (need 4 1 (nat_lt q v)
    (next (later 3 (meaning n (expression (take n ws))))
    (λ x. good (record { line = record { p = p; q = q; allowed = x }; rest = drop n ws }))))))

-- how many of these are boards, up to the first that is none; and whether all of them are
unfoldable pub boards_before : ℕ → List ℕ → ℕ
boards_before v [] = 0
boards_before v (y ∷ ys) = elim (nat_lt y v) [ true ↦ suc (boards_before v ys) | false ↦ 0 ]

abbrev pub boards_only : ℕ → List ℕ → Bool
boards_only v ys = nat_le (length ys) (boards_before v ys)

-- Kind line: p, a kind code (any word), a number of ways n from 0 to 8, then n boards in order.
unfoldable pub kind_line : ℕ → List ℕ → Reading (Front KindLine)
kind_line v [] = refused 3 0
kind_line v (p ∷ []) = refused 3 1
kind_line v (p ∷ c ∷ []) = refused 3 2
kind_line v (p ∷ c ∷ n ∷ ws) =
    need 3 2 (nat_le n most_ways)
    (need 3 (3 + length ws) (nat_le n (length ws))
    (need 4 0 (nat_lt p v)
    (need 4 (3 + boards_before v (take n ws)) (boards_only v (take n ws))
    (good (record { line = record { p = p; code = c; ways = take n ws }; rest = drop n ws })))))

-- Each section is filled exactly by its lines: words left over are refused with 3, after the lines.
unfoldable pub section : {X : Type 0} → (List ℕ → Reading (Front X)) → ℕ → List ℕ → Reading (List X)
section line zero [] = good []
section line zero (w ∷ ws) = refused 3 0
section line (suc n) ws =
    next (line ws) (λ l. later (length ws - length l.rest) (next (section line n l.rest) (λ ls. good (l.line ∷ ls))))

-- The header's six words: the numbers of boards, relation lines and kind lines, the offsets of the two sections, the total number of words.
-- 1 is for fewer words, or a number out of range; then comes what is read after them.
unfoldable pub after_numbers : {X : Type 0} → List ℕ → Reading X → Reading X
after_numbers ws r =
    need 1 (length ws) (nat_le 6 (length ws))
    (need 1 0 (nat_le 1 (slice_index ws 0) && nat_le (slice_index ws 0) most_boards)
    (need 1 1 (nat_le (slice_index ws 1) most_lines)
    (need 1 2 (nat_le (slice_index ws 2) most_kinds) r)))

-- 2 is for a relation offset not 6, a kind offset below 6 or above the total, a total not the number of words lent; then comes what is read after them.
unfoldable pub after_offsets : {X : Type 0} → List ℕ → Reading X → Reading X
after_offsets ws r =
    need 2 3 (nat_eq (slice_index ws 3) 6)
    (need 2 4 (nat_le 6 (slice_index ws 4) && nat_le (slice_index ws 4) (slice_index ws 5))
    (need 2 5 (nat_eq (slice_index ws 5) (length ws)) r))

-- what is read after a good header
abbrev pub after_header : {X : Type 0} → List ℕ → Reading X → Reading X
after_header ws r = after_numbers ws (after_offsets ws r)

-- the two sections
unfoldable pub relation_lines : List ℕ → Reading (List RelationLine)
relation_lines ws = later 6 (section (relation_line (slice_index ws 0)) (slice_index ws 1) (take (slice_index ws 4 - 6) (drop 6 ws)))

unfoldable pub kind_lines : List ℕ → Reading (List KindLine)
kind_lines ws = later (slice_index ws 4) (section (kind_line (slice_index ws 0)) (slice_index ws 2) (drop (slice_index ws 4) ws))

-- a sheet of v boards, of what is read of its two sections, the relation lines first
abbrev pub both_read : ℕ → Reading (List RelationLine) → Reading (List KindLine) → Reading Sheet
both_read v a b = next a (λ ls. next b (λ ks. good (record { boards = v; lines = ls; kinds = ks })))

-- What 01 makes of a description: its meaning, or its first refusal: 1, 2, then the first faulty line.
unfoldable pub meant : List ℕ → Reading Sheet
meant ws = after_header ws (both_read (slice_index ws 0) (relation_lines ws) (kind_lines ws))

-- One kind code means one number of ways. A kind line disagrees with one that has its code and another number of ways.
unfoldable pub disagrees : KindLine → KindLine → Bool
disagrees k l = nat_eq k.code l.code && not (nat_eq (length k.ways) (length l.ways))

-- The number, from 0, of the first of some lines that disagrees with an earlier one, those that come before them all included; or how many they are.
unfoldable pub first_disagreeing : List KindLine → List KindLine → ℕ
first_disagreeing earlier [] = 0
first_disagreeing earlier (k ∷ ks) = elim (some_of (disagrees k) earlier) [ true ↦ 0 | false ↦ suc (first_disagreeing (earlier ++ (k ∷ [])) ks) ]

-- the words of some kind lines
unfoldable pub kind_words : List KindLine → ℕ
kind_words [] = 0
kind_words (k ∷ ks) = 3 + length k.ways + kind_words ks

-- 11 is for the first kind line that disagrees with an earlier one, at its number of ways.
unfoldable pub agreed : List KindLine → Reading (List KindLine)
agreed ks = let n = first_disagreeing [] ks in need 11 (kind_words (take n ks) + 2) (nat_eq n (length ks)) (good ks)

-- the kind lines begin at this word
abbrev pub agreed_sheet : ℕ → Sheet → Reading Sheet
agreed_sheet at s = next (later at (agreed s.kinds)) (λ ks. good s)

-- The meaning of a description, or its first refusal: those of 01, then 11.
unfoldable pub read : List ℕ → Reading Sheet
read ws = next (meant ws) (agreed_sheet (slice_index ws 4))

-- the numbers that a description is refused with: 1 to 5, and 11
abbrev pub refuses_description : ℕ → Bool
refuses_description n = (nat_le 1 n && nat_le n 5) || nat_eq n 11

-- two kind lines have as many ways if they have one code; so have any two of these
abbrev pub SameArity : KindLine → KindLine → Type 0
SameArity k l = k.code ≡ l.code → length k.ways ≡ length l.ways

abbrev pub OneArity : List KindLine → Type 0
OneArity ks = (k l : KindLine) → Memᴰ k ks → Memᴰ l ks → SameArity k l

-- what the words of a good description come to
pub record WellFormed (s : Sheet) : Type 0 where
  pub boards : (1 ≤ s.boards) × (s.boards ≤ most_boards)
  pub lines : (length s.lines ≤ most_lines) × ((l : RelationLine) → Memᴰ l s.lines → (l.p < s.boards) × (l.q < s.boards))
  pub kinds : (length s.kinds ≤ most_kinds) × ((k : KindLine) → Memᴰ k s.kinds
      → (k.p < s.boards) × (length k.ways ≤ most_ways) × ((i : ℕ) → i < length k.ways → slice_index k.ways i < s.boards))
  pub arity : OneArity s.kinds

-- the words of a description of v boards with these relation lines and kind lines
abbrev pub describe : ℕ → List (List ℕ) → List (List ℕ) → List ℕ
describe v ls ks =
    let lines = flatten ls in
    let kinds = flatten ks in
    v ∷ length ls ∷ length ks ∷ 6 ∷ (6 + length lines) ∷ (6 + length lines + length kinds) ∷ (lines ++ kinds)
