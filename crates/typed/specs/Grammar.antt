-- The grammar of typed sheets (02, request 1): which symbols write which expression, line and description, with any parentheses more than needed.
-- Assumes nothing.
use Rattle.std.specs.Prelude.{◌≡◌, true, false, List, [], ◌∷◌, ◌++◌, map, ℕ, zero, suc, ◌+◌, ◌-◌, ◌≤◌, ◌<◌, nat_eq, length, slice_index_or}
use Rattle.rules.specs.Expressions.{Phrase, only_e, only_a, only_b, only_s, union_of, intersection_of, complement_of, inverse_of, written}
use Rattle.rules.specs.Descriptions.{describe}
use Rattle.typed.specs.Symbols.{Symbol, boards, colon, left_paren, right_paren, word, number, Spelled}

-- ---- expressions

-- the words of an expression
abbrev pub same : Symbol
same = word 0

abbrev pub above : Symbol
above = word 1

abbrev pub below : Symbol
below = word 2

abbrev pub side : Symbol
side = word 3

abbrev pub or : Symbol
or = word 4

abbrev pub and : Symbol
and = word 5

abbrev pub not : Symbol
not = word 6

abbrev pub inv : Symbol
inv = word 7

-- The symbols write this expression, and bind at least so tightly: 0 is any expression, 1 is one without `or` outside parentheses, and 2 an
-- operand of `not` and `inv`. These bind tightest, then `and`, then `or`, joined from the left.
pub data Writes : ℕ → List Symbol → Phrase → Type 0 where
  same_board : Writes 2 (same ∷ []) only_e
  strictly_above : Writes 2 (above ∷ []) only_a
  strictly_below : Writes 2 (below ∷ []) only_b
  on_the_side : Writes 2 (side ∷ []) only_s
  in_parens : {s : List Symbol} {e : Phrase} → Writes 0 s e → Writes 2 (left_paren ∷ (s ++ (right_paren ∷ []))) e
  negated : {s : List Symbol} {e : Phrase} → Writes 2 s e → Writes 2 (not ∷ s) (complement_of e)
  inverted : {s : List Symbol} {e : Phrase} → Writes 2 s e → Writes 2 (inv ∷ s) (inverse_of e)
  both : {s t : List Symbol} {e f : Phrase} → Writes 1 s e → Writes 2 t f → Writes 1 (s ++ (and ∷ t)) (intersection_of e f)
  either : {s t : List Symbol} {e f : Phrase} → Writes 0 s e → Writes 1 t f → Writes 0 (s ++ (or ∷ t)) (union_of e f)
  tighter : {n : ℕ} {s : List Symbol} {e : Phrase} → Writes (suc n) s e → Writes n s e

-- ---- lines

-- A relation line is `p expr q`; its words are p, q, the length of the expression and the expression.
pub data RelationTyped : List Symbol → List ℕ → Type 0 where
  relation : {s : List Symbol} {e : Phrase} (p q : ℕ) → Writes 0 s e
      → RelationTyped (number p ∷ (s ++ (number q ∷ []))) (p ∷ q ∷ length (written e) ∷ written e)

-- A kind line is `p : code ( ways )`; its words are p, the code, the number of ways and the ways.
pub data KindTyped : List Symbol → List ℕ → Type 0 where
  kind : (p c : ℕ) (ys : List ℕ)
      → KindTyped (number p ∷ colon ∷ number c ∷ left_paren ∷ (map number ys ++ (right_paren ∷ []))) (p ∷ c ∷ length ys ∷ ys)

-- ---- the text

-- Lines end in a line feed, which the last may lack: the lines of a text, without it.
unfoldable pub lines_of : List ℕ → List (List ℕ)
lines_of [] = []
lines_of (b ∷ bs) = elim (nat_eq b 10) [ true ↦ [] ∷ lines_of bs | false ↦ onto (lines_of bs) ]
  where
    onto : List (List ℕ) → List (List ℕ)
    onto [] = (b ∷ []) ∷ []
    onto (l ∷ ls) = (b ∷ l) ∷ ls

-- lines of the two sorts, mixed: the words of the relation lines and those of the kind lines, each in their order
pub data LinesTyped : List (List ℕ) → List (List ℕ) → List (List ℕ) → Type 0 where
  none : LinesTyped [] [] []
  relation_next : {l w : List ℕ} {ls rs ks : List (List ℕ)} {ss : List Symbol} → Spelled l ss → RelationTyped ss w → LinesTyped ls rs ks
      → LinesTyped (l ∷ ls) (w ∷ rs) ks
  kind_next : {l w : List ℕ} {ls rs ks : List (List ℕ)} {ss : List Symbol} → Spelled l ss → KindTyped ss w → LinesTyped ls rs ks
      → LinesTyped (l ∷ ls) rs (w ∷ ks)

-- The text writes this description: its first line is `boards V`, and the relation lines come before the kind lines in the words.
pub record SheetTyped (text words : List ℕ) : Type 0 where
  pub v : ℕ
  pub first : List ℕ
  pub rest : List (List ℕ)
  pub relations : List (List ℕ)
  pub kinds : List (List ℕ)
  pub lines : lines_of text ≡ first ∷ rest
  pub opens : Spelled first (boards ∷ number v ∷ [])
  pub follow : LinesTyped rest relations kinds
  pub makes : words ≡ describe v relations kinds

-- ---- malformed lines

-- a line after the first is well-formed
pub data LineTyped : List ℕ → Type 0 where
  relation_line : {l w : List ℕ} {ss : List Symbol} → Spelled l ss → RelationTyped ss w → LineTyped l
  kind_line : {l w : List ℕ} {ss : List Symbol} → Spelled l ss → KindTyped ss w → LineTyped l

-- the line with this number, from 1, is well-formed: the first is `boards V`
abbrev pub LineWritten : ℕ → List ℕ → Type 0
LineWritten zero l = ⊥
LineWritten (suc zero) l = (v : ℕ) × Spelled l (boards ∷ number v ∷ [])
LineWritten (suc (suc n)) l = LineTyped l

-- the line with this number, from 1; an empty text has an empty first line
abbrev pub line_at : List ℕ → ℕ → List ℕ
line_at text n = slice_index_or (lines_of text) (n - 1) []

-- The line with this number is malformed, and is the first.
pub record FirstMalformed (text : List ℕ) (n : ℕ) : Type 0 where
  pub some : 1 ≤ n
  pub inside : n ≤ 1 + (length (lines_of text) - 1)
  pub before : (i : ℕ) → 1 ≤ i → i < n → LineWritten i (line_at text i)
  pub fault : LineWritten n (line_at text n) → ⊥
