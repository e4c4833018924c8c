-- How a good description is typed (02, request 1): relation lines first, one blank between symbols, a line feed after each line, and only the
-- parentheses without which an operand reads differently.
-- Assumes nothing.
use Rattle.std.specs.Prelude.{Bool, true, false, ℕ, zero, suc, ◌+◌, nat_lt, length, slice_index, slice_index_or, take, drop}
use mathlib.Core.List.{List, [], ◌∷◌, ◌++◌, map, flat_map}
use Rattle.rules.specs.Expressions.{Phrase, only_e, only_a, only_b, only_s, union_of, intersection_of, complement_of, inverse_of}
use Rattle.typed.specs.Symbols.{Symbol, boards, colon, left_paren, right_paren, number, blank, spelling}
use Rattle.typed.specs.Grammar.{same, above, below, side, or, and, not, inv}

-- ---- an expression

abbrev pub bracketed : Bool → List Symbol → List Symbol
bracketed true s = left_paren ∷ (s ++ (right_paren ∷ []))
bracketed false s = s

-- The symbols of an expression where it must bind at least so tightly: parentheses around it where it does not.
unfoldable pub typing : ℕ → Phrase → List Symbol
typing n only_e = same ∷ []
typing n only_a = above ∷ []
typing n only_b = below ∷ []
typing n only_s = side ∷ []
typing n (union_of a b) = bracketed (nat_lt 0 n) (typing 0 a ++ (or ∷ typing 1 b))
typing n (intersection_of a b) = bracketed (nat_lt 1 n) (typing 1 a ++ (and ∷ typing 2 b))
typing n (complement_of a) = not ∷ typing 2 a
typing n (inverse_of a) = inv ∷ typing 2 a

-- what a code of an expression makes of its operands
pub data Node : Type 0 where
  leaf : Phrase → Node
  two : (Phrase → Phrase → Phrase) → Node
  one : (Phrase → Phrase) → Node
  unknown_code : Node

unfoldable pub nodes : List Node
nodes = leaf only_e ∷ leaf only_a ∷ leaf only_b ∷ leaf only_s ∷ two union_of ∷ two intersection_of ∷ one complement_of ∷ one inverse_of ∷ []

-- the expression at the front of some words and the words after it, if there is one
pub data Parsed : Type 0 where
  no_phrase : Parsed
  parsed : Phrase → List ℕ → Parsed

abbrev pub and_then : Parsed → (Phrase → List ℕ → Parsed) → Parsed
and_then no_phrase f = no_phrase
and_then (parsed e ws) f = f e ws

unfoldable pub follow : (List ℕ → Parsed) → Node → List ℕ → Parsed
follow operand (leaf e) ws = parsed e ws
follow operand (two f) ws = and_then (operand ws) (λ a more. and_then (operand more) (λ b rest. parsed (f a b) rest))
follow operand (one f) ws = and_then (operand ws) (λ a rest. parsed (f a) rest)
follow operand unknown_code ws = no_phrase

-- the expression at the front of words of which there are at most n
unfoldable pub parse : ℕ → List ℕ → Parsed
parse zero ws = no_phrase
parse (suc n) [] = no_phrase
parse (suc n) (w ∷ ws) = follow (λ left. parse n left) (slice_index_or nodes w unknown_code) ws

-- the expression that some words begin with
abbrev pub phrase_in : Parsed → Phrase
phrase_in no_phrase = only_e
phrase_in (parsed e rest) = e

unfoldable pub phrase_of : List ℕ → Phrase
phrase_of ws = phrase_in (parse (length ws) ws)

-- ---- lines

-- a relation line by its boards and the words of its expression; a kind line by its panel, its code and its ways
abbrev pub relation_typing : ℕ → ℕ → List ℕ → List Symbol
relation_typing p q ws = number p ∷ (typing 0 (phrase_of ws) ++ (number q ∷ []))

abbrev pub kind_typing : ℕ → ℕ → List ℕ → List Symbol
kind_typing p c ys = number p ∷ colon ∷ number c ∷ left_paren ∷ (map number ys ++ (right_paren ∷ []))

-- the lines at the front of some words, so many of them: each has two words, a length and as many words as that says
unfoldable pub lines_typing : (ℕ → ℕ → List ℕ → List Symbol) → ℕ → List ℕ → List (List Symbol)
lines_typing line zero ws = []
lines_typing line (suc n) ws =
    let m = slice_index ws 2 in line (slice_index ws 0) (slice_index ws 1) (take m (drop 3 ws)) ∷ lines_typing line n (drop (3 + m) ws)

-- the lines of a description: the number of boards, the relation lines, the kind lines
unfoldable pub sheet_typing : List ℕ → List (List Symbol)
sheet_typing ws =
    (boards ∷ number (slice_index ws 0) ∷ [])
    ∷ (lines_typing relation_typing (slice_index ws 1) (drop 6 ws) ++ lines_typing kind_typing (slice_index ws 2) (drop (slice_index ws 4) ws))

-- ---- the text

-- a symbol after another
unfoldable pub spaced : Symbol → List ℕ
spaced s = blank ∷ spelling s

unfoldable pub line_text : List Symbol → List ℕ
line_text [] = 10 ∷ []
line_text (s ∷ ss) = spelling s ++ (flat_map spaced ss ++ (10 ∷ []))

unfoldable pub text_of : List ℕ → List ℕ
text_of ws = flat_map line_text (sheet_typing ws)
