-- Expressions in prefix order (01, 'The description'): their meaning, and when they are refused.
-- Assumes nothing.
use Rattle.std.specs.Prelude.{◌≡◌, List, [], ◌∷◌, ◌++◌, ℕ, zero, suc, ◌≤◌, length, slice_index_or, take}
use Rattle.rules.specs.Relations.{E, A, B, S, join, meet, complement, converse}

-- a code stands for a set, for an operator with two operands or with one, or for nothing
pub data Code : Type 0 where
  relation : ℕ → Code
  two : (ℕ → ℕ → ℕ) → Code
  one : (ℕ → ℕ) → Code
  unknown : Code

-- Codes 0, 1, 2, 3 are E, A, B, S; 4 is union and 5 intersection, with two operands; 6 is complement and 7 inverse, with one.
unfoldable pub codes : List Code
codes = relation E ∷ relation A ∷ relation B ∷ relation S ∷ two join ∷ two meet ∷ one complement ∷ one converse ∷ []

unfoldable pub code : ℕ → Code
code w = slice_index_or codes w unknown

-- an expression at the front of some words: its set and the words after it; or there is none, and the words from the first that goes on with none
pub data Value : Type 0 where
  value : ℕ → List ℕ → Value
  malformed : List ℕ → Value

abbrev pub and_then : Value → (ℕ → List ℕ → Value) → Value
and_then (value x ws) f = f x ws
and_then (malformed ws) f = malformed ws

-- The word w has this code. An operator is followed by its operands, each a whole expression, which `operand` reads off the words left; there the first that fails
-- is where the whole fails, and a code that stands for nothing fails itself.
unfoldable pub follow : (List ℕ → Value) → Code → ℕ → List ℕ → Value
follow operand (relation x) w ws = value x ws
follow operand (two f) w ws = and_then (operand ws) (λ x more. and_then (operand more) (λ y rest. value (f x y) rest))
follow operand (one f) w ws = and_then (operand ws) (λ x rest. value (f x) rest)
follow operand unknown w ws = malformed (w ∷ ws)

-- the expression at the front of words of which there are at most n
unfoldable pub evaluate : ℕ → List ℕ → Value
evaluate zero ws = malformed ws
evaluate (suc n) [] = malformed []
evaluate (suc n) (w ∷ ws) = follow (λ left. evaluate n left) (code w) w ws

-- The expression must use its whole length and no more: its set, with no word after it.
unfoldable pub expression : List ℕ → Value
expression ws = evaluate (length ws) ws

-- An expression as a person reads it, the words that write it, and the set that it stands for: what `expression` is shown to agree with.
pub data Phrase : Type 0 where
  only_e only_a only_b only_s : Phrase
  union_of intersection_of : Phrase → Phrase → Phrase
  complement_of inverse_of : Phrase → Phrase

unfoldable pub written : Phrase → List ℕ
written only_e = 0 ∷ []
written only_a = 1 ∷ []
written only_b = 2 ∷ []
written only_s = 3 ∷ []
written (union_of a b) = 4 ∷ (written a ++ written b)
written (intersection_of a b) = 5 ∷ (written a ++ written b)
written (complement_of a) = 6 ∷ written a
written (inverse_of a) = 7 ∷ written a

unfoldable pub denoted : Phrase → ℕ
denoted only_e = E
denoted only_a = A
denoted only_b = B
denoted only_s = S
denoted (union_of a b) = join (denoted a) (denoted b)
denoted (intersection_of a b) = meet (denoted a) (denoted b)
denoted (complement_of a) = complement (denoted a)
denoted (inverse_of a) = converse (denoted a)

-- some expression begins with these words
abbrev pub Begins : List ℕ → Type 0
Begins ws = (e : Phrase) × (more : List ℕ) × (written e ≡ ws ++ more)

-- k is the length of the longest beginning of the words that some expression begins with: what the place of a refused expression is shown to be
pub record Longest (ws : List ℕ) (k : ℕ) : Type 0 where
  pub within : k ≤ length ws
  pub begins : Begins (take k ws)
  pub longest : (j : ℕ) → j ≤ length ws → Begins (take j ws) → j ≤ k
