-- The ways of a kind line as the code has them: those so far are kept in a room for as many as there may be, and counted. Assumes nothing.
use Rattle.std.specs.Prelude.{◌≡◌, Bool, true, false, List, [], ◌∷◌, ◌++◌, ℕ, suc, ◌≤◌, min, length, take, Some}
use Rattle.rules.specs.Descriptions.{most_ways}
use Rattle.typed.specs.Symbols.{Symbol}
use Rattle.typed.specs.Sheets.{kind_words}
use Rattle.taken.specs.Lines.{Took}

-- no symbol is left
abbrev pub none : List Symbol → Bool
none [] = true
none (s ∷ ss) = false

-- the ways so far are kept, as long as they are not too many, and counted up to one too many
pub record Holds (ys room : List ℕ) (n : ℕ) : Type 0 where
  pub count : n ≡ min (length ys) (suc most_ways)
  pub kept : length ys ≤ most_ways → take n room ≡ ys

-- another way is kept after those so far
abbrev pub Keeps : ℕ → List ℕ → ℕ → List ℕ → ℕ → Type 0
Keeps y room n room' n' = (ys : List ℕ) → Holds ys room n → Holds (ys ++ (y ∷ [])) room' n'

-- the words of the line with the ways that are held go to the words from a place on, and the next place is after them
abbrev pub Puts : ℕ → ℕ → List ℕ → ℕ → List ℕ → ℕ → List ℕ → ℕ → Type 0
Puts p c room n before at after next = (ys : List ℕ) → Holds ys room n → Took most_ways (kind_words (p ∷ c ∷ length ys ∷ ys)) before at after (Some next)
