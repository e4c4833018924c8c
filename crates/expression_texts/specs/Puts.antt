-- The expression that some words begin with, in prefix order, and its bytes as it is typed. Assumes nothing.
use Rattle.std.specs.Prelude.{◌≡◌, Bool, true, false, ℕ, length}
use mathlib.Core.List.{List, [], ◌∷◌, ◌++◌, flat_map}
use Rattle.rules.specs.Expressions.{Phrase, written}
use Rattle.typed.specs.Symbols.{blank}
use Rattle.typed.specs.Writing.{typing, phrase_of, spaced}

-- some words begin with an expression
pub record Begins (ws : List ℕ) : Type 0 where
  pub phrase : Phrase
  pub rest : List ℕ
  pub words : ws ≡ written phrase ++ rest

-- how many words it has
abbrev pub extent : List ℕ → ℕ
extent ws = length (written (phrase_of ws))

-- its bytes where it must bind at least so tightly, each symbol after a blank
abbrev pub bytes : ℕ → List ℕ → List ℕ
bytes n ws = flat_map spaced (typing n (phrase_of ws))

-- a byte after a blank, where it is needed
abbrev pub marked : Bool → ℕ → List ℕ
marked true b = blank ∷ b ∷ []
marked false b = []
