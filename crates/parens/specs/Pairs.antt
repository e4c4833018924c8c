-- Parentheses that match. Assumes nothing.
use Rattle.std.specs.Prelude.{◌≡◌, false, List, [], ◌∷◌, ◌++◌}
use Rattle.typed.specs.Symbols.{Symbol, left_paren, right_paren, is_left, is_right}

-- the parentheses among these symbols match: a pair around them is one of its own
pub data Balanced : List Symbol → Type 0 where
  none : Balanced []
  other : {s : Symbol} {ss : List Symbol} → is_left s ≡ false → is_right s ≡ false → Balanced ss → Balanced (s ∷ ss)
  pair : {ss ts : List Symbol} → Balanced ss → Balanced ts → Balanced (left_paren ∷ (ss ++ (right_paren ∷ ts)))
