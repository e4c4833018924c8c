-- The symbol that stands so in the code. Assumes nothing.
use mathlib.Core.Path.{◌≡◌, refl}
use Rattle.typed.specs.Symbols.{Symbol, boards, colon, left_paren, right_paren, unknown, word, number}
use Rattle.symbols.specs.Tokens.{mark, told}

-- it is the one that is marked so, and no other is
pub told_mark : (s : Symbol) → told (mark s) ≡ s
told_mark boards = refl
told_mark colon = refl
told_mark left_paren = refl
told_mark right_paren = refl
told_mark unknown = refl
told_mark (word k) = refl
told_mark (number n) = refl
