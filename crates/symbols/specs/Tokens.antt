-- Symbols as the code has them, and the symbol at a place of a line. Assumes nothing.
use Rattle.std.specs.Prelude.{Some, None, Bool, ◌&&◌, List, ℕ, ◌-◌, nat_lt, nat_eq, length, slice_index, drop}
use Rattle.typed.specs.Symbols.{Symbol, boards, colon, left_paren, right_paren, unknown, word, number, Front, blanks, front, front_of}
use Rattle.symbols.specs.declared.Symbol.{Symbol as Mark}
use Rattle.symbols.specs.declared.Symbol.TheVariants.{Boards, Colon, LeftParen, RightParen, Unknown, Word, Number}
use Rattle.symbols.specs.declared.Token.{Token}

-- a symbol as the code has it
abbrev pub mark : Symbol → Mark
mark boards = Boards
mark colon = Colon
mark left_paren = LeftParen
mark right_paren = RightParen
mark unknown = Unknown
mark (word k) = Word k
mark (number n) = Number n

-- the symbol that stands so in the code
abbrev pub told : Mark → Symbol
told Boards = boards
told Colon = colon
told LeftParen = left_paren
told RightParen = right_paren
told Unknown = unknown
told (Word k) = word k
told (Number n) = number n

-- the first symbol of the end of a line of n bytes, and the place after it
abbrev pub token_of : ℕ → Front → Token
token_of n blanks = record { symbol = None; next = n }
token_of n (front s rest) = record { symbol = Some (mark s); next = n - length rest }

-- the first symbol of a line from a place on, and the place after it
unfoldable pub token : List ℕ → ℕ → Token
token line at = token_of (length line) (front_of (drop at line))

-- of several bytes the first is a zero
unfoldable pub padded : List ℕ → Bool
padded run = nat_lt 1 (length run) && nat_eq (slice_index run 0) 48
