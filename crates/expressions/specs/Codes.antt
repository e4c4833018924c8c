-- What a code does with operands, by what it stands for in the definition. Assumes nothing.
use Rattle.std.specs.Prelude.{◌≡◌, List, ℕ, ◌<◌, length, slice_index}
use Rattle.rules.specs.Expressions.{Code, relation, two, one, unknown, codes, code}

-- how many operands a code takes: where it stands for nothing, three, which no other code takes
abbrev pub operands : Code → ℕ
operands (relation x) = 0
operands (two f) = 2
operands (one f) = 1
operands unknown = 3

-- how many operands the code w takes stands at w
pub record Counts (t : List ℕ) : Type 0 where
  pub cells : length t ≡ length codes
  pub entry : (w : ℕ) → w < length codes → slice_index t w ≡ operands (code w)

-- what an operator makes of its one operand, and of its two; any other code makes nothing of them
abbrev pub unary : Code → ℕ → ℕ
unary (relation x) y = 0
unary (two f) y = 0
unary (one f) y = f y
unary unknown y = 0

abbrev pub binary : Code → ℕ → ℕ → ℕ
binary (relation x) y z = 0
binary (two f) y z = f y z
binary (one f) y z = 0
binary unknown y z = 0
