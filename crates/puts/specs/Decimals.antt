-- Numbers in decimal, in ASCII. Assumes nothing.
use Rattle.std.specs.Prelude.{true, false, List, [], ◌∷◌, ◌++◌, ℕ, zero, suc, ◌+◌, ◌/◌, ◌%◌, nat_lt}

-- the last decimal digit of a number
abbrev pub last_digit : ℕ → ℕ
last_digit n = 48 + n % 10

-- the last decimal digits of n, at most k of them, without leading zeros
unfoldable pub digits : ℕ → ℕ → List ℕ
digits zero n = []
digits (suc k) n = elim (nat_lt n 10) [ true ↦ last_digit n ∷ [] | false ↦ digits k (n / 10) ++ (last_digit n ∷ []) ]

-- a number in decimal: it has no more digits than it counts
unfoldable pub decimal : ℕ → List ℕ
decimal n = digits (suc n) n
