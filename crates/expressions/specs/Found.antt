-- What reading an expression gives, by its definition. Assumes nothing.
use Rattle.std.specs.Prelude.{ℕ, [], ◌∷◌, length, Result, Ok, Err}
use Rattle.rules.specs.Expressions.{Value, value, malformed}

-- a set, and the number of words after its expression
abbrev pub found : ℕ → ℕ → Result (ℕ × ℕ) ℕ
found x n = Ok (x, n)

-- an expression's set and the number of words after it, or the number of words from where it fails
abbrev pub expression_found : Value → Result (ℕ × ℕ) ℕ
expression_found (value x rest) = found x (length rest)
expression_found (malformed left) = Err (length left)

-- whether an expression leaves no word, or the number of words from the first that is left, or from where it fails
abbrev pub scan_found : Value → Result (Unit {0}) ℕ
scan_found (value x []) = Ok tt
scan_found (value x (w ∷ rest)) = Err (length (w ∷ rest))
scan_found (malformed left) = Err (length left)
