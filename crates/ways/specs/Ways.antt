-- What rule 5 says of two ways. Assumes nothing.
use Rattle.std.specs.Prelude.{ℕ, nat_eq}
use Rattle.rules.specs.Relations.{S}
use Rattle.rules.specs.Closing.{unless}

-- {S} for two places among the ways, all relations for one and the same
abbrev pub apart : ℕ → ℕ → ℕ
apart i j = unless (nat_eq i j) S
