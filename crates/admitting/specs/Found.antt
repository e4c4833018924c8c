-- What a call finds when it looks at the description and then at the table. Assumes nothing.
use Rattle.std.specs.Prelude.{Bool, List, ℕ, Result}
use Rattle.rules.specs.Calls.{admitted}
use Rattle.answers.specs.declared.refusals.Refusal.{Refusal}
use Rattle.headers.specs.declared.Header.{Header}
use Rattle.headers.specs.Found.{numbers_found}

-- the header of the description, or the first refusal: 1 to 5, then 11, then 6 by what it asks for
abbrev pub admitted_found : (ℕ → List ℕ → Bool) → List ℕ → List ℕ → Result Header Refusal
admitted_found asks ws t = numbers_found ws (admitted asks ws t)
