-- What the reader's functions give, by the definitions of a description. Assumes nothing.
use Rattle.std.specs.Prelude.{List, ℕ, zero, suc, Result, Ok, Err}
use Rattle.rules.specs.Descriptions.{Reading, good, refused, read}
use Rattle.answers.specs.declared.refusals.Refusal.{Refusal}
use Rattle.answers.specs.Answers.{refusal}
use Rattle.headers.specs.declared.Header.{Header}
use Rattle.headers.specs.Found.{numbers_found}

-- whether a section is filled by its lines
abbrev pub section_found : {X : Type 0} → Reading X → Result (Unit {0}) Refusal
section_found (good x) = Ok tt
section_found (refused n k) = Err (refusal n k)

-- a section after its last line, which ends at the word `at`, by the number of words left over
abbrev pub end_found : ℕ → ℕ → Result (Unit {0}) Refusal
end_found at zero = Ok tt
end_found at (suc n) = Err (refusal 3 at)

-- a description that is read to its end
abbrev pub description_found : List ℕ → Result Header Refusal
description_found ws = numbers_found ws (read ws)
