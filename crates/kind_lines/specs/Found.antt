-- What reading a kind line gives, by the definitions of a description. Assumes nothing.
use Rattle.std.specs.Prelude.{ℕ, length, Result, Ok, Err}
use Rattle.rules.specs.Descriptions.{KindLine, Reading, good, refused, Front}
use Rattle.answers.specs.declared.refusals.Refusal.{Refusal}
use Rattle.answers.specs.Answers.{refusal}

-- the number of words after a kind line, which is found by its place, or the refusal
abbrev pub kind_found : Reading (Front KindLine) → Result ℕ Refusal
kind_found (good f) = Ok (length f.rest)
kind_found (refused n k) = Err (refusal n k)
