-- What reading a header gives, by the definitions of a description. Assumes nothing.
use Rattle.std.specs.Prelude.{List, ℕ, slice_index, Result, Ok, Err}
use Rattle.rules.specs.Descriptions.{Reading, good, refused, after_header}
use Rattle.answers.specs.declared.refusals.Refusal.{Refusal}
use Rattle.answers.specs.Answers.{refusal}
use Rattle.headers.specs.declared.Header.{Header}

-- a header with these numbers of boards, relation lines and kind lines: the relation lines begin after it, the kind lines at this word
abbrev pub numbered : ℕ → ℕ → ℕ → ℕ → Header
numbered v r k at = record { boards = v; lines = record { at = 6; count = r }; kinds = record { at = at; count = k } }

-- the header's numbers
abbrev pub numbers : List ℕ → Header
numbers ws = numbered (slice_index ws 0) (slice_index ws 1) (slice_index ws 2) (slice_index ws 4)

-- they are good, or refused with a number at a place
abbrev pub numbers_found : {X : Type 0} → List ℕ → Reading X → Result Header Refusal
numbers_found ws (good x) = Ok (numbers ws)
numbers_found ws (refused n k) = Err (refusal n k)

-- a header that passes 1 and 2
abbrev pub header_found : List ℕ → Result Header Refusal
header_found ws = numbers_found ws (after_header ws (good ws))
