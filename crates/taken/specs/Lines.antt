-- What taking a typed line answers and leaves, and the words that it begins with. Assumes nothing.
use Rattle.std.specs.Prelude.{◌≡◌, Option, Some, None, List, [], ◌∷◌, ℕ, ◌+◌, length}
use Rattle.std.proofs.lemmas.List.Edits.{sets}
use Rattle.typed.specs.Brief.{brief}
use Rattle.typed.specs.Sheets.{Line, malformed_line, relation_words, kind_words}

-- the words of a line, at most m after the first three, go to the words lent from a place on, unless it is malformed; the answer has the next place
abbrev pub taken : ℕ → Line → ℕ → Option ℕ
taken m malformed_line n = None
taken m (relation_words w) n = Some (n + length (brief m w))
taken m (kind_words w) n = Some (n + length (brief m w))

abbrev pub words_after : ℕ → Line → List ℕ → ℕ → List ℕ
words_after m malformed_line ws n = ws
words_after m (relation_words w) ws n = sets ws n (brief m w)
words_after m (kind_words w) ws n = sets ws n (brief m w)

pub record Took (m : ℕ) (l : Line) (before : List ℕ) (at : ℕ) (after : List ℕ) (t : Option ℕ) : Type 0 where
  pub answer : t ≡ taken m l at
  pub words : after ≡ words_after m l before at

-- the first three words of a line stand from a place on, and the next place is after them
pub record Begun (before : List ℕ) (at first second count : ℕ) (after : List ℕ) (next : ℕ) : Type 0 where
  pub words : after ≡ sets before at (first ∷ second ∷ count ∷ [])
  pub place : next ≡ at + 3
