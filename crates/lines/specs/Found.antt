-- What testing a relation line tells, and what reading a good one finds, by the definitions of a description. Assumes nothing.
use Rattle.std.specs.Prelude.{◌≡◌, List, ℕ, ◌+◌, ◌-◌, ◌≤◌, ◌<◌, length, slice_index, Result, Ok, Err}
use Rattle.rules.specs.Descriptions as descriptions
use Rattle.rules.specs.Descriptions.{Reading, good, refused, Front, most_expression_words, relation_line}
use Rattle.answers.specs.declared.refusals.Refusal.{Refusal}
use Rattle.answers.specs.Answers.{refusal}
use Rattle.lines.specs.declared.RelationLine.{RelationLine}

-- the number of words after a relation line, without the line
abbrev pub relation_told : Reading (Front descriptions.RelationLine) → Result ℕ Refusal
relation_told (good f) = Ok (length f.rest)
relation_told (refused n k) = Err (refusal n k)

-- the tests before the expression are passed, and the line has its end there
pub record Passes (v : ℕ) (ws : List ℕ) (end : ℕ) : Type 0 where
  pub three : 3 ≤ length ws
  pub low : 1 ≤ slice_index ws 2
  pub high : slice_index ws 2 ≤ most_expression_words
  pub room : slice_index ws 2 ≤ length ws - 3
  pub p_board : slice_index ws 0 < v
  pub q_board : slice_index ws 1 < v
  pub ends : end ≡ 3 + slice_index ws 2

-- what those tests tell of the line at the front of the words
abbrev pub FrontTells : ℕ → List ℕ → Result ℕ Refusal → Type 0
FrontTells v ws (Ok end) = Passes v ws end
FrontTells v ws (Err q) = Err q ≡ relation_told (relation_line v ws)

-- the line at the front of the words is good, for boards below some number
abbrev pub GoodLine : List ℕ → Type 0
GoodLine ws = (v : ℕ) × (f : Front descriptions.RelationLine) × (relation_line v ws ≡ good f)

-- a relation line, and the number of words after it
abbrev pub relation_found : Front descriptions.RelationLine → RelationLine
relation_found f = record { p = f.line.p; q = f.line.q; allowed = f.line.allowed; rest = length f.rest }

-- l is the line at the front of the words, whichever boards there are
abbrev pub Finds : List ℕ → RelationLine → Type 0
Finds ws l = (v : ℕ) (f : Front descriptions.RelationLine) → relation_line v ws ≡ good f → l ≡ relation_found f
