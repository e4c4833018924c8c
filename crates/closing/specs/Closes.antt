-- What closing a working copy of a table comes to. Assumes nothing.
use Rattle.std.specs.Prelude.{◌≡◌, List, ◌++◌, ℕ, ◌+◌, ◌*◌, ◌-◌, T, length, take, drop, Result, Ok, Err}
use Rattle.rules.specs.Descriptions.{Sheet, good, read}
use Rattle.rules.specs.Tables.{Inside, emptied, total}
use Rattle.rules.specs.Closed.{Largest}
use Rattle.rules.specs.Closing.{Rule, rules1, rules4, rules5, closing}
use Rattle.rules.specs.Calls.{close_into}
use Rattle.answers.specs.Answers.{Answer, outcome}
use Rattle.passes.specs.Passes.{Filled, Idles, Ready, Once}
use Rattle.headers.specs.declared.Header.{Header}
use Rattle.sheet.specs.Found.{description_found}
use Rattle.by_board.specs.Found.{Indexed}
use Rattle.moves.specs.declared.Emptied.{Emptied}
use Rattle.moves.specs.Moves.{Marks, Mutual, Owed}
use Rattle.rounds.specs.Rounds.{Cleared}

-- rules 1, 4 and 5, whose bounds do not depend on the table
abbrev pub rules_once : Sheet → List Rule
rules_once s = rules1 s.boards ++ (rules4 s.lines ++ rules5 s.kinds)

-- rules 1, 4 and 5 of the description that the words mean took the table t to w, and struck n relations
abbrev pub OnceUnder : List ℕ → List ℕ → List ℕ → ℕ → Type 0
OnceUnder ws t w n = (s : Sheet) → read ws ≡ good s → Once s.boards (rules_once s) t 0 w n

-- w is the largest closed table inside t, without an empty cell, and has n relations less
pub record Closes (s : Sheet) (t w : List ℕ) (n : ℕ) : Type 0 where
  pub largest : Largest s t w
  pub filled : Filled w
  pub counted : n + total w ≡ total t

-- what a closing of t comes to: the largest closed table w, or that the largest one has an empty cell
abbrev pub closes : Sheet → List ℕ → List ℕ → Result ℕ Emptied → Type 0
closes s t w (Ok n) = Closes s t w n
closes s t w (Err _) = T (emptied (closing s t))

-- what a closing comes to under the description that the words mean
abbrev pub ClosesUnder : List ℕ → List ℕ → List ℕ → Result ℕ Emptied → Type 0
ClosesUnder ws t w r = (s : Sheet) → read ws ≡ good s → closes s t w r

-- the table t, closed into the lent one l under the description that the words mean, may be answered with a and leave w
abbrev pub ClosedInto : List ℕ → List ℕ → List ℕ → List ℕ → Answer → Type 0
ClosedInto ws t l w a = (s : Sheet) → read ws ≡ good s → outcome a w ≡ close_into l s t

-- the header is that of a good description, and the table has as many cells as its boards need, whatever they hold
pub record Measured (h : Header) (ws t : List ℕ) : Type 0 where
  pub header : Ok h ≡ description_found ws
  pub cells : length t ≡ h.boards * h.boards

-- the header is that of a good description, and the table is well-formed for its boards
pub record Admitted (h : Header) (ws t : List ℕ) : Type 0 where
  pub header : Ok h ≡ description_found ws
  pub ready : Ready h.boards t

-- in every table inside t rules 1, 4 and 5 strike nothing, under the description that the words mean
abbrev pub Steady : List ℕ → List ℕ → Type 0
Steady ws t = (s : Sheet) → read ws ≡ good s → (x : List ℕ) → Inside x t → Idles s.boards (rules_once s) x

-- ---- closing again by the list of pairs

-- P holds of the description that the words mean
abbrev pub Under : List ℕ → (Sheet → Type 0) → Type 0
Under ws P = (s : Sheet) → read ws ≡ good s → P s

-- the words of the kind lines
abbrev pub kind_words : Header → List ℕ → List ℕ
kind_words h ws = take (length ws - h.kinds.at) (drop h.kinds.at ws)

-- A table inside a closed one, where a rule that strikes something reads a pair on the list.
pub record Listing (s : Sheet) (m t : List ℕ) : Type 0 where
  pub fit : Mutual s.boards t
  pub list : Marks s.boards m
  pub owed : Owed s.boards s.kinds m t
  pub steady : (x : List ℕ) → Inside x t → Idles s.boards (rules_once s) x

-- the header is that of a good description, and the words xs tell its kind lines by board
pub record Told (h : Header) (ws xs : List ℕ) : Type 0 where
  pub header : Ok h ≡ description_found ws
  pub index : Indexed h.kinds.count (kind_words h ws) xs

-- w is the largest closed table inside t, without an empty cell, and nothing is on the list
pub record ClosesListed (s : Sheet) (t w n : List ℕ) : Type 0 where
  pub largest : Largest s t w
  pub fit : Mutual s.boards w
  pub list : Marks s.boards n
  pub cleared : Cleared s.boards n

-- what a closing by the list comes to: that, or that the largest closed table has an empty cell
abbrev pub closes_listed : Sheet → List ℕ → List ℕ → List ℕ → Result (Unit {0}) Emptied → Type 0
closes_listed s t w n (Ok _) = ClosesListed s t w n
closes_listed s t w n (Err _) = T (emptied (closing s t))
