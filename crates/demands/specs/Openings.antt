-- Make a table and close it in a single call (02, request 4), sentence by sentence: of any calls, by what they may answer and leave, and of the definitions
-- that these cite. Assumes nothing.
use Rattle.std.specs.Prelude.{◌≡◌, true, false, ◌&&◌, ◌↔◌, List, ℕ, ◌*◌, nat_le, nat_eq, length}
use Rattle.rules.specs.Descriptions.{most_boards, Sheet, good, read}
use Rattle.rules.specs.Tables.{filled}
use Rattle.rules.specs.Calls.{Outcome, refuse, succeed, opening, close}
use Rattle.answers.specs.Answers.{Answer, answered}
use Rattle.demands.specs.Runs.{TableCall}
use Rattle.demands.specs.Sentences.{SearchCall, Cells, EachOpened}

-- the same answers, and on success the same tables
pub record SameOutcome (a : Answer) (w : List ℕ) (d : Answer) (x : List ℕ) : Type 0 where
  pub answer : a ≡ d
  pub table : a.number ≡ 0 → w ≡ x

-- Of calls that open, close and search:
pub record OpensFull (Opens Closes : TableCall) (Searches : SearchCall) : Type 0 where
  -- An opening call leaves the closing of the full table and counts strikes from the full one: it answers what closing the full table does.
  pub closes_the_full : EachOpened Opens (λ ws s t a w. (d : Answer) (x : List ℕ) → Closes ws (filled s.boards) d x → SameOutcome a w d x)
  -- It takes a table of any contents: the outcome does not depend on what the table held.
  pub any_contents : (ws t u : List ℕ) → length t ≡ length u → (a d : Answer) (w x : List ℕ) → Opens ws t a w → Opens ws u d x → SameOutcome a w d x
  -- Refusals: 1 to 5 and 11 as in every call (`malformed_description_refused`), then 6 for the number of cells only, then 7 (`closing_contradictory`).
  pub cells_refused_exactly : (ws : List ℕ) (s : Sheet) → read ws ≡ good s → (t : List ℕ) (a : Answer) (w : List ℕ) → Opens ws t a w
      → (a.number ≡ 6) ↔ (Cells s.boards t → ⊥)
  -- What was opened is closed: closing it under the same description strikes nothing.
  pub opened_is_closed : EachOpened Opens (λ ws s t a w. a.number ≡ 0 → (d : Answer) (x : List ℕ) → Closes ws w d x → (d ≡ answered 0 0) × (x ≡ w))
  -- A search in the opened table comes to what one in the full table does;
  pub opened_is_searched : EachOpened Opens (λ ws s t a w. a.number ≡ 0 → (b : ℕ) (d e : Answer) (x y : List ℕ) → Searches ws w b d x
      → Searches ws (filled s.boards) b e y → SameOutcome d x e y)
  -- where the opening is contradictory, a search in the full table says none and makes no try.
  pub contradictory_is_none : EachOpened Opens (λ ws s t a w. a.number ≡ 7 → (b : ℕ) (d : Answer) (x : List ℕ) → Searches ws (filled s.boards) b d x
      → d ≡ answered 8 0)

-- ---- the two calls that opening takes the place of

-- making the full table, as the definitions had it: 1 where V is out of range, then 6 for a wrong number of cells
unfoldable pub making : ℕ → List ℕ → Outcome (List ℕ)
making v t =
    elim (nat_le 1 v && nat_le v most_boards) [
      | true ↦ elim (nat_eq (length t) (v * v)) [ true ↦ succeed 0 (filled v) | false ↦ refuse 6 0 t ]
      | false ↦ refuse 1 0 t
    ]

-- the outcome o, but that a refusal leaves t
abbrev pub keeping : List ℕ → Outcome (List ℕ) → Outcome (List ℕ)
keeping t o = elim (nat_eq o.number 0) [ true ↦ o | false ↦ refuse o.number o.count t ]

-- making the full table in t, and then closing what that left unless it was refused; a refusal leaves t as it came
unfoldable pub making_then_closing : List ℕ → ℕ → List ℕ → Outcome (List ℕ)
making_then_closing ws v t =
    let made = making v t in elim (nat_eq made.number 0) [ true ↦ keeping t (close ws made.lent) | false ↦ made ]

-- Under a good description, opening is making the full table and then closing it.
abbrev pub OpeningAsBefore : Type 0
OpeningAsBefore = (ws : List ℕ) (s : Sheet) → read ws ≡ good s → (t : List ℕ) → opening ws t ≡ making_then_closing ws s.boards t
