-- The three demands, sentence by sentence, over any calls: what each may answer and leave is all that is known of it. Assumes nothing.
use Rattle.std.specs.Prelude.{◌≡◌, Bool, ◌⊎◌, ◌↔◌, List, ◌∷◌, ℕ, ◌+◌, ◌*◌, ◌≤◌, ◌<◌, T, length}
use Rattle.rules.specs.Descriptions.{Sheet, good, refused, read}
use Rattle.rules.specs.Tables.{Table, Inside, emptied, total, filled}
use Rattle.rules.specs.Arrangements.{Arrangement}
use Rattle.rules.specs.Closed.{Largest}
use Rattle.rules.specs.Closing.{closing}
use Rattle.rules.specs.Search.{End, tries, search, Least, Nowhere}
use Rattle.rules.specs.Stages.{Stages}
use Rattle.trees.specs.Trees.{DrawnFrom, NoTree}
use Rattle.clauses.specs.Clauses.{Solves, Unsolvable}
use Rattle.answers.specs.Answers.{Answer, answered}
use Rattle.demands.specs.Entries.{Refuses}
use Rattle.demands.specs.Published.{OfPublished}
use Rattle.demands.specs.Runs.{TableCall, Stage, sheets, contradictory, Called, Opened}

-- What a search that is lent the description ws and the table t may answer, a, and leave of the table, w, within a budget b; and a check, which only reads.
abbrev pub SearchCall : Type 1
SearchCall = (ws t : List ℕ) (b : ℕ) (a : Answer) (w : List ℕ) → Type 0

abbrev pub CheckCall : Type 1
CheckCall = (ws t : List ℕ) (a : Answer) → Type 0

-- ==== Demand 1

-- P holds of whatever the call answers and leaves, whatever it is lent.
abbrev pub EachCall : TableCall → ((ws t : List ℕ) (a : Answer) (w : List ℕ) → Type 0) → Type 0
EachCall Calls P = (ws t : List ℕ) (a : Answer) (w : List ℕ) → Calls ws t a w → P ws t a w

-- the table has as many cells as v boards need, whatever they hold
abbrev pub Cells : ℕ → List ℕ → Type 0
Cells v t = length t ≡ v * v

-- Of a call that is lent a description and a table, and asks this of the table:
pub record RefusesMalformed (Asks : ℕ → List ℕ → Type 0) (Calls : TableCall) : Type 0 where
  -- Malformed descriptions and tables are refused by number, a description with the place for a count, the caller having checked nothing;
  pub malformed_description_refused : EachCall Calls (λ ws t a w. (n k : ℕ) → read ws ≡ refused n k → Refuses n k t a w)
  pub malformed_table_refused : EachCall Calls (λ ws t a w. (s : Sheet) → read ws ≡ good s → (Asks s.boards t → ⊥) → Refuses 6 0 t a w)
  -- a refusal leaves the lent table as it came.
  pub refusal_leaves_table : EachCall Calls (λ ws t a w. (a.number ≡ 0 → ⊥) → w ≡ t)

-- Every entry point takes whatever it is lent, ends, and does nothing undefined: that is said of the code (`every_entry_point`). The rest of the demand,
-- of a reader, a call that opens a table, and a call that looks at what the lent table holds:
pub record Demand1 (Reads : List ℕ → Answer → Type 0) (Opens Calls : TableCall) : Type 0 where
  -- Opening asks for as many cells as the boards need; every other call for a well-formed table.
  pub opening_refuses : RefusesMalformed Cells Opens
  pub calls_refuse : RefusesMalformed Table Calls
  -- The reader, which is lent no table, refuses by the same numbers, and takes every other description.
  pub malformed_description_told : (ws : List ℕ) (a : Answer) → Reads ws a → (n k : ℕ) → read ws ≡ refused n k → a ≡ answered n k
  pub good_description_told : (ws : List ℕ) (a : Answer) → Reads ws a → (s : Sheet) → read ws ≡ good s → a ≡ answered 0 0

-- ==== Demand 2

-- the search that 01 states
abbrev pub stated : List ℕ → Sheet → List ℕ → End
stated ord s t = search (closing s) ord s.boards t

-- the words mean a description of which the table is an arrangement
abbrev pub Arranges : List ℕ → List ℕ → Type 0
Arranges ws t = (s : Sheet) × (read ws ≡ good s) × Arrangement s t

-- P holds of whatever the search answers and leaves, for a good description, a well-formed table and any budget;
abbrev pub EachSearch : SearchCall → ((s : Sheet) (t : List ℕ) (b : ℕ) (a : Answer) (w : List ℕ) → Type 0) → Type 0
EachSearch Searches P =
    (ws : List ℕ) (s : Sheet) → read ws ≡ good s → (t : List ℕ) → Table s.boards t → (b : ℕ) (a : Answer) (w : List ℕ) → Searches ws t b a w → P s t b a w

-- for a good description, the full table and any budget that does not run out.
abbrev pub EachFullSearch : SearchCall → ((ws : List ℕ) (s : Sheet) (a : Answer) (w : List ℕ) → Type 0) → Type 0
EachFullSearch Searches P =
    (ws : List ℕ) (s : Sheet) → read ws ≡ good s → (b : ℕ) (a : Answer) (w : List ℕ) → Searches ws (filled s.boards) b a w → (a.number ≡ 9 → ⊥)
    → P ws s a w

-- Of a search in this order of relations (the call's own is E, A, B, S), and of a check:
pub record Demand2 (ord : List ℕ) (Searches : SearchCall) (Checks : CheckCall) : Type 0 where
  -- The search agrees with the published tree constraints with set operators: it says none exactly when those that the words write have no
  -- solution, and the row sets of what it finds are one.
  pub agrees_with_constraints : EachFullSearch Searches
      (λ ws s a w. OfPublished ws s (λ φ. ((a.number ≡ 8) ↔ Unsolvable φ) × (a.number ≡ 0 → Solves φ w)))
  -- It finds a radial tree that fits, or says that none exists: it says none exactly when no radial tree fits the description, and what it finds is
  -- drawn from one.
  pub finds_radial_trees : EachFullSearch Searches (λ ws s a w. ((a.number ≡ 8) ↔ NoTree s) × (a.number ≡ 0 → DrawnFrom s w))
  -- What it finds is an arrangement, inside the lent table.
  pub found_is_arrangement : EachSearch Searches (λ s t b a w. a.number ≡ 0 → Arrangement s w × Inside w t)
  -- It says the budget ran out exactly when the stated search needs more tries than allowed;
  pub ran_out_exactly : EachSearch Searches (λ s t b a w. (a.number ≡ 9) ↔ (b < tries (stated ord s t)))
  -- otherwise it gives the first arrangement inside the lent table, in the stated order,
  pub found_is_first : EachSearch Searches (λ s t b a w. a.number ≡ 0 → Least s ord t w)
  pub first_is_found : EachSearch Searches (λ s t b a w. tries (stated ord s t) ≤ b → (x : List ℕ) → Arrangement s x → Inside x t → a.number ≡ 0)
  -- or "none" exactly when there is none.
  pub none_exactly : EachSearch Searches (λ s t b a w. tries (stated ord s t) ≤ b → (a.number ≡ 8) ↔ Nowhere s t)
  -- The answer carries the tries that the stated search makes, or the budget where that ran out.
  pub answer_carries_tries : EachSearch Searches (λ s t b a w. (a.number ≡ 9 → ⊥) → a.count ≡ tries (stated ord s t))
  pub answer_carries_budget : EachSearch Searches (λ s t b a w. a.number ≡ 9 → a.count ≡ b)
  -- Whatever is lent, any two outcomes are equal.
  pub search_one_outcome : (ws t : List ℕ) (b : ℕ) (a d : Answer) (u w : List ℕ) → Searches ws t b a u → Searches ws t b d w → (a ≡ d) × (u ≡ w)
  -- A larger budget changes no answer other than 9, whatever is lent.
  pub larger_budget_same : (ws t : List ℕ) (b c : ℕ) → b ≤ c → (a d : Answer) (u w : List ℕ) → Searches ws t b a u → Searches ws t c d w
      → (a.number ≡ 9 → ⊥) → (a ≡ d) × (u ≡ w)
  -- The check accepts exactly the arrangements, whatever is lent.
  pub check_accepts_exactly : (ws t : List ℕ) (a : Answer) → Checks ws t a → (a.number ≡ 0) ↔ Arranges ws t
  -- Of a good description and a well-formed table it says 10 exactly where the table is no arrangement.
  pub check_rejects_exactly : (ws : List ℕ) (s : Sheet) → read ws ≡ good s → (t : List ℕ) → Table s.boards t → (a : Answer) → Checks ws t a
      → (a.number ≡ 10) ↔ (Arrangement s t → ⊥)
  -- What the search finds, the check accepts.
  pub found_is_accepted : (ws t : List ℕ) (b : ℕ) (a : Answer) (w : List ℕ) → Searches ws t b a w → a.number ≡ 0 → (c : Answer) → Checks ws w c
      → c.number ≡ 0

-- ==== Demand 3

-- what is said of a description, the table that is closed under it, the answer, and what is left
abbrev pub ClosingSentence : Type 1
ClosingSentence = (s : Sheet) (t : List ℕ) (a : Answer) (w : List ℕ) → Type 0

-- P holds of whatever a closing answers and leaves, for a good description and a well-formed table.
abbrev pub EachClosing : TableCall → ClosingSentence → Type 0
EachClosing Closes P =
    (ws : List ℕ) (s : Sheet) → read ws ≡ good s → (t : List ℕ) → Table s.boards t → (a : Answer) (w : List ℕ) → Closes ws t a w → P s t a w

-- P holds of whatever an opening answers and leaves, for a good description and as many cells as its boards need, whatever they hold.
abbrev pub EachOpened : TableCall → ((ws : List ℕ) (s : Sheet) (t : List ℕ) (a : Answer) (w : List ℕ) → Type 0) → Type 0
EachOpened Opens P =
    (ws : List ℕ) (s : Sheet) → read ws ≡ good s → (t : List ℕ) → Cells s.boards t → (a : Answer) (w : List ℕ) → Opens ws t a w → P ws s t a w

-- P holds so of the full table: it is the one that is closed.
abbrev pub EachOpening : TableCall → ClosingSentence → Type 0
EachOpening Opens P = EachOpened Opens (λ ws s t a w. P s (filled s.boards) a w)

-- Of each closing of a table t under a description s:
pub record ClosesEach (Each : ClosingSentence → Type 0) : Type 0 where
  -- Closing a well-formed table under a well-formed description answers 0 or 7, and nothing else.
  pub closing_answers : Each (λ s t a w. (a.number ≡ 0) ⊎ (a.number ≡ 7))
  -- It gives the largest table inside it that obeys every rule,
  pub closing_largest_table : Each (λ s t a w. a.number ≡ 0 → Largest s t w)
  -- loses no arrangement
  pub closing_loses_none : Each (λ s t a w. (x : List ℕ) → Arrangement s x → Inside x t → (a.number ≡ 0) × Inside x w)
  -- and reports how many relations it struck, from 0 to 768;
  pub closing_counted : Each (λ s t a w. a.number ≡ 0 → a.count + total w ≡ total t)
  pub closing_count_most : Each (λ s t a w. a.number ≡ 0 → a.count ≤ 768)
  -- it is contradictory exactly when that largest table, of which there is one, has an empty cell.
  pub closing_contradictory : Each
      (λ s t a w. (u : List ℕ) × Largest s t u × ((x : List ℕ) → Largest s t x → x ≡ u) × ((a.number ≡ 7) ↔ T (emptied u)))

-- P holds of whatever one call under all the lines answers and leaves, and of any run of calls under some of them, in any order, the last under all: of
-- the table that is left of t, and of whether some call of the run was contradictory.
abbrev pub EachRun : TableCall → ((a : Answer) (u w : List ℕ) (c : Bool) → Type 0) → Type 0
EachRun Closes P =
    (one : Stage) (gs : List Stage) → Stages one.sheet (sheets gs) → (t : List ℕ) → Table one.sheet.boards t → (a : Answer) (u : List ℕ)
    → Closes one.words t a u → (w : List ℕ) (c : Bool) → Called Closes gs t w c → P a u w c

-- P holds of whatever one opening under all the lines answers and leaves, and of any run of calls whose first stage opens a table, the others closing it:
-- under some of the lines, in any order, the last under all, and whatever the two lent tables held.
abbrev pub EachOpenedRun : (Opens Closes : TableCall) → ((a : Answer) (u w : List ℕ) (c : Bool) → Type 0) → Type 0
EachOpenedRun Opens Closes P =
    (one g : Stage) (gs : List Stage) → Stages one.sheet (sheets (g ∷ gs)) → (l t : List ℕ) → Cells one.sheet.boards l → Cells one.sheet.boards t
    → (a : Answer) (u : List ℕ) → Opens one.words l a u → (w : List ℕ) (c : Bool) → Opened Opens Closes g gs t w c → P a u w c

-- Of an opening and a closing:
pub record Demand3 (Opens Closes : TableCall) : Type 0 where
  -- Closing any well-formed table under a well-formed description does as `ClosesEach` says;
  pub closing : ClosesEach (EachClosing Closes)
  -- opening closes the full table, whatever the lent one holds.
  pub opening : ClosesEach (EachOpening Opens)
  -- Closing in stages, in any order of lines, gives the same table as closing once, unless that is contradictory;
  pub stages_same_table : EachRun Closes (λ a u w c. a.number ≡ 0 → w ≡ u)
  -- some stage is contradictory exactly when the single closing is.
  pub stages_contradictory : EachRun Closes (λ a u w c. c ≡ contradictory a)
  -- The same holds with the opened table as the first stage, beside a single opening.
  pub opened_stages_same_table : EachOpenedRun Opens Closes (λ a u w c. a.number ≡ 0 → w ≡ u)
  pub opened_stages_contradictory : EachOpenedRun Opens Closes (λ a u w c. c ≡ contradictory a)
