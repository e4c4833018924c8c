-- Calls that only look like calls, each refuted from the sentences of the demand that 01 says it breaks, at a site of two boards: whatever else a call may
-- answer and leave, it does not meet the demand if it may answer so. Assumes nothing.
use mathlib.Core.Path.{◌≡◌, refl, sym, ap, ◌∙◌, subst}
use mathlib.Core.Bool.{true, false}
use mathlib.Core.Logic.{⊎_elim}
use mathlib.Core.List.Memᴰ
use mathlib.Core.List.{List, [], ◌∷◌, flat_map, flatten}
use Prim.Native.Nat.{ℕ, ◌+◌, ◌≤◌}
use native.Mathlib.Omega.{arith}
use lib.Dec.{T}
use lib.ListN.{get_or}
use Rattle.rules.specs.Relations.{relations, above, has, set_to, set_of, full, meet, join, complement, within, size, opposite, converse, singles, composed, compose}
use Rattle.rules.specs.Expressions.{codes, code, follow, evaluate, expression}
use Rattle.rules.specs.Descriptions.{Sheet, good, relation_line, kind_line, section, boards_before, after_numbers, after_offsets, relation_lines, kind_lines, meant, disagrees, first_disagreeing, kind_words, agreed, read, describe}
use Rattle.rules.specs.Tables.{Table, emptied, total, filled}
use Rattle.rules.specs.Closing.{reaches, agree, bound6, bound6', bound7, bound7', rules1, rules2, rules3, rules4, rules5, rules6, rules7, rules, strike, sweep, sweeps, closing}
use Rattle.rules.specs.Search.{plain_order, End, found, tries, attempt, choose, places, search}
use Rattle.rules.specs.Stages.{Among, Stages}
use Rattle.rules.specs.Calls.{well_formed, arranged}
use Rattle.rules.specs.Cases.{is, at_or_above, stale}
use Rattle.rules.proofs.Tests.{true_T}
use Rattle.rules.proofs.Descriptions.{read_well_formed}
use Rattle.rules.proofs.Largest.{closing_largest}
use Rattle.rules.proofs.Search.{plain_order_lem, least_unique, search_found}
use Rattle.rules.proofs.Calls.{well_formed_table, arrangement_arranged, arranged_arrangement}
use Rattle.rules.proofs.Full.{full_table}
use Rattle.answers.specs.Answers.{Answer}
use Rattle.demands.specs.Runs.{TableCall, Stage, Called}
use Rattle.demands.specs.Sentences.{SearchCall, CheckCall, Cells, Demand1, stated, Demand2, ClosingSentence, ClosesEach, Demand3}

-- ---- what the sentences say where a search or a closing succeeds

-- Where each closing of t under s is said to do as demand 3 asks, one whose largest table has no empty cell answers 0, leaves that table and counts what it struck.
closed_by : {Each : ClosingSentence → Type 0} → ClosesEach Each → (s : Sheet) (t : List ℕ) (a : Answer) (w : List ℕ)
    → ((P : ClosingSentence) → Each P → P s t a w) → Table s.boards t → emptied (closing s t) ≡ false
    → (a.number ≡ 0) × (w ≡ closing s t) × (a.count + total (closing s t) ≡ total t)
closed_by d s t a w one table whole =
    let l = one _ d.closing_contradictory in
    let same : closing s t ≡ l.0 = l.2 (closing s t) (closing_largest s t table) in
    ⊎_elim
    (λ z. let e : w ≡ closing s t = l.2 w (one _ d.closing_largest_table z) ∙ sym same in
    (z, e, subst (λ (u : List ℕ). a.count + total u ≡ total t) e (one _ d.closing_counted z)))
    (λ z. absurd (subst T (ap emptied (sym same) ∙ whole) (l.3.0 z)))
    (one _ d.closing_answers)

-- Under demand 2 a search that is stated to find a table within the budget answers 0, leaves that table and counts the tries.
found_by : {Searches : SearchCall} {Checks : CheckCall} → Demand2 plain_order Searches Checks → (ws : List ℕ) (s : Sheet) → read ws ≡ good s → (t : List ℕ)
    → Table s.boards t → (n : ℕ) (x : List ℕ) → stated plain_order s t ≡ found n x → (b : ℕ) → n ≤ b → (a : Answer) (w : List ℕ)
    → Searches ws t b a w → (a.number ≡ 0) × (w ≡ x) × (a.count ≡ n)
found_by d ws s means t table n x is b l a w call =
    let least = search_found (read_well_formed ws s means) (closing_largest s) plain_order_lem t table n x is in
    let few : tries (stated plain_order s t) ≤ b = subst (λ (e : End). tries e ≤ b) (sym is) l in
    let z = d.first_is_found ws s means t table b a w call few x least.arrangement least.inside in
    let within : a.number ≡ 9 → ⊥ = λ e. let y : ◌≡◌ {A = ℕ} 0 9 = sym z ∙ e in omega arith in (
      z,
      least_unique (d.found_is_first ws s means t table b a w call z) least,
      d.answer_carries_tries ws s means t table b a w call within ∙ ap tries is,
    )

-- ---- the sites

-- 0 is at or above 1; and then also 1 is at or above 0
abbrev first : List ℕ
first = describe 2 (at_or_above 0 1 ∷ []) []

abbrev second : List ℕ
second = describe 2 (at_or_above 0 1 ∷ at_or_above 1 0 ∷ []) []

-- 0 is above 1
abbrev strict : List ℕ
strict = describe 2 (is 0 above 1 ∷ []) []

-- each is above the other, which cannot be
abbrev contrary : List ℕ
contrary = describe 2 (is 0 above 1 ∷ is 1 above 0 ∷ []) []

-- the table after the first stage
abbrev between : List ℕ
between = 1 ∷ 3 ∷ 5 ∷ 1 ∷ []

-- the arrangements 0 = 1 and 0 above 1; and each above the other, which is none
abbrev one_board : List ℕ
one_board = 1 ∷ 1 ∷ 1 ∷ 1 ∷ []

abbrev zero_above : List ℕ
zero_above = 1 ∷ 2 ∷ 4 ∷ 1 ∷ []

abbrev both_above : List ℕ
both_above = 1 ∷ 2 ∷ 2 ∷ 1 ∷ []

-- what the four descriptions mean
abbrev first_sheet : Sheet
first_sheet = record { boards = 2; lines = record { p = 0; q = 1; allowed = 3 } ∷ []; kinds = [] }

abbrev second_sheet : Sheet
second_sheet = record { boards = 2; lines = record { p = 0; q = 1; allowed = 3 } ∷ record { p = 1; q = 0; allowed = 3 } ∷ []; kinds = [] }

abbrev strict_sheet : Sheet
strict_sheet = record { boards = 2; lines = record { p = 0; q = 1; allowed = 2 } ∷ []; kinds = [] }

abbrev contrary_sheet : Sheet
contrary_sheet = record { boards = 2; lines = record { p = 0; q = 1; allowed = 2 } ∷ record { p = 1; q = 0; allowed = 2 } ∷ []; kinds = [] }

-- what the definitions come to there
record Computed : Type 0 where
  first_means : read first ≡ good first_sheet
  second_means : read second ≡ good second_sheet
  strict_means : read strict ≡ good strict_sheet
  contrary_means : read contrary ≡ good contrary_sheet
  -- the largest closed tables, and the relations in them
  first_closing : closing first_sheet (filled 2) ≡ between
  second_closing : closing second_sheet between ≡ one_board
  single_closing : closing second_sheet (filled 2) ≡ one_board
  contrary_closing : emptied (closing contrary_sheet (filled 2)) ≡ true
  between_whole : emptied between ≡ false
  one_board_whole : emptied one_board ≡ false
  between_table : well_formed 2 between ≡ true
  between_total : total between ≡ 6
  full_total : total (filled 2) ≡ 16
  -- the first arrangement is one board, after a try; where 0 is above 1 no try is made
  first_search : stated plain_order first_sheet (filled 2) ≡ found 1 one_board
  strict_search : stated plain_order strict_sheet (filled 2) ≡ found 0 zero_above
  -- which of the tables are arrangements
  one_board_table : well_formed 2 one_board ≡ true
  both_above_table : well_formed 2 both_above ≡ true
  one_board_arranged : arranged first_sheet one_board ≡ true
  both_above_not : arranged first_sheet both_above ≡ false

computed : Computed
unfolding relations has set_to set_of full meet join complement within size opposite converse singles composed compose codes code
    follow evaluate expression relation_line kind_line section boards_before after_numbers after_offsets relation_lines kind_lines meant disagrees first_disagreeing kind_words agreed read emptied
    total reaches agree bound6 bound6' bound7 bound7' rules1 rules2 rules3 rules4 rules5 rules6 rules7 rules strike sweep
    sweeps closing attempt choose places search well_formed arranged flat_map flatten
computed =
    record {
      first_means = refl;
      second_means = refl;
      strict_means = refl;
      contrary_means = refl;
      first_closing = refl;
      second_closing = refl;
      single_closing = refl;
      contrary_closing = refl;
      between_whole = refl;
      one_board_whole = refl;
      between_table = refl;
      between_total = refl;
      full_total = refl;
      first_search = refl;
      strict_search = refl;
      one_board_table = refl;
      both_above_table = refl;
      one_board_arranged = refl;
      both_above_not = refl;
    }

-- the first two descriptions as stages: the lines of the first are among those of the second
part : Stage
part = record { words = first; sheet = first_sheet; means = computed.first_means }

whole : Stage
whole = record { words = second; sheet = second_sheet; means = computed.second_means }

all : Among second_sheet second_sheet
all = record { boards = refl; lines = λ l m. m; kinds = λ k m. m }

among : Among first_sheet second_sheet
among = record { boards = refl; lines = λ l m. ⊎_elim (λ e. Memᴰ.head e) (λ n. absurd (Memᴰ.not-nil n)) (Memᴰ.cases_cons m); kinds = λ k m. m }

-- what equal tables have in the cell (0, 1)
cell01 : {u w : List ℕ} → u ≡ w → get_or u 1 0 ≡ get_or w 1 0
cell01 e = ap (λ (w : List ℕ). get_or w 1 0) e

-- what each closing of the full table comes to under the first description, and under the second, where it does as demand 3 asks
module _ {Each : ClosingSentence → Type 0} (sentences : ClosesEach Each) (a : Answer) (w : List ℕ) where
  first_left : ((P : ClosingSentence) → Each P → P first_sheet (filled 2) a w) → (a.number ≡ 0) × (w ≡ between) × (a.count ≡ 10)
  first_left one =
      let is = computed.first_closing in
      let c = closed_by sentences first_sheet (filled 2) a w one (full_table 2) (ap emptied is ∙ computed.between_whole) in
      let counted : a.count + 6 ≡ 16 = ap (λ (n : ℕ). a.count + n) (sym (ap total is ∙ computed.between_total)) ∙ c.2 ∙ computed.full_total in
      (c.0, c.1 ∙ is, omega arith)

  second_left : ((P : ClosingSentence) → Each P → P second_sheet (filled 2) a w) → (a.number ≡ 0) × (w ≡ one_board)
  second_left one =
      let is = computed.single_closing in
      let c = closed_by sentences second_sheet (filled 2) a w one (full_table 2) (ap emptied is ∙ computed.one_board_whole) in (c.0, c.1 ∙ is)

-- ---- demand 3

module _ {Opens Closes : TableCall} (demand : Demand3 Opens Closes) where
  -- the closing at the first stage, at the second, and at once
  first_closed : (a : Answer) (w : List ℕ) → Closes first (filled 2) a w → (a.number ≡ 0) × (w ≡ between) × (a.count ≡ 10)
  first_closed a w call = first_left demand.closing a w (λ P each. each first first_sheet computed.first_means (filled 2) (full_table 2) a w call)

  second_closed : (a : Answer) (w : List ℕ) → Closes second between a w → w ≡ one_board
  second_closed a w call =
      let is = computed.second_closing in
      let table = well_formed_table 2 between (true_T computed.between_table) in
      (closed_by demand.closing second_sheet between a w (λ P each. each second second_sheet computed.second_means between table a w call) table
      (ap emptied is ∙ computed.one_board_whole)).1
      ∙ is

  single_closed : (a : Answer) (w : List ℕ) → Closes second (filled 2) a w → (a.number ≡ 0) × (w ≡ one_board)
  single_closed a w call = second_left demand.closing a w (λ P each. each second second_sheet computed.second_means (filled 2) (full_table 2) a w call)

  -- a closing that always says contradictory
  pub always_contradictory_excluded : (a : Answer) (w : List ℕ) → a.number ≡ 7 → Closes first (filled 2) a w → ⊥
  always_contradictory_excluded a w e call = let n : a.number ≡ 0 = (first_closed a w call).0 in omega arith

  -- a closing that does nothing, whatever it answers
  pub does_nothing_excluded : (a : Answer) → Closes first (filled 2) a (filled 2) → ⊥
  unfolding relations set_to set_of full
  does_nothing_excluded a call = let x : ◌≡◌ {A = ℕ} 15 3 = cell01 (first_closed a (filled 2) call).1 in omega arith

  -- a closing that only pretends at the second stage, whatever it answers
  pub pretends_later_excluded : (a : Answer) → Closes second between a between → ⊥
  pretends_later_excluded a call = let x : ◌≡◌ {A = ℕ} 3 1 = cell01 (second_closed a between call) in omega arith

  -- the same by the sentence of stages: a run that closes at the first stage and only pretends at the second, beside the single closing
  pub pretends_in_stages_excluded : (a b c : Answer) (u : List ℕ) → Closes first (filled 2) a between → Closes second between b between
      → Closes second (filled 2) c u → ⊥
  unfolding Called Stages part whole
  pretends_in_stages_excluded a b c u earlier later single =
      let one = single_closed c u single in
      let w =
      demand.stages_same_table whole (part ∷ whole ∷ []) (among, (all, all)) (filled 2) (full_table 2) c u single between _
      (a, between, _, earlier, (b, between, false, later, (refl, refl), refl), refl) one.0 in
      let x : ◌≡◌ {A = ℕ} 3 1 = cell01 (w ∙ one.1) in omega arith

  -- invented strikes
  pub invented_strikes_excluded : (a : Answer) (w : List ℕ) → (a.count ≡ 10 → ⊥) → Closes first (filled 2) a w → ⊥
  invented_strikes_excluded a w f call = f (first_closed a w call).2

-- ---- opening, by demands 1 and 3

module _ {Reads : List ℕ → Answer → Type 0} {Opens Closes Calls : TableCall} (demand_1 : Demand1 Reads Opens Calls) (demand_3 : Demand3 Opens Closes) where
  -- the opening under the first description and under the second, whatever the four cells hold
  first_opened : (t : List ℕ) → Cells 2 t → (a : Answer) (w : List ℕ) → Opens first t a w → (a.number ≡ 0) × (w ≡ between) × (a.count ≡ 10)
  first_opened t cells a w call = first_left demand_3.opening a w (λ P each. each first first_sheet computed.first_means t cells a w call)

  second_opened : (t : List ℕ) → Cells 2 t → (a : Answer) (w : List ℕ) → Opens second t a w → (a.number ≡ 0) × (w ≡ one_board)
  second_opened t cells a w call = second_left demand_3.opening a w (λ P each. each second second_sheet computed.second_means t cells a w call)

  -- an opening that gives 6 for old contents: here no cell is a set
  pub six_for_old_contents_excluded : (a : Answer) (w : List ℕ) → a.number ≡ 6 → Opens first (stale 2) a w → ⊥
  six_for_old_contents_excluded a w e call = let n : a.number ≡ 0 = (first_opened (stale 2) refl a w call).0 in omega arith

  -- one that closes the old contents, here one board, whatever it answers
  pub old_contents_closed_excluded : (a : Answer) → Opens first one_board a one_board → ⊥
  old_contents_closed_excluded a call = let x : ◌≡◌ {A = ℕ} 1 3 = cell01 (first_opened one_board refl a one_board call).1 in omega arith

  -- one that counts strikes from the old contents: here these are what it leaves
  pub strikes_from_old_contents_excluded : (a : Answer) (w : List ℕ) → a.count ≡ 0 → Opens first between a w → ⊥
  strikes_from_old_contents_excluded a w e call = let n : a.count ≡ 10 = (first_opened between refl a w call).2 in omega arith

  -- one that leaves the full table on 7, whatever it answers
  pub filled_on_seven_excluded : (a : Answer) → Opens contrary one_board a (filled 2) → ⊥
  unfolding relations set_to set_of full
  filled_on_seven_excluded a call =
      let l = demand_3.opening.closing_contradictory contrary contrary_sheet computed.contrary_means one_board refl a (filled 2) call in
      let same : closing contrary_sheet (filled 2) ≡ l.0 = l.2 (closing contrary_sheet (filled 2)) (closing_largest contrary_sheet (filled 2) (full_table 2)) in
      let seven : a.number ≡ 7 = l.3.1 (true_T (ap emptied (sym same) ∙ computed.contrary_closing)) in
      let x : ◌≡◌ {A = ℕ} 15 1 = cell01 (demand_1.opening_refuses.refusal_leaves_table contrary one_board a (filled 2) call (λ z. omega (arith, z))) in
      omega arith

  -- one that gives 7 before 6: here there are no cells
  pub seven_before_six_excluded : (a : Answer) (w : List ℕ) → a.number ≡ 7 → Opens contrary [] a w → ⊥
  seven_before_six_excluded a w e call =
      let n : a.number ≡ 6 =
      (demand_1.opening_refuses.malformed_table_refused contrary [] a w call contrary_sheet computed.contrary_means (λ c. omega (arith, c))).number in
      omega arith

  -- a closing that only pretends after the table was opened, by the sentence of stages
  pub pretends_after_opening_excluded : (a b c : Answer) (u : List ℕ) → Opens first (stale 2) a between → Closes second between b between
      → Opens second (stale 2) c u → ⊥
  unfolding Called Stages part whole
  pretends_after_opening_excluded a b c u earlier later single =
      let one = second_opened (stale 2) refl c u single in
      let w =
      demand_3.opened_stages_same_table whole part (whole ∷ []) (among, (all, all)) (stale 2) (stale 2) refl refl c u single between _
      (a, between, _, earlier, (b, between, false, later, (refl, refl), refl), refl) one.0 in
      let x : ◌≡◌ {A = ℕ} 3 1 = cell01 (w ∙ one.1) in omega arith

-- ---- demand 2

module _ {Searches : SearchCall} {Checks : CheckCall} (demand : Demand2 plain_order Searches Checks) where
  first_found : (a : Answer) (w : List ℕ) → Searches first (filled 2) 1 a w → (a.number ≡ 0) × (w ≡ one_board) × (a.count ≡ 1)
  first_found = found_by demand first first_sheet computed.first_means (filled 2) (full_table 2) 1 one_board computed.first_search 1 (omega arith)

  strict_found : (a : Answer) (w : List ℕ) → Searches strict (filled 2) 1 a w → (a.number ≡ 0) × (w ≡ zero_above) × (a.count ≡ 0)
  strict_found = found_by demand strict strict_sheet computed.strict_means (filled 2) (full_table 2) 0 zero_above computed.strict_search 1 (omega arith)

  -- a search that refuses everything, by whatever number
  pub refuses_everything_excluded : (a : Answer) (w : List ℕ) → (a.number ≡ 0 → ⊥) → Searches first (filled 2) 1 a w → ⊥
  refuses_everything_excluded a w f call = f (first_found a w call).0

  -- a search that says none without looking
  pub none_without_looking_excluded : (a : Answer) (w : List ℕ) → a.number ≡ 8 → Searches first (filled 2) 1 a w → ⊥
  none_without_looking_excluded a w e call = let n : a.number ≡ 0 = (first_found a w call).0 in omega arith

  -- a search that always says 'all one board', whatever it counts: here 0 is above 1
  pub all_one_board_excluded : (a : Answer) (w : List ℕ) → w ≡ one_board → Searches strict (filled 2) 1 a w → ⊥
  all_one_board_excluded a w e call = let x : ◌≡◌ {A = ℕ} 1 2 = cell01 (sym e ∙ (strict_found a w call).1) in omega arith

  -- a search that reads "at or above" as "above", whatever it counts: one board comes first
  pub at_or_above_as_above_excluded : (a : Answer) (w : List ℕ) → w ≡ zero_above → Searches first (filled 2) 1 a w → ⊥
  at_or_above_as_above_excluded a w e call = let x : ◌≡◌ {A = ℕ} 2 1 = cell01 (sym e ∙ (first_found a w call).1) in omega arith

  -- invented tries
  pub invented_tries_excluded : (a : Answer) (w : List ℕ) → (a.count ≡ 1 → ⊥) → Searches first (filled 2) 1 a w → ⊥
  invented_tries_excluded a w f call = f (first_found a w call).2

  -- tries beyond the budget: anything but 9 where none is allowed
  pub tries_beyond_budget_excluded : (a : Answer) (w : List ℕ) → (a.number ≡ 9 → ⊥) → Searches first (filled 2) 0 a w → ⊥
  tries_beyond_budget_excluded a w f call =
      let needed : tries (stated plain_order first_sheet (filled 2)) ≡ 1 = ap tries computed.first_search in
      f ((demand.ran_out_exactly first first_sheet computed.first_means (filled 2) (full_table 2) 0 a w call).1 (omega arith))

  -- a budget said to be spent when it is not
  pub early_end_excluded : (a : Answer) (w : List ℕ) → a.number ≡ 9 → Searches first (filled 2) 1 a w → ⊥
  early_end_excluded a w e call = let n : a.number ≡ 0 = (first_found a w call).0 in omega arith

  -- a check that accepts everything: here each board would be above the other
  pub accepts_everything_excluded : (a : Answer) → a.number ≡ 0 → Checks first both_above a → ⊥
  accepts_everything_excluded a e call =
      let f = read_well_formed first first_sheet computed.first_means in
      let n : a.number ≡ 10 =
      (demand.check_rejects_exactly first first_sheet computed.first_means both_above (well_formed_table 2 both_above (true_T computed.both_above_table)) a call).1
      (λ r. subst T computed.both_above_not (arrangement_arranged f r)) in
      omega arith

  one_board_accepted : (a : Answer) → Checks first one_board a → a.number ≡ 0
  one_board_accepted a call =
      let f = read_well_formed first first_sheet computed.first_means in
      (demand.check_accepts_exactly first one_board a call).1
      (first_sheet, computed.first_means, arranged_arrangement f (well_formed_table 2 one_board (true_T computed.one_board_table)) (true_T computed.one_board_arranged))

  -- a check that accepts nothing
  pub accepts_nothing_excluded : (a : Answer) → a.number ≡ 10 → Checks first one_board a → ⊥
  accepts_nothing_excluded a e call = let n : a.number ≡ 0 = one_board_accepted a call in omega arith

  -- a check with one constant answer, whatever it is
  pub constant_answer_excluded : (a : Answer) → Checks first both_above a → Checks first one_board a → ⊥
  constant_answer_excluded a rejected accepted = accepts_everything_excluded a (one_board_accepted a accepted) rejected
