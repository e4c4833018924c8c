-- The calls and the definitions that they cite meet what request 4 asks of them (`Openings`). Assumes nothing.
use mathlib.Core.Path.{◌≡◌, refl, sym, ap, ◌∙◌, subst}
use mathlib.Core.Bool.{Bool, true, false, ◌&&◌}
use mathlib.Core.Logic.{⊎_elim, ◌↔◌}
use mathlib.Core.List.{List}
use Prim.Native.Nat.{ℕ, ◌*◌, ◌-◌, ◌≤◌}
use native.Mathlib.Omega.{arith}
use lib.Dec.{T, leb, eqb, T_not, le→leb}
use lib.ListN.{length}
use Rattle.rules.specs.Descriptions.{most_boards, Sheet, Reading, good, refused, read}
use Rattle.rules.specs.Tables.{Table, emptied, total, filled}
use Rattle.rules.specs.Closed.{strikes}
use Rattle.rules.specs.Closing.{closing}
use Rattle.rules.specs.Search.{End, found, none, Capped, ended, ran_out, proceed, choose, places, search, cap}
use Rattle.rules.specs.Calls.{Outcome, refuse, succeed, has_cells, close_into, opening, close, answer}
use Rattle.rules.proofs.Tests.{clash, true_T, T_true, and_T, T-decide}
use Rattle.rules.proofs.Descriptions.{read_bounded, read_well_formed}
use Rattle.rules.proofs.Full.{full_table}
use Rattle.rules.proofs.Largest.{closing_largest, closing_again}
use Rattle.rules.proofs.Search.{cap_in}
use Rattle.rules.proofs.Calls.{has_cells_cells, admitted_refused, admitted_no_table}
use Rattle.rules.proofs.Called.{by_cells, opening_refused, opening_good, close_good, search_good}
use Rattle.answers.specs.Answers.{Answer, answered, outcome}
use Rattle.answers.proofs.Outcomes.{says, outcome_determined}
use Rattle.demands.specs.Entries.{Opening, Closing, Searching}
use Rattle.demands.specs.Sentences.{Cells}
use Rattle.demands.specs.Openings.{SameOutcome, OpensFull, making, keeping, making_then_closing, OpeningAsBefore}
use Rattle.demands.proofs.Refusing.{opening_gives, gives_table}
use Rattle.demands.proofs.Ending.{closing_ends, opening_ends, ends_done, ends_answers, ends_contradictory}

-- ---- a search, by what its first closing leaves

module _ (clo : List ℕ → List ℕ) (ord : List ℕ) (v : ℕ) where
  search_from : {t u : List ℕ} → clo t ≡ clo u → search clo ord v t ≡ search clo ord v u
  unfolding search
  search_from e = ap (proceed (λ u. choose clo ord (places v) u)) e

  search_clash : (t : List ℕ) → emptied (clo t) ≡ true → search clo ord v t ≡ none 0
  unfolding search
  search_clash t e = by_cell e
    where
      by_cell : {b : Bool} → b ≡ true → elim b [ true ↦ none 0 | false ↦ choose clo ord (places v) (clo t) ] ≡ none 0
      by_cell e = ap (λ (b : Bool). elim b [ true ↦ none 0 | false ↦ choose clo ord (places v) (clo t) ]) e

-- ---- outcomes that differ only in what a refusal leaves

module _ {a d : Answer} {w x : List ℕ} where
  -- one refusal, of which each leaves the table as it came
  same_refused : (n k : ℕ) {t u : List ℕ} → 1 ≤ n → outcome a w ≡ refuse n k t → outcome d x ≡ refuse n k u → SameOutcome a w d x
  same_refused n k {t} {u} some p q =
      record {
        answer = (outcome_determined a (answered n k) w t p).0 ∙ sym (outcome_determined d (answered n k) x u q).0;
        table = λ z. let e : a.number ≡ n = says p in clash (omega (arith, z));
      }

  same_succeeded : (n : ℕ) {u : List ℕ} → outcome a w ≡ succeed n u → outcome d x ≡ succeed n u → SameOutcome a w d x
  same_succeeded n p q = let e = outcome_determined a d w x (p ∙ sym q) in record { answer = e.0; table = λ z. e.1 }

  -- one table closed into two
  same_into : (l m : List ℕ) (s : Sheet) (t : List ℕ) → outcome a w ≡ close_into l s t → outcome d x ≡ close_into m s t → SameOutcome a w d x
  same_into l m s t = go (emptied (closing s t))
    where
      go : (b : Bool) → outcome a w ≡ by_cells l s t b → outcome d x ≡ by_cells m s t b → SameOutcome a w d x
      go true p q = same_refused 7 0 (omega arith) p q
      go false p q = same_succeeded (strikes t (closing s t)) p q

  -- one end of a search, told of two tables
  same_answer : (l m : List ℕ) (c : Capped) → outcome a w ≡ answer l c → outcome d x ≡ answer m c → SameOutcome a w d x
  same_answer l m (ended (found n z)) p q = same_succeeded n p q
  same_answer l m (ended (none n)) p q = same_refused 8 n (omega arith) p q
  same_answer l m (ran_out b) p q = same_refused 9 b (omega arith) p q

-- ---- contents

module _ (ws t u : List ℕ) (cells : length t ≡ length u) (a d : Answer) (w x : List ℕ) (one : Opening ws t a w) (other : Opening ws u d x) where
  any_contents : SameOutcome a w d x
  any_contents = by (read ws) refl
    where
      by : (r : Reading Sheet) → read ws ≡ r → SameOutcome a w d x
      by (good s) e =
          ⊎_elim
          (λ h. let l = has_cells_cells s.boards t h in
          same_into t u s (filled s.boards) (one ∙ opening_good t ws s e l) (other ∙ opening_good u ws s e (sym cells ∙ l)))
          (λ h. let n = T_not (has_cells s.boards t) h in
          same_refused 6 0 (omega arith) (one ∙ opening_refused t ws (admitted_no_table has_cells ws t s e n))
          (other ∙ opening_refused u ws (admitted_no_table has_cells ws u s e (subst (λ (m : ℕ). T (eqb m (s.boards * s.boards)) → ⊥) cells n))))
          (T-decide (has_cells s.boards t))
      by (refused n k) e =
          same_refused n k (read_bounded ws n k e).0 (one ∙ opening_refused t ws (admitted_refused has_cells ws t n k e))
          (other ∙ opening_refused u ws (admitted_refused has_cells ws u n k e))

-- ---- under a good description

module _ (ws : List ℕ) (s : Sheet) (means : read ws ≡ good s) (t : List ℕ) where
  cells_refused : (a : Answer) (w : List ℕ) → Opening ws t a w → (a.number ≡ 6) ↔ (Cells s.boards t → ⊥)
  cells_refused a w call = (
    λ z cells. ⊎_elim (λ e. omega (arith, z, e)) (λ e. omega (arith, z, e)) (ends_answers (opening_ends ws s means t cells a w call)),
    λ f. (gives_table ws t a w (opening_gives ws t a w call) s means (λ h. f (has_cells_cells s.boards t h))).number,
  )

  module _ (cells : Cells s.boards t) (a : Answer) (w : List ℕ) (call : Opening ws t a w) where
    full : Table s.boards (filled s.boards)
    full = full_table s.boards

    module _ (opened : a.number ≡ 0) where
      -- what was opened is the largest closed table inside the full one, and has no empty cell
      is_closing : w ≡ closing s (filled s.boards)
      is_closing = (ends_done (opening_ends ws s means t cells a w call) opened).1

      whole : emptied w ≡ false
      whole = ap emptied is_closing ∙ (ends_done (opening_ends ws s means t cells a w call) opened).0

      opened_table : Table s.boards w
      opened_table = subst (Table s.boards) (sym is_closing) (closing_largest s (filled s.boards) full).table

      opened_again : closing s w ≡ w
      opened_again = ap (closing s) is_closing ∙ closing_again s (filled s.boards) full ∙ sym is_closing

      is_closed : (d : Answer) (x : List ℕ) → Closing ws w d x → (d ≡ answered 0 0) × (x ≡ w)
      is_closed d x closed =
          let e = closing_ends ws s means w opened_table d x closed in
          ⊎_elim
          (λ z. let done = ends_done e z in
          let same : total (closing s w) ≡ total w = ap total opened_again in
          let counted : d.count ≡ total w - total (closing s w) = done.2 in
          let none : d.count ≡ 0 = omega arith in
          (λ i. record { number = z i; count = none i }, done.1 ∙ opened_again))
          (λ z. absurd (subst T (ap emptied opened_again ∙ whole) ((ends_contradictory e).0 z)))
          (ends_answers e)

      -- the search begins with the same closing
      is_searched : (ord : List ℕ) (b : ℕ) (d e : Answer) (x y : List ℕ) → Searching ord ws w b d x → Searching ord ws (filled s.boards) b e y
          → SameOutcome d x e y
      is_searched ord b d e x y p q =
          same_answer w (filled s.boards) (cap b (search (closing s) ord s.boards (filled s.boards)))
          (p ∙ search_good w ws s means opened_table ord b ∙ ap (λ (g : End). answer w (cap b g)) (search_from (closing s) ord s.boards (opened_again ∙ is_closing)))
          (q ∙ search_good (filled s.boards) ws s means full ord b)

    -- a contradiction at once is none
    is_none : (ord : List ℕ) → a.number ≡ 7 → (b : ℕ) (d : Answer) (x : List ℕ) → Searching ord ws (filled s.boards) b d x → d ≡ answered 8 0
    is_none ord z b d x p =
        let clashes = T_true {b = emptied (closing s (filled s.boards))} ((ends_contradictory (opening_ends ws s means t cells a w call)).0 z) in
        let end = search_clash (closing s) ord s.boards (filled s.boards) clashes in
        let told = p ∙ search_good (filled s.boards) ws s means full ord b ∙ ap (λ (g : End). answer (filled s.boards) (cap b g)) end
        ∙ ap (answer (filled s.boards)) (cap_in b (none 0) (omega arith)) in
        (outcome_determined d (answered 8 0) x (filled s.boards) told).0

-- Request 4, of the calls that open, close and search, in any order of relations.
pub opens_full : (ord : List ℕ) → OpensFull Opening Closing (Searching ord)
opens_full ord =
    record {
      closes_the_full = λ ws s means t cells a w call d x closed.
          same_into t (filled s.boards) s (filled s.boards) (call ∙ opening_good t ws s means cells)
          (closed ∙ close_good (filled s.boards) ws s means (full_table s.boards));
      any_contents = any_contents;
      cells_refused_exactly = cells_refused;
      opened_is_closed = is_closed;
      opened_is_searched = λ ws s means t cells a w call z. is_searched ws s means t cells a w call z ord;
      contradictory_is_none = λ ws s means t cells a w call. is_none ws s means t cells a w call ord;
    }

-- ---- as two calls

module _ (ws : List ℕ) (s : Sheet) (means : read ws ≡ good s) (t : List ℕ) where
  -- by whether V is in range and the table has as many cells
  by_tests : Bool → Bool → Outcome (List ℕ)
  by_tests a b =
      elim a [ true ↦ elim b [ true ↦ succeed 0 (filled s.boards) | false ↦ refuse 6 0 t ] | false ↦ refuse 1 0 t ]

  then_closing : Outcome (List ℕ) → Outcome (List ℕ)
  then_closing made = elim (eqb made.number 0) [ true ↦ keeping t (close ws made.lent) | false ↦ made ]

  tested : (b : Bool) → has_cells s.boards t ≡ b → making_then_closing ws s.boards t ≡ then_closing (by_tests true b)
  unfolding making making_then_closing by_tests then_closing
  tested b e =
      let v = s.boards in
      let boards = (read_well_formed ws s means).boards in
      let in_range_lem : (leb 1 v && leb v most_boards) ≡ true =
      T_true (and_T (leb 1 v) (leb v most_boards) (le→leb 1 v boards.0) (le→leb v most_boards boards.1)) in
      ap (λ (a : Bool). then_closing (by_tests a (has_cells v t))) in_range_lem ∙ ap (λ (b : Bool). then_closing (by_tests true b)) e

  -- closing the full table, where a refusal leaves the lent one
  kept_lent : (b : Bool) → keeping t (by_cells (filled s.boards) s (filled s.boards) b) ≡ by_cells t s (filled s.boards) b
  kept_lent true = refl
  kept_lent false = refl

  as_before : (b : Bool) → has_cells s.boards t ≡ b → opening ws t ≡ making_then_closing ws s.boards t
  unfolding by_tests then_closing
  as_before true e =
      let full = filled s.boards in
      opening_good t ws s means (has_cells_cells s.boards t (true_T e)) ∙ sym (kept_lent (emptied (closing s full)))
      ∙ ap (keeping t) (sym (close_good full ws s means (full_table s.boards))) ∙ sym (tested true e)
  as_before false e =
      opening_refused t ws (admitted_no_table has_cells ws t s means (λ h. subst T e h)) ∙ sym (tested false e)

-- Request 4, of the definitions: opening is what making the full table and then closing it came to.
pub opening_as_before : OpeningAsBefore
opening_as_before ws s means t = as_before ws s means t (has_cells s.boards t) refl
