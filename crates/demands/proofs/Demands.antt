-- The calls meet the three demands (`Sentences`), whatever they may answer and leave by their promises. Assumes nothing.
use mathlib.Core.Path.{◌≡◌, sym, ◌∙◌, subst}
use mathlib.Core.Logic.Iff
use mathlib.Core.Logic.{⊎_elim, ◌↔◌}
use mathlib.Core.List.{List}
use Prim.Native.Nat.{ℕ}
use Rattle.rules.specs.Descriptions.{Sheet, good, read, OneArity}
use Rattle.rules.specs.Tables.{filled}
use Rattle.rules.specs.Arrangements.{Arrangement}
use Rattle.rules.specs.Search.{plain_order, Order}
use Rattle.rules.proofs.Descriptions.{read_well_formed}
use Rattle.rules.proofs.Full.{full_table}
use Rattle.rules.proofs.Largest.{closing_largest}
use Rattle.rules.proofs.Search.{plain_order_lem}
use Rattle.rules.proofs.Stages.{stages_clash, stages_table}
use Rattle.rules.proofs.Calls.{well_formed_table, has_cells_cells}
use Rattle.trees.specs.Trees.{DrawnFrom}
use Rattle.trees.proofs.Radial.{drawn_iff, nowhere_iff}
use Rattle.clauses.specs.Clauses.{Description, Writes, Solves}
use Rattle.clauses.proofs.Written.{read_writes}
use Rattle.clauses.proofs.Spelling.{written_once, one_run, writes_means}
use Rattle.clauses.proofs.Constraints.{solved_iff, unsolvable_iff}
use Rattle.answers.specs.Answers.{answered}
use Rattle.answers.proofs.Outcomes.{outcome_determined}
use Rattle.demands.specs.Entries.{Reads, Opening, Closing, Searching, Checking, Call, searches}
use Rattle.demands.specs.Published.{WriteOnly, OfPublished}
use Rattle.demands.specs.Runs.{sheets}
use Rattle.demands.specs.Sentences.{Demand1, Demand2, Demand3}
use Rattle.demands.proofs.Refusing.{reading_refused, reading_good, opening_gives, call_gives, gives_good, gives_refuses}
use Rattle.demands.proofs.Finding.{search_ends, ways_none, ways_out, out_ways, ways_within, ways_tries, budget_more, stated_none, finds_least, finds_none, full_finds, full_none, check_ends, check_rejects, check_accepts, check_accepted}
use Rattle.demands.proofs.Ending.{closing_ends, opening_ends, ends_done, closes_each, run, same_boards, opened_same}

-- Demand 1, of the reader, the opening, and the calls that close, search and check.
pub demand_1 : Demand1 Reads Opening Call
demand_1 =
    record {
      opening_refuses = gives_refuses has_cells_cells opening_gives;
      calls_refuse = gives_refuses well_formed_table call_gives;
      malformed_description_told = λ ws a call n k e. (outcome_determined a (answered n k) tt tt (call ∙ reading_refused ws n k e)).0;
      good_description_told = λ ws a call s e. (outcome_determined a (answered 0 0) tt tt (call ∙ reading_good ws s e)).0;
    }

-- ---- arrangements, trees and published constraints

-- For a good description, the arrangements are exactly what radial trees that fit it draw.
pub arrangements_are_trees : (ws : List ℕ) (s : Sheet) → read ws ≡ good s → (t : List ℕ) → Arrangement s t ↔ DrawnFrom s t
arrangements_are_trees ws s means = drawn_iff (read_well_formed ws s means)

-- what holds of every description that means s holds of the one that the words write
published : (ws : List ℕ) (s : Sheet) → read ws ≡ good s → (P : Description → Type 0) → ((φ : Description) → WriteOnly ws s φ → P φ) → OfPublished ws s P
published ws s means P f =
    let m = read_writes ws s means in ((m.0, only m.0 m.1), λ φ w. (only φ w, f φ (only φ w)))
  where
    only : (φ : Description) → Writes ws φ → WriteOnly ws s φ
    only φ w =
        record {
          writes = w;
          one = λ ψ u. written_once ws ψ φ u w;
          run = λ us u. one_run us ws φ u w;
          means = writes_means ws s means φ w;
          arity = subst (λ (u : Sheet). OneArity u.kinds) (sym (writes_means ws s means φ w)) (read_well_formed ws s means).arity;
        }

-- For a good description, the arrangements are exactly the tables whose row sets satisfy the published clauses of the description that the words write.
pub arrangements_are_solutions : (ws : List ℕ) (s : Sheet) → read ws ≡ good s → OfPublished ws s (λ φ. (t : List ℕ) → Arrangement s t ↔ Solves φ t)
arrangements_are_solutions ws s means =
    published ws s means (λ φ. (t : List ℕ) → Arrangement s t ↔ Solves φ t) (λ φ o. solved_iff φ o.means (read_well_formed ws s means))

-- ---- demand 2

-- Demand 2, of the search in any order and the check.
pub demand_2_in_any_order : {ord : List ℕ} → Order ord → Demand2 ord (Searching ord) Checking
demand_2_in_any_order {ord} order =
    record {
      agrees_with_constraints = λ ws s means b a w call ended. published ws s means _ (λ φ o.
          let f = read_well_formed ws s means in (
            Iff.trans (full_none order ws s means b a w call ended) (unsolvable_iff φ o.means f),
            λ z. (solved_iff φ o.means f w).0 (full_finds order ws s means b a w call z),
          ));
      finds_radial_trees = λ ws s means b a w call ended.
          let f = read_well_formed ws s means in (
            Iff.trans (full_none order ws s means b a w call ended) (nowhere_iff f),
            λ z. (drawn_iff f w).0 (full_finds order ws s means b a w call z),
          );
      found_is_arrangement = λ ws s means t table b a w call z.
          let l = finds_least order ws s means t table b a w call z in (l.arrangement, l.inside);
      ran_out_exactly = λ ws s means t table b a w call.
          let ways = search_ends ord ws s means t table b a w call in (λ e. (ways_out ways e).0, λ h. out_ways ways h);
      found_is_first = finds_least order;
      first_is_found = λ ws s means t table b a w call l x r i.
          let ways = search_ends ord ws s means t table b a w call in
          ⊎_elim (λ z. z) (λ e. absurd (stated_none order ws s means t table a.count (ways_none ways e) x r i)) (ways_within ways l);
      none_exactly = finds_none order;
      answer_carries_tries = λ ws s means t table b a w call n. ways_tries (search_ends ord ws s means t table b a w call) n;
      answer_carries_budget = λ ws s means t table b a w call e. (ways_out (search_ends ord ws s means t table b a w call) e).1;
      search_one_outcome = λ ws t b a d u w p q. outcome_determined a d u w (p ∙ sym q);
      larger_budget_same = λ ws t b c l a d u w p q n. outcome_determined a d u w (p ∙ budget_more ord ws t b c l a u p n ∙ sym q);
      check_accepts_exactly = λ ws t a call. (check_accepts ws t a call, check_accepted ws t a call);
      check_rejects_exactly = λ ws s means t table a call. check_rejects a (check_ends ws s means t table a call);
      found_is_accepted = λ ws t b a w call z c checked.
          let g = gives_good ws t a w (call_gives ws t a w (searches ord b call)) z in
          check_accepted ws w c checked
          (g.0, g.1, (finds_least order ws g.0 g.1 t (well_formed_table g.0.boards t g.2) b a w call z).arrangement);
    }

-- The call's own order is E, A, B, S.
pub demand_2 : Demand2 plain_order (Searching plain_order) Checking
demand_2 = demand_2_in_any_order plain_order_lem

-- ---- demand 3

-- Demand 3, of the opening and the closing.
pub demand_3 : Demand3 Opening Closing
demand_3 =
    record {
      closing = closes_each (λ P f ws s means t table a w call.
          f s t a w (record { formed = read_well_formed ws s means; table = table; lent = t; ended = closing_ends ws s means t table a w call }));
      opening = closes_each (λ P f ws s means t cells a w call.
          f s (filled s.boards) a w
          (record { formed = read_well_formed ws s means; table = full_table s.boards; lent = t; ended = opening_ends ws s means t cells a w call }));
      stages_same_table = λ one gs stages t table a u single w c called z.
          let d = ends_done (closing_ends one.words one.sheet one.means t table a u single) z in
          stages_table (sheets gs) stages t w c (closing_largest one.sheet t table)
          (run gs (same_boards one.sheet gs stages) t w c table called) d.0
          ∙ sym d.1;
      stages_contradictory = λ one gs stages t table a u single w c called.
          let e = (closing_ends one.words one.sheet one.means t table a u single).1 in
          sym (stages_clash (sheets gs) stages t w c (closing_largest one.sheet t table) (run gs (same_boards one.sheet gs stages) t w c table called))
          ∙ e.empty ∙ sym e.says;
      opened_stages_same_table = λ one g gs stages l t l-cells t-cells a u single w c calls.
          (opened_same one g gs stages l t l-cells t-cells a u single w c calls).table;
      opened_stages_contradictory = λ one g gs stages l t l-cells t-cells a u single w c calls.
          (opened_same one g gs stages l t l-cells t-cells a u single w c calls).clash;
    }
