-- A turn of the search: from the choices that stand and a try that is due, on to the next pair or back to an earlier one. What was to come is one try,
-- and what comes then. Assumes nothing.
use mathlib.Core.Path.{◌≡◌, refl, sym, ap, ap₂, ◌∙◌, subst}
use mathlib.Core.List.Memᴰ
use mathlib.Core.List.{List, [], ◌∷◌}
use mathlib.Core.Logic.{⊎_elim}
use Prim.Native.Nat.{ℕ, zero, suc, ◌+◌, ◌-◌, ◌≤◌, ◌<◌}
use native.Mathlib.Nat.{add-zero, add-suc}
use native.Mathlib.Omega.{arith}
use lib.Dec.{T, T_not}
use lib.ListN.{length, get_or, set, drop}
use lib.Seq.{drop-cons}
use Rattle.std.specs.Prelude.{Option, Some, None, MatchOption}
use Rattle.rules.specs.Relations.{set_limit, has, meet, complement, size, ◌lies_within◌}
use Rattle.rules.specs.Descriptions.{Sheet}
use Rattle.rules.specs.Tables.{Table, Inside, emptied}
use Rattle.rules.specs.Closed.{Closed, Largest}
use Rattle.rules.specs.Closing.{closing}
use Rattle.rules.specs.Search.{Order, End, found, later, proceed, attempt, choose, places, tries}
use Rattle.rules.proofs.Tests.{below_suc}
use Rattle.rules.proofs.Sets.{lies_eq, lies_trans, lies_zero, meet_small, meet_left, meet_right, complement_out, size_one, size_pos, size_zero, some_member}
use Rattle.rules.proofs.Inside.{inside_refl, inside_trans, emptied_in}
use Rattle.rules.proofs.Arrangements.{One, one_has}
use Rattle.rules.proofs.Largest.{closing_largest, largest_unique}
use Rattle.rules.proofs.FirstPair.{choose_skip, choose_first}
use Rattle.passes.specs.Passes.{Filled}
use Rattle.orders.specs.Orders.{still, pick, unpicked}
use Rattle.orders.proofs.Picking.{still_less, none_still}
use Rattle.choosing.specs.declared.pairs.Pair.{Pair}
use Rattle.choosing.specs.declared.Next.{Next}
use Rattle.choosing.specs.declared.Next.TheVariants.{Try, Found, Spent}
use Rattle.choosing.specs.Pairs.{pair_cell}
use Rattle.choosing.specs.Choices.{Passed, Several, NextOpen}
use Rattle.choosing.specs.Standings.{onward, backward, else_end, stood, trying, resume, ahead, ChoiceMade, Whole, ChoicesStand, Due, due}
use Rattle.choosing.specs.Tries.{retreats, Tried}
use Rattle.choosing.proofs.Walking.{pair_within, place_cell}
use Rattle.choosing.proofs.Standing.{largest_self, inside_set, set_inside, Choice, choice_in, choice_at, table_narrowed, inside_narrowed, closes_next, inside_at, restored_closes}
use Rattle.choosing.proofs.Resuming.{later_zero, tries_later, then_none, attempt_next, attempt_still, proceed_none, proceed_on, drop_all, choose_none, stood_same, resume_same, resume_more, resume_later, resume_found, resume_back, resume_spent}

-- ---- the choices that stand

module _ {s : Sheet} {ord first : List ℕ} where
  -- fewer of them
  stands_fewer : {cs : List ℕ} {i j : ℕ} → j ≤ i → ChoicesStand s ord first cs i → ChoicesStand s ord first cs j
  stands_fewer h k = record { whole = k.whole; each = λ m l. k.each m (omega arith) }

  -- by other sets that are the same up to there
  stands_same : (cs ds : List ℕ) (i : ℕ) → ((m : ℕ) → m < i → get_or ds m 0 ≡ get_or cs m 0) → ChoicesStand s ord first cs i → ChoicesStand s ord first ds i
  stands_same cs ds i h k =
      record {
        whole = k.whole;
        each = λ m l.
            let t : stood (closing s) ord s.boards first ds m ≡ stood (closing s) ord s.boards first cs m =
            stood_same (closing s) ord s.boards first cs ds m (λ n g. h n (omega arith)) in
            let u : stood (closing s) ord s.boards first ds (suc m) ≡ stood (closing s) ord s.boards first cs (suc m) =
            stood_same (closing s) ord s.boards first cs ds (suc m) (λ n g. h n (omega arith)) in
            record {
              some = λ e. (k.each m l).some (sym (h m l) ∙ e);
              among =
                  subst (λ (c : ℕ). c lies_within get_or (stood (closing s) ord s.boards first ds m) (pair_cell s.boards m) 0) (sym (h m l))
                  (subst (λ (x : List ℕ). get_or cs m 0 lies_within get_or x (pair_cell s.boards m) 0) (sym t) (k.each m l).among);
              filled = subst Filled (sym u) (k.each m l).filled;
            };
      }

  -- one more
  stands_more : {cs : List ℕ} {i : ℕ} → ChoicesStand s ord first cs i → ChoiceMade (closing s) ord s.boards first cs i → ChoicesStand s ord first cs (suc i)
  stands_more {cs} {i} k c =
      record {
        whole = k.whole;
        each = λ m l. ⊎_elim (λ e. subst (ChoiceMade (closing s) ord s.boards first cs) (sym e) c) (λ h. k.each m h) (below_suc l);
      }

-- ---- what comes next, as the code tells it

pub onward_is : (to : Option Pair) (next : Next) → MatchOption to (next ≡ Found) (λ at. next ≡ Try at) → next ≡ onward to
onward_is (Some at) next e = e
onward_is None next e = e

pub backward_is : (to : Option Pair) (next : Next) → MatchOption to (next ≡ Spent) (λ at. next ≡ Try at) → next ≡ backward to
backward_is (Some at) next e = e
backward_is None next e = e

le_below : {m n : ℕ} → m ≤ n → m < suc n
le_below h = omega arith

-- ---- a pair whose cell has one relation

-- nothing is left of a single relation besides itself
none_besides : (x : ℕ) → meet x (complement x) ≡ 0
none_besides x = lies_zero (meet_small x (complement x)) (record { member = λ r h m. absurd (complement_out x r h ((meet_right x (complement x)).member r h m) ((meet_left x (complement x)).member r h m)) })

module _ (s : Sheet) {ord : List ℕ} (order : Order ord) (first : List ℕ) where
  abbrev clo : List ℕ → List ℕ
  clo = closing s

  abbrev v : ℕ
  v = s.boards

  abbrev stand : List ℕ → ℕ → List ℕ
  stand cs m = stood clo ord v first cs m

  -- what is to come from pair i on, with the table t there
  abbrev pub onto : List ℕ → ℕ → List ℕ → End
  onto cs i t = resume clo ord v first cs i (choose clo ord (drop i (places v)) t)

  -- a cell of a table without an empty cell
  some_cell : {t : List ℕ} → Whole s t → (m : ℕ) → m < length (places v) → get_or t (pair_cell v m) 0 ≡ 0 → ⊥
  some_cell {t} w m l e =
      T_not (emptied t) w.filled (emptied_in t (pair_cell v m) (subst (λ (n : ℕ). pair_cell v m < n) (sym w.table.cells) (place_cell v m l)) e)

  module _ {t : List ℕ} (w : Whole s t) (ds : List ℕ) (m : ℕ) (l : m < length (places v)) (small : (m : ℕ) → get_or ds m 0 < set_limit)
      (here : stand ds m ≡ t) (one : size (get_or t (pair_cell v m) 0) ≤ 1) (kept : get_or ds m 0 ≡ get_or t (pair_cell v m) 0)
    where
      some : get_or ds m 0 ≡ 0 → ⊥
      some e = some_cell w m l (sym kept ∙ e)

      among : get_or ds m 0 lies_within get_or (stand ds m) (pair_cell v m) 0
      among = lies_eq (kept ∙ ap (λ (x : List ℕ). get_or x (pair_cell v m) 0) (sym here))

      settled : Choice ord (stand ds m) (pair_cell v m) (get_or ds m 0)
      settled = choice_at s order first ds small m (subst (Table v) (sym here) w.table) some among

      -- the choice is all that the cell has
      whole_cell : pick ord (get_or ds m 0) ≡ get_or t (pair_cell v m) 0
      whole_cell =
          let x = get_or t (pair_cell v m) 0 in
          let n = some_member (w.table.small (pair_cell v m)) (some_cell w m l) in
          let p : 0 < size x = size_pos x n.0 n.1 n.2 in
          let o : One x = size_one x (w.table.small (pair_cell v m)) (omega arith) in
          let h : T (has x settled.r) = subst (λ (u : List ℕ). T (has (get_or u (pair_cell v m) 0) settled.r)) here settled.member in
          settled.picks ∙ sym (one_has o settled.r h)

      -- so the table stays as it is
      settled_stays : stand ds (suc m) ≡ t
      settled_stays =
          let a : Largest s (stand ds m) (stand ds m) = largest_self (subst (Table v) (sym here) w.table) (subst (Closed s) (sym here) w.closed) in
          let b : Largest s (set (stand ds m) (pair_cell v m) (pick ord (get_or ds m 0))) (stand ds (suc m)) = closes_next s order first ds small m l a.table a settled in
          let c : Largest s (set t (pair_cell v m) (get_or t (pair_cell v m) 0)) (stand ds (suc m)) =
          subst (λ (x : ℕ). Largest s (set t (pair_cell v m) x) (stand ds (suc m))) whole_cell
          (subst (λ (u : List ℕ). Largest s (set u (pair_cell v m) (pick ord (get_or ds m 0))) (stand ds (suc m))) here b) in
          largest_unique c (itself (get_or t (pair_cell v m) 0) refl)
        where
          itself : (x : ℕ) → x ≡ get_or t (pair_cell v m) 0 → Largest s (set t (pair_cell v m) x) t
          itself x e =
              record {
                table = w.table;
                closed = w.closed;
                inside = inside_set (pair_cell v m) x (inside_refl t) (lies_eq (sym e));
                largest = λ y g c i. inside_trans i (set_inside t (pair_cell v m) x (lies_eq e));
              }

      settled_chosen : ChoiceMade clo ord v first ds m
      settled_chosen = record { some = some; among = among; filled = subst Filled (sym settled_stays) w.filled }

      -- and nothing is to come there
      settled_onto : onto ds (suc m) t ≡ onto ds m t
      unfolding resume attempt
      settled_onto =
          ap (λ (rs : List ℕ). resume clo ord v first ds m (else_end (choose clo ord (drop (suc m) (places v)) t) (trying clo ord v first ds m rs))) nothing
          ∙ ap (resume clo ord v first ds m) (then_none (choose clo ord (drop (suc m) (places v)) t) ∙ sym passed)
        where
          nothing : still ord (unpicked ord (get_or ds m 0)) ≡ []
          nothing =
              ap (still ord) (ap₂ (λ (x y : ℕ). meet x (complement y)) kept whole_cell ∙ none_besides (get_or t (pair_cell v m) 0)) ∙ none_still ord

          passed : choose clo ord (drop m (places v)) t ≡ choose clo ord (drop (suc m) (places v)) t
          passed =
              ap (λ (ks : List ℕ). choose clo ord ks t) (drop-cons (places v) m 0 l)
              ∙ choose_skip clo ord (pair_cell v m ∷ []) (drop (suc m) (places v)) t (λ k n. subst (λ (j : ℕ). size (get_or t j 0) ≤ 1) (sym (Memᴰ.eq_of_singleton n)) one)

  -- ---- going on

  -- the choices stand up to pair n, where the table is t, and what is to come is what was to come
  record Reached (e : End) (t ds : List ℕ) (n : ℕ) : Type 0 where
    stands : ChoicesStand s ord first ds n
    table : stand ds n ≡ t
    comes : e ≡ onto ds n t

  module _ {t : List ℕ} (w : Whole s t) (cs : List ℕ) (i : ℕ) (stands : ChoicesStand s ord first cs i) (here : stand cs i ≡ t) where
    module _ (ds : List ℕ) (j : ℕ) (few : j ≤ length (places v)) (passed : Passed v t cs i ds j) where
      reached : (d : ℕ) → i + d ≤ j → Reached (onto cs i t) t ds (i + d)
      reached zero h =
          subst (Reached (onto cs i t) t ds) (sym (add-zero i))
          (record {
            stands = stands_same cs ds i passed.before stands;
            table = stood_same clo ord v first cs ds i passed.before ∙ here;
            comes = sym (resume_same clo ord v first cs ds i passed.before (choose clo ord (drop i (places v)) t));
          })
      reached (suc d) h =
          let m = i + d in
          let l : i + d < j = omega arith in
          let a : i ≤ m = omega arith in
          let r = reached d (omega arith) in
          let b : m < length (places v) = omega arith in
          let one = passed.single m a l in
          let kept = passed.kept m a l in
          let small = passed.sets.small in
          subst (Reached (onto cs i t) t ds) (sym (add-suc i d))
          (record {
            stands = stands_more r.stands (settled_chosen w ds m b small r.table one kept);
            table = settled_stays w ds m b small r.table one kept;
            comes = r.comes ∙ sym (settled_onto w ds m b small r.table one kept);
          })

      at_last : Reached (onto cs i t) t ds j
      at_last =
          let d = sub_back passed.after in
          subst (Reached (onto cs i t) t ds) d.1 (reached d.0 (omega (arith, d.1)))
        where
          sub_back : {a b : ℕ} → a ≤ b → (d : ℕ) × (a + d ≡ b)
          sub_back {a} {b} h = (b - a, omega arith)

    -- to a pair with several relations, or past the last pair
    pub going_on : (ds : List ℕ) (next : Option Pair) → NextOpen v t cs i ds next
        → due s ord first ds t (onward next) × (onto cs i t ≡ ahead clo ord v first ds t (onward next))
    going_on ds (Some at) (passed, several) =
        let l : at.index < length (places v) = pair_within several.pair several.within in
        let r = at_last ds at.index (omega arith) passed in
        let k = pair_cell v at.index in (
          record {
            sets = passed.sets;
            pair = several.pair;
            within = several.within;
            stands = r.stands;
            some = λ e. let z : size (get_or t k 0) ≡ 0 = ap size (sym several.kept ∙ e) ∙ size_zero in let m : 1 < size (get_or t k 0) = several.many in let y : ⊥ = omega arith in y;
            among = lies_eq (several.kept ∙ ap (λ (x : List ℕ). get_or x k 0) (sym r.table));
            table = w.table;
            inside = subst (λ (x : List ℕ). Inside x first) r.table (inside_at s order first ds passed.sets.small (omega arith) r.stands at.index (omega arith));
            closes = subst (Largest s t) (sym r.table) (largest_self w.table w.closed);
          },
          r.comes ∙ ap (resume clo ord v first ds at.index) (chosen_next ds at l several r.table),
        )
      where
        chosen_next : (ds : List ℕ) (at : Pair) → at.index < length (places v) → Several v t ds at → stand ds at.index ≡ t
            → choose clo ord (drop at.index (places v)) t ≡ trying clo ord v first ds at.index (still ord (get_or ds at.index 0))
        chosen_next ds at l several e =
            let k = pair_cell v at.index in
            let go : List ℕ → End = λ u. choose clo ord (drop (suc at.index) (places v)) u in
            ap (λ (ks : List ℕ). choose clo ord ks t) (drop-cons (places v) at.index 0 l)
            ∙ choose_first clo ord k (drop (suc at.index) (places v)) t several.many
            ∙ attempt_still clo go k t ord
            ∙ ap₂ (λ (x : List ℕ) (c : ℕ). attempt clo go k x (still ord c)) (sym e) (sym several.kept)
    going_on ds None passed =
        let r = at_last ds (length (places v)) (omega arith) passed in (
          tt,
          r.comes ∙ ap (λ (ks : List ℕ). resume clo ord v first ds (length (places v)) (choose clo ord ks t)) (drop_all (places v) (length (places v)) refl)
              ∙ ended ds,
        )
      where
        ended : (ds : List ℕ) → resume clo ord v first ds (length (places v)) (choose clo ord [] t) ≡ found 0 t
        ended ds = ap (resume clo ord v first ds (length (places v))) (choose_none clo ord t) ∙ resume_found clo ord v first ds (length (places v)) 0 t

  -- ---- a try

  module _ (cs u : List ℕ) (at : Pair) (try : Due s ord first cs u at) where
    small : (m : ℕ) → get_or cs m 0 < set_limit
    small = try.sets.small

    abbrev i : ℕ
    i = at.index

    within : i < length (places v)
    within = pair_within try.pair try.within

    pub tried_choice : Choice ord (stand cs i) (pair_cell v i) (get_or cs i 0)
    tried_choice = choice_at s order first cs small i try.closes.table try.some try.among

    -- the cells with the choice written in
    abbrev pub tried_cells : List ℕ
    tried_cells = set u (pair_cell v i) (pick ord (get_or cs i 0))

    pub tried_table : Table v tried_cells
    tried_table = table_narrowed s order first cs small i try.table (choice_in try.closes tried_choice)

    pub tried_within : Inside tried_cells u
    tried_within = inside_narrowed s order first cs small i (choice_in try.closes tried_choice) try.table

    -- they close to the table at the next pair
    tried_closes : Largest s tried_cells (stand cs (suc i))
    tried_closes = closes_next s order first cs small i within try.table try.closes tried_choice

    -- what a try comes to, and then the relations that are left
    made : trying clo ord v first cs i (still ord (get_or cs i 0))
        ≡ later 1 (else_end (proceed (λ t. choose clo ord (drop (suc i) (places v)) t) (stand cs (suc i))) (trying clo ord v first cs i (still ord (unpicked ord (get_or cs i 0)))))
    unfolding stood
    made =
        let k = pair_cell v i in
        let go : List ℕ → End = λ t. choose clo ord (drop (suc i) (places v)) t in
        ap (attempt clo go k (stand cs i)) tried_choice.few
        ∙ attempt_next clo go k (stand cs i) tried_choice.r tried_choice.rest tried_choice.member
        ∙ ap₂ (λ (x : ℕ) (rs : List ℕ). later 1 (else_end (proceed go (clo (set (stand cs i) k x))) (attempt clo go k (stand cs i) rs)))
        (sym tried_choice.picks) (sym (still_less ord order.once (get_or cs i 0) tried_choice.r tried_choice.rest (small i) tried_choice.small tried_choice.few))

    pub comes : ahead clo ord v first cs u (Try at)
        ≡ later 1 (resume clo ord v first cs i (else_end (proceed (λ t. choose clo ord (drop (suc i) (places v)) t) (stand cs (suc i))) (trying clo ord v first cs i (still ord (unpicked ord (get_or cs i 0))))))
    comes = ap (resume clo ord v first cs i) made ∙ resume_later clo ord v first cs i 1 _

    -- the try did not clash: the search goes on from the next pair, with the cells as they are closed
    module _ (w : List ℕ) (largest : Largest s tried_cells w) (filled : Filled w) where
      stands_next : stand cs (suc i) ≡ w
      stands_next = largest_unique tried_closes largest

      pub tried_whole : Whole s w
      tried_whole = record { table = largest.table; closed = largest.closed; filled = filled }

      pub try_on : (from : ℕ) → from ≡ i + 1 → (ds : List ℕ) (next : Option Pair) → NextOpen v w cs from ds next → Tried s ord first at cs ds w (onward next)
      try_on from e ds next o =
          let f : from ≡ suc i = e ∙ next_of i in
          let g = going_on tried_whole cs (suc i)
          (stands_more try.stands (record { some = try.some; among = try.among; filled = subst Filled (sym stands_next) filled }))
          stands_next ds next (subst (λ (n : ℕ). NextOpen v w cs n ds next) f o) in
          record { due = g.0; ahead = comes ∙ ap (later 1) (on ∙ g.1) }
        where
          next_of : (n : ℕ) → n + 1 ≡ suc n
          next_of n = omega arith

          on : resume clo ord v first cs i (else_end (proceed (λ t. choose clo ord (drop (suc i) (places v)) t) (stand cs (suc i))) (trying clo ord v first cs i (still ord (unpicked ord (get_or cs i 0)))))
              ≡ onto cs (suc i) w
          on =
              ap (λ (e : End). resume clo ord v first cs i (else_end e (trying clo ord v first cs i (still ord (unpicked ord (get_or cs i 0))))))
              (proceed_on (λ t. choose clo ord (drop (suc i) (places v)) t) (stand cs (suc i)) (subst Filled (sym stands_next) filled)
              ∙ ap (choose clo ord (drop (suc i) (places v))) stands_next) ∙ resume_more clo ord v first cs i _

    -- the try clashed: the search goes back
    module _ (clash : T (emptied (clo tried_cells))) where
      failed : T (emptied (stand cs (suc i)))
      failed = subst (λ (x : List ℕ). T (emptied x)) (largest_unique (closing_largest s tried_cells tried_table) tried_closes) clash

      -- what is left at a pair, and before it
      abbrev left : ℕ → End
      left m = resume clo ord v first cs m (trying clo ord v first cs m (still ord (unpicked ord (get_or cs m 0))))

      comes_left : ahead clo ord v first cs u (Try at) ≡ later 1 (left i)
      comes_left =
          comes ∙ ap (later 1)
          (ap (λ (e : End). resume clo ord v first cs i (else_end e (trying clo ord v first cs i (still ord (unpicked ord (get_or cs i 0))))))
          (proceed_none (λ t. choose clo ord (drop (suc i) (places v)) t) (stand cs (suc i)) failed)
          ∙ ap (resume clo ord v first cs i) (later_zero _))

      -- where nothing is left from pair j on
      left_back : (j d : ℕ) → ((m : ℕ) → j < m → m ≤ j + d → unpicked ord (get_or cs m 0) ≡ 0) → left (j + d) ≡ left j
      left_back j zero f = ap left (add-zero j)
      left_back j (suc d) f =
          ap left (add-suc j d) ∙ resume_back clo ord v first cs (j + d) (f (suc (j + d)) (omega arith) (omega arith)) (none_still ord)
          ∙ left_back j d (λ m h l. f m h (omega arith))

      left_from : (j : ℕ) → j ≤ i → ((m : ℕ) → j < m → m ≤ i → unpicked ord (get_or cs m 0) ≡ 0) → left i ≡ left j
      left_from j h f =
          let d = i - j in
          let e : j + d ≡ i = omega arith in
          ap left (sym e) ∙ left_back j d (λ m l k. f m l (subst (λ (n : ℕ). m ≤ n) e k))

      pub try_back : (ds w k : List ℕ) (next : Option Pair) → retreats v ord first at cs ds w k next → Tried s ord first at cs ds w (backward next)
      try_back ds w k (Some to) (b, e) =
          let j = to.index in
          let stands : ChoicesStand s ord first ds j = stands_same cs ds j b.before (stands_fewer b.most try.stands) in
          let l : j ≤ length (places v) = let h : j ≤ i = b.most in let k : i < length (places v) = within in omega arith in
          let here : stand ds j ≡ stand cs j = stood_same clo ord v first cs ds j b.before in
          record {
            due =
                record {
                  sets = b.sets;
                  pair = b.pair;
                  within = b.within;
                  stands = stands;
                  some = b.some;
                  among =
                      subst (λ (x : List ℕ). get_or ds j 0 lies_within get_or x (pair_cell v j) 0) (sym here)
                      (subst (λ (c : ℕ). c lies_within get_or (stand cs j) (pair_cell v j) 0) (sym b.here) (lies_trans (meet_left (get_or cs j 0) (complement (pick ord (get_or cs j 0)))) (among_at j b.most)));
                  table = e.moved.fit.ready.table;
                  inside = e.moved.inside;
                  closes = restored_closes s order first ds b.sets.small l stands j (omega arith) e;
                };
            ahead =
                comes_left ∙ ap (later 1)
                (left_from j b.most b.failed
                ∙ sym (resume_same clo ord v first cs ds j b.before (trying clo ord v first ds j (still ord (get_or ds j 0)))
                ∙ ap₂ (λ (x : List ℕ) (c : ℕ). resume clo ord v first cs j (attempt clo (λ t. choose clo ord (drop (suc j) (places v)) t) (pair_cell v j) x (still ord c))) here b.here));
          }
        where
          among_at : (j : ℕ) → j ≤ i → get_or cs j 0 lies_within get_or (stand cs j) (pair_cell v j) 0
          among_at j h =
              ⊎_elim (λ (e : j ≡ i). subst (λ (n : ℕ). get_or cs n 0 lies_within get_or (stand cs n) (pair_cell v n) 0) (sym e) try.among) (λ l. (try.stands.each j l).among)
              (below_suc (le_below h))
      try_back ds w k None f =
          record {
            due = tt;
            ahead =
                comes_left ∙ ap (later 1)
                (left_from 0 (omega arith) (λ m h l. f m l) ∙ resume_spent clo ord v first cs (f 0 (omega arith)) (none_still ord));
          }

    -- at least one try is to come
    pub one_more : 0 < tries (ahead clo ord v first cs u (Try at))
    one_more = subst (λ (e : End). 0 < tries e) (sym comes) (let l = tries_later 1 (resume clo ord v first cs i (else_end (proceed (λ t. choose clo ord (drop (suc i) (places v)) t) (stand cs (suc i))) (trying clo ord v first cs i (still ord (unpicked ord (get_or cs i 0)))))) in omega (arith, l))
