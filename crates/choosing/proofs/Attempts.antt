-- A try as the code makes it: a strike at (p, q) of v boards, closed by the list. Assumes nothing.
use mathlib.Core.Path.{◌≡◌, refl, sym, ap, ◌∙◌, subst}
use mathlib.Core.List.{List}
use Prim.Native.Nat.{ℕ, ◌+◌, ◌*◌, ◌^◌, ◌≤◌, ◌<◌}
use native.Mathlib.Omega.{arith}
use borrow.Author.Tests.{ne_eqb}
use Rattle.std.specs.Prelude.{Option, Some, None, Result, Ok}
use lib.Dec.{T}
use lib.ListN.{length, get_or, set, replicate}
use lib.Seq.{get_or-set_same}
use Rattle.rules.specs.Relations.{has, ◌lies_within◌, converse}
use Rattle.rules.specs.Descriptions.{most_boards, Sheet}
use Rattle.rules.specs.Tables.{cell, Table, Inside, emptied}
use Rattle.rules.specs.Closed.{Closed, Largest}
use Rattle.rules.specs.Closing.{closing}
use Rattle.rules.specs.Search.{Order, places}
use Rattle.rules.proofs.Digits.{has_single}
use Rattle.rules.proofs.Sets.{lies_eq, shared}
use Rattle.rules.proofs.Inside.{inside_trans}
use Rattle.rules.proofs.Largest.{closing_largest, largest_unique}
use Rattle.passes.specs.Passes.{Ready}
use Rattle.orders.specs.Orders.{pick}
use Rattle.moves.specs.declared.Emptied.{Emptied}
use Rattle.moves.specs.Moves.{Marks, Mutual, told_of, Struck, Moved}
use Rattle.moves.proofs.Moving.{strike_moved, strike_within, moved_as}
use Rattle.rounds.proofs.Owing.{owed_moved}
use Rattle.rounds.proofs.Draining.{empty_list}
use Rattle.closing.specs.Closes.{Listing, ClosesListed}
use Rattle.closing.proofs.Closings.{closed_listing}
use Rattle.choosing.specs.declared.pairs.Pair.{Pair}
use Rattle.choosing.specs.declared.Next.{Next}
use Rattle.choosing.specs.declared.Next.TheVariants.{Try, Found, Spent}
use Rattle.choosing.specs.Pairs.{pair_cell, IsPair}
use Rattle.choosing.specs.Choices.{PairSets, NextOpen, Standing, Restored}
use Rattle.choosing.specs.Standings.{onward, backward, Whole, Due}
use Rattle.choosing.specs.Tries.{retreats, relists, Tried}
use Rattle.choosing.proofs.Walking.{pair_board, pair_place, pair_within, place_cell}
use Rattle.choosing.proofs.Standing.{inside_set, choice_in, standing_at}
use Rattle.choosing.proofs.Turning.{tried_choice, tried_cells, tried_table, tried_within, try_on, try_back}

-- a list with nothing on it
no_marks : (v : ℕ) → Marks v (replicate most_boards 0)
no_marks v = empty_list (replicate most_boards 0) refl

-- where a try is due, the table is listed
relisted : {s : Sheet} {w n : List ℕ} (next : Next) → Listing s n w → relists s w n next
relisted (Try to) l = l
relisted Found l = tt
relisted Spent l = tt

-- the first table is
pub first_relists : (s : Sheet) {v : ℕ} → v ≡ s.boards → v ≤ most_boards → {first u l : List ℕ} → Whole s first → u ≡ first → Marks v l → (next : Next) → relists s u l next
first_relists s boards few {first} {u} {l} whole e list next =
    relisted next
    (subst (Listing s l) (sym e)
    (closed_listing (subst (λ (n : ℕ). n ≤ most_boards) boards few) whole.table whole.closed whole.filled (subst (λ (n : ℕ). Marks n l) boards list)))

module _ (s : Sheet) {ord : List ℕ} (order : Order ord) (first : List ℕ) {v : ℕ} (boards : v ≡ s.boards) (few : v ≤ most_boards) (cs u : List ℕ) (at : Pair)
    (try : Due s ord first cs u at)
  where
    few' : s.boards ≤ most_boards
    few' = subst (λ (n : ℕ). n ≤ most_boards) boards few

    pub try_pair : IsPair v at
    try_pair = subst (λ (n : ℕ). IsPair n at) (sym boards) try.pair

    pub try_within : at.q < v
    try_within = subst (λ (n : ℕ). at.q < n) (sym boards) try.within

    pub try_sets : PairSets v cs
    try_sets = subst (λ (n : ℕ). PairSets n cs) (sym boards) try.sets

    pub try_place : at.index < length cs
    try_place =
        let l : length (places s.boards) ≤ length cs = try.sets.room in
        let h : at.index < length (places s.boards) = pair_within try.pair try.within in
        omega arith

    cell_place : v * at.p + at.q ≡ pair_cell s.boards at.index
    cell_place = ap (λ (n : ℕ). n * at.p + at.q) boards ∙ sym (pair_place try.pair try.within)

    pub try_room : length u ≡ length first
    try_room = try.inside.cells

    whole : Whole s first
    whole = try.stands.whole

    pub try_first : Mutual v first
    try_first = subst (λ (n : ℕ). Mutual n first) (sym boards) (closed_listing few' whole.table whole.closed whole.filled (no_marks s.boards)).fit

    pub try_standing : (n : ℕ) → n ≤ at.index → Standing v ord cs first n
    try_standing n l =
        subst (λ (m : ℕ). Standing m ord cs first n) (sym boards)
        (standing_at s order first cs try.sets.small (omega (arith, pair_within try.pair try.within)) try.stands n l)

    -- the choice, struck from both sides
    module _ {x : ℕ} (picks : x ≡ pick ord (get_or cs at.index 0)) {l : List ℕ} (listing : Listing s l u) where
      fit : Mutual v u
      fit = subst (λ (n : ℕ). Mutual n u) (sym boards) listing.fit

      pub try_fit : Mutual v u × Marks v l × (at.p < v) × (at.q < v)
      try_fit = (fit, subst (λ (n : ℕ). Marks n l) (sym boards) listing.list, pair_board try_pair try_within, try_within)

      abbrev Asked : List ℕ → Type 0
      Asked z = (cell v z at.p at.q lies_within x) × (cell v z at.q at.p lies_within converse (cell v z at.p at.q))

      module _ {y k : List ℕ} {told : Result (Unit {0}) Emptied} (r : Struck v at.p at.q x u l y k told) where
        -- it leaves the relation that was chosen
        struck : told ≡ Ok tt
        struck =
            let c = choice_in try.closes (tried_choice s order first cs u at try) in
            let e : x ≡ 2 ^ c.r = picks ∙ c.picks in
            r.told
            ∙ ap told_of
            (ne_eqb _ _
            (shared (cell v u at.p at.q) x c.r c.small (subst (λ (j : ℕ). T (has (get_or u j 0) c.r)) (sym cell_place) c.member)
            (subst (λ (z : ℕ). T (has z c.r)) (sym e) (has_single c.r))))

        moved : Moved Asked v u l y k
        moved =
            let (f, g, hp, hq) = try_fit in
            strike_moved f g hp hq (λ z a. a) (subst (Struck v at.p at.q x u l y k) struck r)

        within_choice : cell v y at.p at.q lies_within x
        within_choice =
            let (f, g, hp, hq) = try_fit in
            strike_within {C = Asked} f g hp hq (λ z a. a) (subst (Struck v at.p at.q x u l y k) struck r)

        pub try_listing : Listing s k y
        try_listing =
            let m = subst (λ (n : ℕ). Moved (λ z. ⊥) n u l y k) boards (moved_as (λ z e. absurd e) moved) in
            record { fit = m.fit; list = m.list; owed = owed_moved m listing.owed; steady = λ z i. listing.steady z (inside_trans i m.inside) }

        -- both close to the same table
        try_inside : Inside y (tried_cells s order first cs u at try)
        try_inside =
            subst (λ (j : ℕ). Inside y (set u j (pick ord (get_or cs at.index 0)))) cell_place
            (inside_set (v * at.p + at.q) (pick ord (get_or cs at.index 0)) moved.inside (subst (λ (z : ℕ). cell v y at.p at.q lies_within z) picks within_choice))

        try_keeps : (z : List ℕ) → Closed s z → Inside z (tried_cells s order first cs u at try) → Inside z y
        try_keeps z c i = moved.keeps z (here, turned) (inside_trans i (tried_within s order first cs u at try))
          where
            here : cell v z at.p at.q lies_within x
            here =
                subst (λ (j : ℕ). get_or z j 0 lies_within x) (sym cell_place)
                (subst (λ (w : ℕ). get_or z (pair_cell s.boards at.index) 0 lies_within w)
                (get_or-set_same u (pair_cell s.boards at.index) (pick ord (get_or cs at.index 0)) 0
                (subst (λ (n : ℕ). pair_cell s.boards at.index < n) (sym try.table.cells) (place_cell s.boards at.index (pair_within try.pair try.within))) ∙ sym picks)
                (i.each (pair_cell s.boards at.index)))

            turned : cell v z at.q at.p lies_within converse (cell v z at.p at.q)
            turned =
                subst (λ (n : ℕ). cell n z at.q at.p lies_within converse (cell n z at.p at.q)) (sym boards)
                (lies_eq (c.rule2 at.p at.q (pair_board try.pair try.within) try.within))

        try_largest : {w : List ℕ} → Largest s y w → Largest s (tried_cells s order first cs u at try) w
        try_largest g =
            record {
              table = g.table;
              closed = g.closed;
              inside = inside_trans g.inside try_inside;
              largest = λ z h c i. g.largest z h c (try_keeps z c i);
            }

        module _ (w n : List ℕ) (closed : ClosesListed s y w n) where
          pub on_ready : Ready v w
          on_ready = record { boards = few; table = subst (λ (m : ℕ). Table m w) (sym boards) closed.largest.table }

          pub goes_on : (from : ℕ) → from ≡ at.index + 1 → (ds : List ℕ) (next : Option Pair) → NextOpen v w cs from ds next
              → Tried s ord first at cs ds w (onward next) × relists s w n (onward next)
          goes_on from f ds next o = (
            try_on s order first cs u at try w (try_largest closed.largest) closed.fit.filled from f ds next (subst (λ (m : ℕ). NextOpen m w cs from ds next) boards o),
            relisted (onward next) (closed_listing few' closed.largest.table closed.largest.closed closed.fit.filled closed.list),
          )

        pub goes_back : T (emptied (closing s y)) → (ds w n : List ℕ) (next : Option Pair) → retreats v ord first at cs ds w n next
            → Tried s ord first at cs ds w (backward next) × relists s w n (backward next)
        goes_back f ds w n next b = (
          try_back s order first cs u at try clash ds w n next (subst (λ (m : ℕ). retreats m ord first at cs ds w n next) boards b),
          back next b,
        )
          where
            clash : T (emptied (closing s (tried_cells s order first cs u at try)))
            clash =
                subst (λ (z : List ℕ). T (emptied z))
                (largest_unique (try_largest (closing_largest s y try_listing.fit.ready.table)) (closing_largest s (tried_cells s order first cs u at try) (tried_table s order first cs u at try))) f

            restored : (to : Pair) → Restored v ord ds first to.index w n → Listing s n w
            restored to e =
                let m = subst (λ (n' : ℕ). Moved (λ z. ⊥) n' first (replicate most_boards 0) w n) boards (moved_as (λ z e. absurd e) e.moved) in
                let l = closed_listing few' whole.table whole.closed whole.filled (no_marks s.boards) in
                record { fit = m.fit; list = m.list; owed = owed_moved m l.owed; steady = λ z i. l.steady z (inside_trans i m.inside) }

            back : (next : Option Pair) → retreats v ord first at cs ds w n next → relists s w n (backward next)
            back (Some to) (b, e) = restored to e
            back None z = tt
