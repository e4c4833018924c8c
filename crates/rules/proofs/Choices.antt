-- The search's choices, over any closing and any order of relations: by the places left and the relations left, what is found comes before every
-- other arrangement inside the table, and none is said only where there is none. Assumes nothing.
use mathlib.Core.Path.{◌≡◌, refl, sym, ap, ◌∙◌, subst}
use mathlib.Core.Bool.{Bool, true, false, not}
use mathlib.Core.Logic.{◌⊎◌, inl, inr, ⊎_elim}
use mathlib.Core.List.Memᴰ
use mathlib.Core.List.{List, [], ◌∷◌, Memᴰ}
use Prim.Native.Nat.{ℕ, suc, ◌+◌, ◌*◌, ◌^◌, ◌≤◌, ◌<◌}
use native.Mathlib.Omega.{arith}
use lib.Dec.{T, ltb, ltb→lt, lt→ltb, nltb→le, T_not, not_T}
use lib.ListN.{length, get_or, set, length-set}
use Rattle.rules.specs.Relations.{relations, E, has, size, ◌lies_within◌, converse, opposite}
use Rattle.rules.specs.Descriptions.{Sheet, WellFormed}
use Rattle.rules.specs.Tables.{Table, Inside, at, emptied, up_to}
use Rattle.rules.specs.Arrangements.{Arrangement}
use Rattle.rules.specs.Closed.{Closed, Largest}
use Rattle.rules.specs.Search.{Order, End, found, none, later, proceed, or_else, attempt, choose, places, search, rank, Before}
use Rattle.rules.proofs.Tests.{order_cases, true_T, T-decide}
use Rattle.rules.proofs.Digits.{has_single, has_small}
use Rattle.rules.proofs.Sets.{lies_refl, lies_trans, lies_one, lies_single, size_tight, size_single, size_one, size_pos, some_member}
use Rattle.rules.proofs.Composition.{opposite_small, converse_single}
use Rattle.rules.proofs.Members.{All, all_none, all_one, over_all, all_over, up_to_in, up_to_out}
use Rattle.rules.proofs.Inside.{in_range_lem, inside_refl, inside_trans, emptied_in, emptied_inside}
use Rattle.rules.proofs.Rules.{relations_pos}
use Rattle.rules.proofs.Strikes.{set_each}
use Rattle.rules.proofs.Narrowing.{narrowed_table, narrowed_inside, narrowed_at, narrowed_one, narrowed_kept}
use Rattle.rules.proofs.Arrangements.{One, one_has, one_within, Singles, closed_arrangement, arrangement_kept, arrangement_one, arrangement_whole}

-- a closing: it gives the largest closed table inside a table
abbrev pub Closes : Sheet → (List ℕ → List ℕ) → Type 0
Closes s clo = (t : List ℕ) → Table s.boards t → Largest s t (clo t)

-- the tables have the same cells at these places
abbrev pub Agree : List ℕ → List ℕ → List ℕ → Type 0
Agree [] t u = Unit {0}
Agree (k ∷ ks) t u = (get_or t k 0 ≡ get_or u k 0) × Agree ks t u

-- ---- the places

pick_in : (b : Bool) (x : ℕ) → T b → Memᴰ x (elim b [ true ↦ x ∷ [] | false ↦ [] ])
pick_in true x t = Memᴰ.head refl
pick_in false x t = absurd t

all_pick : (P : ℕ → Type 0) (b : Bool) (x : ℕ) → (T b → P x) → All P (elim b [ true ↦ x ∷ [] | false ↦ [] ])
all_pick P true x h = all_one P (h tt)
all_pick P false x h = all_none P

-- the places are the cells (p, q) with p < q
pub places_in : (v p q : ℕ) → p < q → q < v → Memᴰ (v * p + q) (places v)
unfolding places
places_in v p q h k =
    let P : ℕ → Type 0 = λ x. Memᴰ x (places v) in
    let hp : p < v = omega arith in
    over_all P _ (up_to v) (over_all P _ (up_to v) (λ x m. m) p (up_to_in hp)) q (up_to_in k) (v * p + q)
    (pick_in (ltb p q) (v * p + q) (lt→ltb p q h))

pub all_places : (P : ℕ → Type 0) (v : ℕ) → ((p q : ℕ) → p < q → q < v → P (v * p + q)) → All P (places v)
unfolding places
all_places P v h =
    all_over P _ (up_to v)
    (λ p m. all_over P _ (up_to v) (λ q n. all_pick P (ltb p q) (v * p + q) (λ t. h p q (ltb→lt p q t) (up_to_out v q n))))

-- ---- the place of a relation in the order

pub rank_here : (r : ℕ) (rs : List ℕ) (x : ℕ) → T (has x r) → rank (r ∷ rs) x ≡ 0
unfolding rank
rank_here r rs x t = go (has x r) t
  where
    go : (b : Bool) → T b → ◌≡◌ {A = ℕ} (elim b [ true ↦ 0 | false ↦ suc (rank rs x) ]) 0
    go true t = refl
    go false t = absurd t

pub rank_later : (r : ℕ) (rs : List ℕ) (x : ℕ) → T (not (has x r)) → rank (r ∷ rs) x ≡ suc (rank rs x)
unfolding rank
rank_later r rs x t = go (has x r) t
  where
    go : (b : Bool) → T (not b) → ◌≡◌ {A = ℕ} (elim b [ true ↦ 0 | false ↦ suc (rank rs x) ]) (suc (rank rs x))
    go true t = absurd t
    go false t = refl

-- two single relations within a set of at most one are the same
one_same : {x y z : ℕ} → One x → One y → x lies_within z → y lies_within z → size z ≤ 1 → x ≡ y
one_same {x} {y} {z} o n s t h =
    let e : size x ≡ 1 = ap size o.2 ∙ size_single o.0 o.1 in
    let b : z lies_within x = size_tight s (omega arith) in
    let c : 2 ^ n.0 lies_within x = subst (λ (w : ℕ). w lies_within x) n.2 (lies_trans t b) in
    one_has o n.0 (lies_single n.1 c) ∙ sym n.2

-- ---- what is right

module _ {s : Sheet} (f : WellFormed s) {clo : List ℕ → List ℕ} (closes : Closes s clo) (ord : List ℕ) where
  -- w comes before u in the order of these cells, or they agree in them
  abbrev pub AtMost : List ℕ → List ℕ → List ℕ → Type 0
  AtMost ks w u = Before ord ks w u ⊎ Agree ks w u

  -- what the search may say of the arrangements inside t, going by these places
  abbrev pub Right : List ℕ → List ℕ → End → Type 0
  Right ks t (found n w) = Arrangement s w × Inside w t × ((u : List ℕ) → Arrangement s u → Inside u t → AtMost ks w u)
  Right ks t (none n) = (u : List ℕ) → Arrangement s u → Inside u t → ⊥

  -- a closed table that is single but for these places
  record Ready (ks t : List ℕ) : Type 0 where
    table : Table s.boards t
    closed : Closed s t
    whole : T (not (emptied t))
    settled : (p q : ℕ) → p < q → q < s.boards → Memᴰ (s.boards * p + q) ks ⊎ (size (at s t p q) ≤ 1)

  -- ---- where no choice is left

  module _ {t : List ℕ} (r : Ready [] t) where
    filled : (p q : ℕ) → p < s.boards → q < s.boards → at s t p q ≡ 0 → ⊥
    filled p q hp hq e =
        T_not (emptied t) r.whole
        (emptied_in t (s.boards * p + q) (subst (λ (n : ℕ). s.boards * p + q < n) (sym r.table.cells) (in_range_lem s.boards p q hp hq)) e)

    upper : (p q : ℕ) → p < q → q < s.boards → One (at s t p q)
    upper p q h hq = from (r.settled p q h hq)
      where
        from : Memᴰ (s.boards * p + q) [] ⊎ (size (at s t p q) ≤ 1) → One (at s t p q)
        from (inl m) = absurd (Memᴰ.not-nil m)
        from (inr l) =
            let m = some_member (r.table.small (s.boards * p + q)) (filled p q (omega arith) hq) in
            let b : 0 < size (at s t p q) = size_pos (at s t p q) m.0 m.1 m.2 in
            size_one (at s t p q) (r.table.small (s.boards * p + q)) (omega arith)

    lower : (p q : ℕ) → q < p → p < s.boards → One (at s t p q)
    lower p q h hp =
        let o = upper q p h hp in
        let hq : q < s.boards = omega arith in
        (opposite o.0, opposite_small o.0 o.1, r.closed.rule2 q p hq hp ∙ ap converse o.2 ∙ converse_single o.0 o.1)

    middle : (p q : ℕ) → p ≡ q → p < s.boards → One (at s t p q)
    middle p q e hp =
        let z : 0 < relations = omega (arith, relations_pos) in
        let hq : q < s.boards = omega arith in (
          0,
          z,
          lies_one 0 (r.table.small (s.boards * p + q)) z
              (subst (λ (x : ℕ). at s t p x lies_within E) e (r.closed.rule1 p hp)) (filled p q hp hq),
        )

    singles : Singles s t
    singles p q hp hq =
        ⊎_elim (λ l. upper p q l hq) (λ d. ⊎_elim (λ l. lower p q l hp) (λ e. middle p q e hp) d) (order_cases p q)

    ready_arrangement : Arrangement s t
    ready_arrangement = closed_arrangement f r.table r.closed singles

  -- ---- closing, and going on

  module _ (ks : List ℕ) (go : List ℕ → End) (goes : (u : List ℕ) → Ready ks u → Right ks u (go u)) where
    right_up : {t u : List ℕ} → Largest s t u → (e : End) → Right ks u e → Right ks t e
    right_up l (found n w) r = (r.0, inside_trans r.1 l.inside, λ x a i. r.2 x a (arrangement_kept f l a i))
    right_up l (none n) r = λ x a i. r x a (arrangement_kept f l a i)

    proceed_right : (t : List ℕ) → Table s.boards t
        → ((p q : ℕ) → p < q → q < s.boards → Memᴰ (s.boards * p + q) ks ⊎ (size (at s (clo t) p q) ≤ 1))
        → Right ks t (proceed go (clo t))
    proceed_right t h d = from (emptied (clo t)) refl
      where
        from : (b : Bool) → emptied (clo t) ≡ b → Right ks t (elim b [ true ↦ none 0 | false ↦ go (clo t) ])
        from true e =
            λ x a i. arrangement_whole a (emptied_inside a.table (arrangement_kept f (closes t h) a i) (true_T e))
        from false e =
            right_up (closes t h) (go (clo t))
            (goes (clo t)
            (record {
              table = (closes t h).table;
              closed = (closes t h).closed;
              whole = subst (λ (b : Bool). T (not b)) (sym e) tt;
              settled = d;
            }))

  -- ---- the tries

  -- w comes before u at place k by the relations rs, or they agree there and w is at most u in the places after
  abbrev First : List ℕ → ℕ → List ℕ → List ℕ → List ℕ → Type 0
  First rs k ks w u = (rank rs (get_or w k 0) < rank rs (get_or u k 0)) ⊎ ((get_or w k 0 ≡ get_or u k 0) × AtMost ks w u)

  -- what the tries may say of the arrangements inside t with one of the relations rs at place k
  abbrev Best : List ℕ → ℕ → List ℕ → List ℕ → End → Type 0
  Best rs k ks t (found n w) = Arrangement s w × Inside w t × ((u : List ℕ) → Arrangement s u → Inside u t → First rs k ks w u)
  Best rs k ks t (none n) = (u : List ℕ) → Arrangement s u → Inside u t → (r : ℕ) → Memᴰ r rs → T (has (get_or u k 0) r) → ⊥

  best_later : (rs : List ℕ) (k : ℕ) (ks t : List ℕ) (n : ℕ) (e : End) → Best rs k ks t e → Best rs k ks t (later n e)
  best_later rs k ks t n (found m w) b = b
  best_later rs k ks t n (none m) b = b

  -- a relation that no arrangement inside t has at place k makes no difference
  Without : ℕ → ℕ → List ℕ → Type 0
  Without r k t = (u : List ℕ) → Arrangement s u → Inside u t → T (has (get_or u k 0) r) → ⊥

  best_skip : (r : ℕ) (rs : List ℕ) (k : ℕ) (ks t : List ℕ) → Without r k t → (e : End) → Best rs k ks t e → Best (r ∷ rs) k ks t e
  unfolding Without
  best_skip r rs k ks t out (found n w) b = (b.0, b.1, λ u a i. lift u a i (b.2 u a i))
    where
      skipped : (u : List ℕ) → Arrangement s u → Inside u t → rank (r ∷ rs) (get_or u k 0) ≡ suc (rank rs (get_or u k 0))
      skipped u a i = rank_later r rs (get_or u k 0) (not_T (has (get_or u k 0) r) (out u a i))

      lift : (u : List ℕ) → Arrangement s u → Inside u t → First rs k ks w u → First (r ∷ rs) k ks w u
      lift u a i (inl l) = inl (omega (arith, skipped u a i, skipped w b.0 b.1))
      lift u a i (inr d) = inr d
  best_skip r rs k ks t out (none n) b =
      λ u a i x m h.
      ⊎_elim (λ (e : x ≡ r). out u a i (subst (λ (y : ℕ). T (has (get_or u k 0) y)) e h)) (λ d. b u a i x d h) (Memᴰ.cases_cons m)

  module _ (k : ℕ) (ks : List ℕ) (valid : k < s.boards * s.boards) (go : List ℕ → End) (goes : (u : List ℕ) → Ready ks u → Right ks u (go u))
      (t : List ℕ) (ready : Ready (k ∷ ks) t)
    where
      in_list : k < length t
      in_list = subst (λ (n : ℕ). k < n) (sym ready.table.cells) valid

      module _ (r : ℕ) (member : T (has (get_or t k 0) r)) where
        -- an arrangement with r at place k is inside the narrowed table
        held : {u : List ℕ} → Arrangement s u → Inside u t → T (has (get_or u k 0) r) → Inside u (set t k (2 ^ r))
        held {u} a i h =
            record {
              cells = i.cells ∙ sym (length-set t k (2 ^ r));
              each =
                  set_each (λ j x. get_or u j 0 lies_within x) t k (2 ^ r) i.each
                  (subst (λ (x : ℕ). get_or u k 0 lies_within x) (one_has (arrangement_one a k valid) r h) (lies_refl (get_or u k 0)));
            }

        settled : (p q : ℕ) → p < q → q < s.boards
            → Memᴰ (s.boards * p + q) ks ⊎ (size (at s (clo (set t k (2 ^ r))) p q) ≤ 1)
        settled p q h l = from (ready.settled p q h l)
          where
            inner : Inside (clo (set t k (2 ^ r))) (set t k (2 ^ r))
            inner = (closes (set t k (2 ^ r)) (narrowed_table ready.table k r member)).inside

            from : Memᴰ (s.boards * p + q) (k ∷ ks) ⊎ (size (at s t p q) ≤ 1)
                → Memᴰ (s.boards * p + q) ks ⊎ (size (at s (clo (set t k (2 ^ r))) p q) ≤ 1)
            from (inl m) =
                ⊎_elim
                (λ (e : s.boards * p + q ≡ k).
                inr
                (subst (λ (j : ℕ). size (get_or (clo (set t k (2 ^ r))) j 0) ≤ 1) (sym e) (narrowed_one ready.table k r member inner in_list)))
                (λ d. inl d) (Memᴰ.cases_cons m)
            from (inr d) = inr (narrowed_kept ready.table k r member inner (s.boards * p + q) d)

        try_right : Right ks (set t k (2 ^ r)) (proceed go (clo (set t k (2 ^ r))))
        try_right = proceed_right ks go goes (set t k (2 ^ r)) (narrowed_table ready.table k r member) settled

        -- a try that finds: everything else at place k comes later, or the place agrees
        try_found : (rs : List ℕ) (n m : ℕ) (w : List ℕ) → Right ks (set t k (2 ^ r)) (found n w) → Best (r ∷ rs) k ks t (found m w)
        try_found rs n m w d = (d.0, inside_trans d.1 (narrowed_inside ready.table k r member), first)
          where
            mine : T (has (get_or w k 0) r)
            mine =
                let o = arrangement_one d.0 k valid in
                subst (λ (x : ℕ). T (has x r)) (sym (one_within o r (narrowed_at ready.table k r member d.1 in_list))) (has_single r)

            first : (u : List ℕ) → Arrangement s u → Inside u t → First (r ∷ rs) k ks w u
            first u a i = ⊎_elim same other (T-decide (has (get_or u k 0) r))
              where
                same : T (has (get_or u k 0) r) → First (r ∷ rs) k ks w u
                same h =
                    inr (
                      one_has (arrangement_one d.0 k valid) r mine ∙ sym (one_has (arrangement_one a k valid) r h),
                      d.2 u a (held a i h),
                    )

                other : T (not (has (get_or u k 0) r)) → First (r ∷ rs) k ks w u
                other h = inl (omega (arith, rank_here r rs (get_or w k 0) mine, rank_later r rs (get_or u k 0) h))

        try_none : (n : ℕ) → Right ks (set t k (2 ^ r)) (none n) → Without r k t
        unfolding Without
        try_none n d u a i h = d u a (held a i h)

      attempt_best : (rs : List ℕ) → Best rs k ks t (attempt clo go k t rs)
      unfolding attempt Without
      attempt_best [] = λ u a i r m h. Memᴰ.not-nil m
      attempt_best (r ∷ rs) = from (has (get_or t k 0) r) refl (attempt_best rs)
        where
          out : has (get_or t k 0) r ≡ false → Without r k t
          out e u a i h = subst T e ((i.each k).member r (has_small relations (get_or u k 0) r (a.table.small k) h) h)

          tried : T (has (get_or t k 0) r) → (e : End) → Right ks (set t k (2 ^ r)) e → Best rs k ks t (attempt clo go k t rs)
              → Best (r ∷ rs) k ks t (or_else e (attempt clo go k t rs))
          tried h (found n w) d b = try_found r h rs n (suc n) w d
          tried h (none n) d b =
              best_later (r ∷ rs) k ks t (suc n) (attempt clo go k t rs)
              (best_skip r rs k ks t (try_none r h n d) (attempt clo go k t rs) b)

          from : (b : Bool) → has (get_or t k 0) r ≡ b → Best rs k ks t (attempt clo go k t rs)
              → Best (r ∷ rs) k ks t (elim b [ true ↦ or_else (proceed go (clo (set t k (2 ^ r)))) (attempt clo go k t rs) | false ↦ attempt clo go k t rs ])
          from true e b = tried (true_T e) (proceed go (clo (set t k (2 ^ r)))) (try_right r (true_T e)) b
          from false e b = best_skip r rs k ks t (out e) (attempt clo go k t rs) b

  -- ---- the choices

  module _ (order : Order ord) where
    -- tries in the whole order say what is right of the place and those after it
    best_right : (k : ℕ) → k < s.boards * s.boards → (ks t : List ℕ) (e : End) → Best ord k ks t e → Right (k ∷ ks) t e
    unfolding Before
    best_right k h ks t (found n w) b = (b.0, b.1, λ u a i. from u (b.2 u a i))
      where
        from : (u : List ℕ) → First ord k ks w u → AtMost (k ∷ ks) w u
        from u (inl l) = inl (inl l)
        from u (inr d) = ⊎_elim (λ g. inl (inr (d.0, g))) (λ g. inr (d.0, g)) d.1
    best_right k h ks t (none n) b =
        λ u a i.
        let o = arrangement_one a k h in
        b u a i o.0 (order.each o.0 o.1) (subst (λ (x : ℕ). T (has x o.0)) (sym o.2) (has_single o.0))

    -- a place that is single already is passed over
    pass_right : (k : ℕ) → k < s.boards * s.boards → (ks t : List ℕ) → size (get_or t k 0) ≤ 1 → (e : End) → Right ks t e → Right (k ∷ ks) t e
    unfolding Before
    pass_right k h ks t l (found n w) d = (d.0, d.1, λ u a i. from u a i (d.2 u a i))
      where
        from : (u : List ℕ) → Arrangement s u → Inside u t → AtMost ks w u → AtMost (k ∷ ks) w u
        from u a i g =
            let e = one_same (arrangement_one d.0 k h) (arrangement_one a k h) (d.1.each k) (i.each k) l in
            ⊎_elim (λ b. inl (inr (e, b))) (λ b. inr (e, b)) g
    pass_right k h ks t l (none n) d = d

    choose_right : (ks : List ℕ) → All (λ k. k < s.boards * s.boards) ks → (t : List ℕ) → Ready ks t → Right ks t (choose clo ord ks t)
    unfolding choose
    choose_right [] v t r = (ready_arrangement r, inside_refl t, λ u a i. inr tt)
    choose_right (k ∷ ks) v t r =
        from (ltb 1 (size (get_or t k 0))) refl (λ u g. choose_right ks (λ j m. v j (Memᴰ.tail m)) u g)
      where
        valid : k < s.boards * s.boards
        valid = v k (Memᴰ.head refl)

        next : size (get_or t k 0) ≤ 1 → Ready ks t
        next l = record { table = r.table; closed = r.closed; whole = r.whole; settled = λ p q h g. on p q (r.settled p q h g) }
          where
            on : (p q : ℕ) → Memᴰ (s.boards * p + q) (k ∷ ks) ⊎ (size (at s t p q) ≤ 1)
                → Memᴰ (s.boards * p + q) ks ⊎ (size (at s t p q) ≤ 1)
            on p q (inl m) =
                ⊎_elim (λ (e : s.boards * p + q ≡ k). inr (subst (λ (j : ℕ). size (get_or t j 0) ≤ 1) (sym e) l)) (λ d. inl d) (Memᴰ.cases_cons m)
            on p q (inr d) = inr d

        from : (b : Bool) → ltb 1 (size (get_or t k 0)) ≡ b → ((u : List ℕ) → Ready ks u → Right ks u (choose clo ord ks u))
            → Right (k ∷ ks) t (elim b [ true ↦ attempt clo (λ u. choose clo ord ks u) k t ord | false ↦ choose clo ord ks t ])
        from true e g =
            best_right k valid ks t (attempt clo (λ u. choose clo ord ks u) k t ord)
            (attempt_best k ks valid (λ u. choose clo ord ks u) g t r ord)
        from false e g =
            let l : size (get_or t k 0) ≤ 1 = nltb→le 1 (size (get_or t k 0)) (subst (λ (b : Bool). T (not b)) (sym e) tt) in
            pass_right k valid ks t l (choose clo ord ks t) (g t (next l))

    -- ---- the search

    pub places_valid : All (λ k. k < s.boards * s.boards) (places s.boards)
    places_valid = all_places (λ k. k < s.boards * s.boards) s.boards (λ p q h l. in_range_lem s.boards p q (omega arith) l)

    pub search_right : (t : List ℕ) → Table s.boards t → Right (places s.boards) t (search clo ord s.boards t)
    unfolding search
    search_right t h =
        proceed_right (places s.boards) (λ u. choose clo ord (places s.boards) u) (λ u r. choose_right (places s.boards) places_valid u r) t h
        (λ p q a b. inl (places_in s.boards p q a b))
