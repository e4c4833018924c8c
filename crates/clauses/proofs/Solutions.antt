-- A solution of the published constraints is an arrangement: the choice variables decide the sets of each board, these are the row sets of the table
-- that the choice variables say, and the table keeps rules 1 to 7. Assumes nothing.
use mathlib.Core.Path.{◌≡◌, refl, sym, ap, ap₂, ◌∙◌, subst}
use mathlib.Core.Bool.{Bool, ◌&&◌, ◌||◌}
use mathlib.Core.Logic.{◌⊎◌, inl, inr, ⊎_elim}
use mathlib.Core.List.Memᴰ
use mathlib.Core.List.{List, map, Memᴰ}
use Prim.Native.Nat.{ℕ, zero, suc, ◌-◌, ◌^◌, ◌<◌}
use native.Mathlib.Nat.{suc_inj}
use native.Mathlib.Omega.{arith}
use lib.Dec.{T, eqb, eqb→eq, eqb_refl}
use lib.ListN.{length, get_or, length-map}
use Rattle.rules.specs.Relations.{relations, below, set_limit, E, A, B, S, has, ◌lies_within◌, opposite, converse, composed, compose}
use Rattle.rules.specs.Expressions.{denoted}
use Rattle.rules.specs.Descriptions.{RelationLine, KindLine, WellFormed}
use Rattle.rules.specs.Tables.{cell}
use Rattle.rules.specs.Arrangements.{way, width, Alike, Arrangement}
use Rattle.rules.proofs.Tests.{T_true, T_false, T-ext, T-or, and_T}
use Rattle.rules.proofs.Members.{at_map}
use Rattle.rules.proofs.Digits.{has_single, single_has}
use Rattle.rules.proofs.Sets.{single_lies, single_small}
use Rattle.rules.proofs.Composition.{compose_in, converse_single}
use Rattle.rules.proofs.Arrangements.{One, panel, fed}
use Rattle.boards.proofs.Made.{made, made_table, made_cell}
use Rattle.boards.proofs.Order.{one_of_four}
use Rattle.clauses.specs.Clauses.{Formula, Description, line, sheet, Boards, Term, Nodes, DisjointUnion, values, Clause18, Clause20, Published, Chooses, Rows}
use Rattle.clauses.proofs.Values.{values_denoted}
use Rattle.clauses.proofs.Unions.{union_of_two, union_covered, union_part, union_apart}
use Rattle.clauses.proofs.Links.{leads, carried, over, under, united, hung, parted, same_links, above_links, below_links, side_links, back_links}

-- ---- what the choice variables decide

module _ {this that : Type 0} (c d : ℕ) where
  -- this or that, by the choice variable: a test that passes in the one case and not in the other
  decided : (b : Bool) → (this × (d ≡ c)) ⊎ ((d ≡ c → ⊥) × that) → (this → T b) → (that → T b → ⊥) → b ≡ eqb d c
  decided b (inl m) f g = T_true (f m.0) ∙ sym (T_true (subst (λ (e : ℕ). T (eqb e c)) (sym m.1) (eqb_refl c)))
  decided b (inr m) f g = T_false (g m.1) ∙ sym (T_false (λ t. m.0 (eqb→eq d c t)))

  -- the choice variable is c, so this holds
  taken : (this × (d ≡ c)) ⊎ ((d ≡ c → ⊥) × that) → d ≡ c → this
  taken (inl m) e = m.0
  taken (inr m) e = absurd (m.0 e)

module _ {φ : Description} {N : Nodes} {C : ℕ → ℕ → ℕ} (P : Published φ N C) where
  -- a board is at or below itself, and at or above itself
  own_eqdown : (y : ℕ) → y < φ.boards → T (N.eqdown (N.node y) y)
  own_eqdown y h = let o = P.tree.each y h in o.clause9.parts 0 (omega arith) y h o.clause11

  own_equp : (y : ℕ) → y < φ.boards → T (N.equp (N.node y) y)
  own_equp y h = let o = P.tree.each y h in o.clause10.parts 0 (omega arith) y h o.clause11

  module _ (x y : ℕ) (hx : x < φ.boards) (hy : y < φ.boards) where
    own : T (N.eq (N.node y) y)
    own = (P.tree.each y hy).clause11

    eq_chosen : N.eq (N.node x) y ≡ eqb (C x y) 1
    eq_chosen =
        decided 1 (C x y) (N.eq (N.node x) y) (P.tree.pairs x y hx hy).clause12 (λ e. subst (λ (n : ℕ). T (N.eq n y)) (sym e) own)
        (λ d t. d y hy t own)

    down_chosen : N.down (N.node x) y ≡ eqb (C x y) 2
    down_chosen =
        decided 2 (C x y) (N.down (N.node x) y) (P.tree.pairs x y hx hy).clause13 (λ a. a.downwards y hy (own_eqdown y hy))
        (λ n t. n.downwards y hy t own)

    up_chosen : N.up (N.node x) y ≡ eqb (C x y) 3
    up_chosen =
        decided 3 (C x y) (N.up (N.node x) y) (P.tree.pairs x y hx hy).clause14 (λ a. a.upwards y hy (own_equp y hy))
        (λ n t. n.upwards y hy own t)

    side_chosen : N.side (N.node x) y ≡ eqb (C x y) 4
    side_chosen =
        decided 4 (C x y) (N.side (N.node x) y) (P.tree.pairs x y hx hy).clause15 (λ a. a.back y hy (own_eqdown y hy))
        (λ n t. n.back y hy own t)

    module _ {t : List ℕ} (H : Chooses φ.boards C t) where
      -- the choice variable is that of relation i exactly if the cell is
      said : (i : ℕ) → eqb (C x y) (suc i) ≡ eqb (cell φ.boards t x y) (2 ^ i)
      said i = T-ext (eqb (C x y) (suc i)) (eqb (cell φ.boards t x y) (2 ^ i)) there back
        where
          there : T (eqb (C x y) (suc i)) → T (eqb (cell φ.boards t x y) (2 ^ i))
          there g =
              let o = H.each x y hx hy in
              let e : suc o.0 ≡ suc i = sym o.3 ∙ eqb→eq (C x y) (suc i) g in
              subst (λ (c : ℕ). T (eqb c (2 ^ i))) (sym (o.2 ∙ ap (λ (n : ℕ). 2 ^ n) (suc_inj e))) (eqb_refl (2 ^ i))

          back : T (eqb (cell φ.boards t x y) (2 ^ i)) → T (eqb (C x y) (suc i))
          back g =
              let o = H.each x y hx hy in
              let e : 2 ^ o.0 ≡ 2 ^ i = sym o.2 ∙ eqb→eq (cell φ.boards t x y) (2 ^ i) g in
              let d : o.0 ≡ i = single_has i o.0 (subst (λ (c : ℕ). T (has c o.0)) e (has_single o.0)) in
              subst (λ (c : ℕ). T (eqb c (suc i))) (sym (o.3 ∙ ap suc d)) (eqb_refl (suc i))

  -- the sets of a board are those of its row
  pub published_rows : {t : List ℕ} → Chooses φ.boards C t → Rows φ.boards N t
  published_rows {t} H =
      record {
        eq = eq;
        up = up;
        down = down;
        side = λ x y hx hy. side_chosen x y hx hy ∙ said x y hx hy H 3;
        eqdown = λ x y hx hy. union_of_two (P.tree.each x hx).clause9 y hy ∙ ap₂ ◌||◌ (eq x y hx hy) (down x y hx hy);
        equp = λ x y hx hy. union_of_two (P.tree.each x hx).clause10 y hy ∙ ap₂ ◌||◌ (eq x y hx hy) (up x y hx hy);
      }
    where
      eq : (x y : ℕ) → x < φ.boards → y < φ.boards → N.eq (N.node x) y ≡ eqb (cell φ.boards t x y) E
      eq x y hx hy = eq_chosen x y hx hy ∙ said x y hx hy H 0

      up : (x y : ℕ) → x < φ.boards → y < φ.boards → N.up (N.node x) y ≡ eqb (cell φ.boards t x y) B
      up x y hx hy = up_chosen x y hx hy ∙ said x y hx hy H 2

      down : (x y : ℕ) → x < φ.boards → y < φ.boards → N.down (N.node x) y ≡ eqb (cell φ.boards t x y) A
      down x y hx hy = down_chosen x y hx hy ∙ said x y hx hy H 1

-- ---- a solution is an arrangement

-- a single relation that is neither same nor above, nor below, is side
side_left : {x : ℕ} → One x → (T (eqb x E || eqb x A) → ⊥) → (x ≡ B → ⊥) → x ≡ S
side_left {x} o f g = by (one_of_four x o)
  where
    by : (x ≡ E) ⊎ ((x ≡ A) ⊎ ((x ≡ B) ⊎ (x ≡ S))) → x ≡ S
    by (inl e) = absurd (f (subst (λ (c : ℕ). T (eqb c E || eqb c A)) (sym e) tt))
    by (inr (inl e)) = absurd (f (subst (λ (c : ℕ). T (eqb c E || eqb c A)) (sym e) tt))
    by (inr (inr (inl e))) = absurd (g e)
    by (inr (inr (inr e))) = e

module _ {φ : Description} (W : WellFormed (sheet φ)) {N : Nodes} {C : ℕ → ℕ → ℕ} (P : Published φ N C)
    {t : List ℕ} (H : Chooses φ.boards C t)
  where
    rows : Rows φ.boards N t
    rows = published_rows P H

    one : (p q : ℕ) → p < φ.boards → q < φ.boards → One (cell φ.boards t p q)
    one p q hp hq = let o = H.each p q hp hq in (o.0, o.1, o.2)

    -- boards with one node are the same
    one_board_lem : (x y : ℕ) → x < φ.boards → y < φ.boards → N.node x ≡ N.node y → cell φ.boards t x y ≡ E
    one_board_lem x y hx hy e =
        eqb→eq _ E (subst T (rows.eq x y hx hy) (subst (λ (n : ℕ). T (N.eq n y)) (sym e) (P.tree.each y hy).clause11))

    keeps1 : (p : ℕ) → p < φ.boards → cell φ.boards t p p ≡ E
    keeps1 p h = one_board_lem p p h h refl

    -- the sets of board x that hold board z, by the relation n from x to z
    module _ (x z : ℕ) (hx : x < φ.boards) (hz : z < φ.boards) (n : ℕ) (e : cell φ.boards t x z ≡ 2 ^ n) where
      in_eq : N.eq (N.node x) z ≡ eqb (2 ^ n) E
      in_eq = rows.eq x z hx hz ∙ ap (λ (c : ℕ). eqb c E) e

      in_down : N.down (N.node x) z ≡ eqb (2 ^ n) A
      in_down = rows.down x z hx hz ∙ ap (λ (c : ℕ). eqb c A) e

      in_up : N.up (N.node x) z ≡ eqb (2 ^ n) B
      in_up = rows.up x z hx hz ∙ ap (λ (c : ℕ). eqb c B) e

      in_side : N.side (N.node x) z ≡ eqb (2 ^ n) S
      in_side = rows.side x z hx hz ∙ ap (λ (c : ℕ). eqb c S) e

      in_eqdown : N.eqdown (N.node x) z ≡ over n
      in_eqdown = rows.eqdown x z hx hz ∙ ap (λ (c : ℕ). eqb c E || eqb c A) e

      in_equp : N.equp (N.node x) z ≡ under n
      in_equp = rows.equp x z hx hz ∙ ap (λ (c : ℕ). eqb c E || eqb c B) e

    -- boards x, y and z: the relations k from x to z, and j from y to z
    module _ (x y z : ℕ) (hx : x < φ.boards) (hy : y < φ.boards) (hz : z < φ.boards) (j k : ℕ)
        (ej : cell φ.boards t y z ≡ 2 ^ j) (ek : cell φ.boards t x z ≡ 2 ^ k)
      where
        one_node : N.node x ≡ N.node y → T (united j k)
        one_node e =
            and_T (leads (eqb (2 ^ j) E) (eqb (2 ^ k) E) && leads (eqb (2 ^ j) A) (eqb (2 ^ k) A) && leads (eqb (2 ^ j) B) (eqb (2 ^ k) B)) _
            (and_T (leads (eqb (2 ^ j) E) (eqb (2 ^ k) E) && leads (eqb (2 ^ j) A) (eqb (2 ^ k) A)) _
            (and_T (leads (eqb (2 ^ j) E) (eqb (2 ^ k) E)) _
            (carried (in_eq y z hy hz j ej) (in_eq x z hx hz k ek) (subst (λ (n : ℕ). T (N.eq n z)) (sym e)))
            (carried (in_down y z hy hz j ej) (in_down x z hx hz k ek) (subst (λ (n : ℕ). T (N.down n z)) (sym e))))
            (carried (in_up y z hy hz j ej) (in_up x z hx hz k ek) (subst (λ (n : ℕ). T (N.up n z)) (sym e))))
            (carried (in_side y z hy hz j ej) (in_side x z hx hz k ek) (subst (λ (n : ℕ). T (N.side n z)) (sym e)))

        one_above : Clause18 φ.boards N C x y → T (hung j k)
        one_above c =
            and_T (leads (over j) (eqb (2 ^ k) A) && leads (under k) (eqb (2 ^ j) B)) _
            (and_T (leads (over j) (eqb (2 ^ k) A)) _
            (carried (in_eqdown y z hy hz j ej) (in_down x z hx hz k ek) (c.downwards z hz))
            (carried (in_equp x z hx hz k ek) (in_up y z hy hz j ej) (c.upwards z hz)))
            (carried (in_side x z hx hz k ek) (in_side y z hy hz j ej) (c.sidewards z hz))

        one_beside : Clause20 φ.boards N C x y → T (parted j k)
        one_beside c =
            and_T (leads (over k) (eqb (2 ^ j) S)) _
            (carried (in_eqdown x z hx hz k ek) (in_side y z hy hz j ej) (c.there z hz))
            (carried (in_eqdown y z hy hz j ej) (in_side x z hx hz k ek) (c.back z hz))

    module _ (p q r : ℕ) (hp : p < φ.boards) (hq : q < φ.boards) (hr : r < φ.boards) where
      -- the relation from p to r is one that the relations from p to q and from q to r allow
      linked : (i j k : ℕ) → i < relations → j < relations → k < relations → C p q ≡ suc i → cell φ.boards t q r ≡ 2 ^ j
          → cell φ.boards t p r ≡ 2 ^ k → T (has (composed i j) k)
      unfolding relations
      linked zero j k h hj hk e ej ek =
          same_links j k hj hk (one_node p q r hp hq hr j k ej ek (taken 1 (C p q) (P.tree.pairs p q hp hq).clause12 e))
      linked (suc zero) j k h hj hk e ej ek =
          above_links j k hj hk (one_above p q r hp hq hr j k ej ek (taken 2 (C p q) (P.tree.pairs p q hp hq).clause13 e))
      linked (suc (suc zero)) j k h hj hk e ej ek =
          below_links j k hj hk (one_above q p r hq hp hr k j ek ej (taken 3 (C p q) (P.tree.pairs p q hp hq).clause14 e))
      linked (suc (suc (suc zero))) j k h hj hk e ej ek =
          side_links j k hj hk (one_beside p q r hp hq hr j k ej ek (taken 4 (C p q) (P.tree.pairs p q hp hq).clause15 e))
      linked (suc (suc (suc (suc i)))) j k h hj hk e ej ek = let z : ⊥ = omega arith in absurd z

      keeps3 : cell φ.boards t p r lies_within compose (cell φ.boards t p q) (cell φ.boards t q r)
      keeps3 =
          let a = H.each p q hp hq in
          let b = H.each q r hq hr in
          let c = H.each p r hp hr in
          subst (λ (x : ℕ). x lies_within compose (cell φ.boards t p q) (cell φ.boards t q r)) (sym c.2)
          (single_lies c.0 _
          (compose_in _ _ a.0 b.0 c.0 a.1 b.1 c.1 (subst (λ (x : ℕ). T (has x a.0)) (sym a.2) (has_single a.0))
          (subst (λ (x : ℕ). T (has x b.0)) (sym b.2) (has_single b.0))
          (linked a.0 b.0 c.0 a.1 b.1 c.1 a.3 b.2 c.2)))

    keeps2 : (p q : ℕ) → p < φ.boards → q < φ.boards → cell φ.boards t q p ≡ converse (cell φ.boards t p q)
    keeps2 p q hp hq =
        let a = H.each p q hp hq in
        let b = H.each q p hq hp in
        let i : a.0 < relations = a.1 in
        let e : b.0 ≡ opposite a.0 =
        eqb→eq b.0 (opposite a.0)
        (back_links a.0 b.0 a.1 b.1
        (linked p q p hp hq hp a.0 b.0 0 a.1 b.1 (omega arith) a.3 b.2 (keeps1 p hp))) in
        b.2 ∙ ap (λ (n : ℕ). 2 ^ n) e ∙ sym (converse_single a.0 a.1) ∙ ap converse (sym a.2)

    keeps4 : (l : RelationLine) → Memᴰ l (map line φ.formulas) → cell φ.boards t l.p l.q lies_within l.allowed
    keeps4 l m = from (Memᴰ.of_map line φ.formulas m)
      where
        from : (f : Formula) × Memᴰ f φ.formulas × (line f ≡ l) → cell φ.boards t l.p l.q lies_within l.allowed
        from (f, n, e) =
            let b = W.lines.1 (line f) (Memᴰ.map line n) in
            let a = H.each f.x f.y b.0 b.1 in
            subst (λ (l : RelationLine). cell φ.boards t l.p l.q lies_within l.allowed) e
            (subst (λ (x : ℕ). x lies_within denoted f.relation) (sym a.2)
            (single_lies a.0 (denoted f.relation)
            (subst T (ap (values f.relation) a.3 ∙ values_denoted f.relation a.0 a.1) (P.formulas f n))))

    module _ (k : KindLine) (m : Memᴰ k φ.labels) where
      -- the sets at or below a way
      abbrev fan : ℕ → Boards
      fan y = N.eqdown (N.node y)

      ways_union : DisjointUnion φ.boards (N.down (N.node k.p)) (map fan k.ways)
      ways_union = (P.labels k m).downwards

      on : (i : ℕ) → i < width k → way k i < φ.boards
      on i h = fed W k m i h

      keeps5 : (i : ℕ) → i < width k → cell φ.boards t k.p (way k i) ≡ A
      keeps5 i h =
          eqb→eq _ A
          (subst T (rows.down k.p (way k i) (panel W k m) (on i h))
          (union_part fan k.ways ways_union i h (way k i) (on i h) (own_eqdown P (way k i) (on i h))))

      keeps5' : (i j : ℕ) → i < width k → j < width k → (i ≡ j → ⊥) → cell φ.boards t (way k i) (way k j) ≡ S
      unfolding relations opposite
      keeps5' i j h g d =
          side_left (one (way k i) (way k j) (on i h) (on j g)) (clear i j h g d)
          (λ e. clear j i g h (λ b. d (sym b)) (subst (λ (c : ℕ). T (eqb c E || eqb c A)) (sym (back e)) tt))
        where
          -- no way is at or below another
          clear : (i j : ℕ) → i < width k → j < width k → (i ≡ j → ⊥)
              → T (eqb (cell φ.boards t (way k i) (way k j)) E || eqb (cell φ.boards t (way k i) (way k j)) A) → ⊥
          clear i j h g d e =
              union_apart fan k.ways ways_union i j h g d (way k j) (on j g)
              (subst T (sym (rows.eqdown (way k i) (way k j) (on i h) (on j g))) e) (own_eqdown P (way k j) (on j g))

          back : cell φ.boards t (way k i) (way k j) ≡ B → cell φ.boards t (way k j) (way k i) ≡ A
          back e = keeps2 (way k i) (way k j) (on i h) (on j g) ∙ ap converse e ∙ converse_single below (omega arith)

      keeps6 : (z : ℕ) → z < φ.boards → cell φ.boards t k.p z ≡ A
          → (i : ℕ) × (i < width k) × ((cell φ.boards t (way k i) z ≡ E) ⊎ (cell φ.boards t (way k i) z ≡ A))
      keeps6 z h e =
          from
          (union_covered fan k.ways ways_union z h
          (subst T (sym (rows.down k.p z (panel W k m) h)) (subst (λ (c : ℕ). T (eqb c A)) (sym e) tt)))
        where
          from : (i : ℕ) × (i < width k) × T (N.eqdown (N.node (way k i)) z)
              → (i : ℕ) × (i < width k) × ((cell φ.boards t (way k i) z ≡ E) ⊎ (cell φ.boards t (way k i) z ≡ A))
          from (i, l, s) = (
            i,
            l,
            ⊎_elim (λ d. inl (eqb→eq _ E d)) (λ d. inr (eqb→eq _ A d))
                (T-or (eqb (cell φ.boards t (way k i) z) E) (eqb (cell φ.boards t (way k i) z) A)
                (subst T (rows.eqdown (way k i) z (on i l) h) s)),
          )

    keeps7 : (k l : KindLine) → Memᴰ k φ.labels → Memᴰ l φ.labels → cell φ.boards t k.p l.p ≡ E
        → Alike k l × ((i : ℕ) → i < width k → cell φ.boards t (way k i) (way l i) ≡ E)
    keeps7 k l m n e = (
      (ap (λ (a : Term). a.code) terms, widths),
      λ i h. one_board_lem (way k i) (way l i) (fed W k m i h) (fed W l n i (wide i h)) (nodes i h),
    )
      where
        joined : N.node k.p ≡ N.node l.p
        joined =
            taken 1 (C k.p l.p) (P.tree.pairs k.p l.p (panel W k m) (panel W l n)).clause12
            (eqb→eq (C k.p l.p) 1
            (subst T (sym (said P k.p l.p (panel W k m) (panel W l n) H 0)) (subst (λ (c : ℕ). T (eqb c E)) (sym e) tt)))

        term : KindLine → Term
        term k = record { code = k.code; nodes = map N.node k.ways }

        terms : term k ≡ term l
        terms = sym (P.labels k m).label ∙ ap N.label joined ∙ (P.labels l n).label

        widths : width k ≡ width l
        widths = sym (length-map k.ways N.node) ∙ ap (λ (a : Term). length a.nodes) terms ∙ length-map l.ways N.node

        wide : (i : ℕ) → i < width k → i < width l
        wide i h = subst (λ (w : ℕ). i < w) widths h

        nodes : (i : ℕ) → i < width k → N.node (way k i) ≡ N.node (way l i)
        nodes i h =
            sym (at_map N.node k.ways i 0 0 h) ∙ ap (λ (a : Term). get_or a.nodes i 0) terms
            ∙ at_map N.node l.ways i 0 0 (wide i h)

    -- the table that the choice variables of a solution say is an arrangement
    pub published_arrangement : Arrangement (sheet φ) t
    published_arrangement =
        record {
          table = H.table;
          single = one;
          rule1 = keeps1;
          rule2 = keeps2;
          rule3 = keeps3;
          rule4 = keeps4;
          rule5 = keeps5;
          rule5' = keeps5';
          rule6 = keeps6;
          rule7 = keeps7;
        }

-- ---- the table of a solution

-- each solution says a table
pub chooses_some : {φ : Description} {N : Nodes} {C : ℕ → ℕ → ℕ} → Published φ N C → (t : List ℕ) × Chooses φ.boards C t
chooses_some {φ} {C = C} P = (made φ.boards single, record { table = made_table φ.boards single small; each = each })
  where
    single : ℕ → ℕ → ℕ
    single x y = 2 ^ (C x y - 1)

    within : (x y : ℕ) → x < φ.boards → y < φ.boards → C x y - 1 < relations
    within x y hx hy = omega (arith, (P.tree.pairs x y hx hy).choice)

    small : (x y : ℕ) → x < φ.boards → y < φ.boards → 2 ^ (C x y - 1) < set_limit
    small x y hx hy = single_small (within x y hx hy)

    each : (x y : ℕ) → x < φ.boards → y < φ.boards
        → (r : ℕ) × (r < relations) × (cell φ.boards (made φ.boards single) x y ≡ 2 ^ r) × (C x y ≡ suc r)
    each x y hx hy = (C x y - 1, within x y hx hy, made_cell φ.boards single x y hx hy, omega (arith, (P.tree.pairs x y hx hy).choice))
