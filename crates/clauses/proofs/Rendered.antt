-- The arrangements of a description are exactly the tables of the solutions of its published constraints. Boards that are the same share the node of
-- the least of them, whose sets are those of its row. Assumes nothing.
use mathlib.Core.Path.{◌≡◌, refl, sym, ap, ap₂, ◌∙◌, subst}
use mathlib.Core.Bool.{Bool, true, not, ◌||◌}
use mathlib.Core.Logic.{◌⊎◌, inl, inr, ⊎_elim, ◌↔◌}
use mathlib.Core.List.Memᴰ
use mathlib.Core.List.{List, [], ◌∷◌, map, Memᴰ}
use Prim.Native.Nat.{ℕ, suc, ◌^◌, ◌<◌}
use native.Mathlib.Nat.{suc_inj}
use native.Mathlib.Omega.{arith}
use lib.Dec.{T, eqb, ltb, eqb→eq, eqb_refl}
use lib.ListN.{length, get_or, length-map}
use lib.Seq.{ext_get_or}
use Rattle.rules.specs.Relations.{some_of, each_below, count_below, relations, same, above, below, side, E, A, B, S, has, set_to, set_of, within, ◌lies_within◌, opposite, converse, singles, composed, compose}
use Rattle.rules.specs.Expressions.{denoted}
use Rattle.rules.specs.Descriptions.{KindLine, WellFormed}
use Rattle.rules.specs.Tables.{cell}
use Rattle.rules.specs.Arrangements.{way, width, Arrangement}
use Rattle.rules.proofs.Tests.{T-decide, T-differ, each_at}
use Rattle.rules.proofs.Members.{some_of_in, some_of_out, first, first_in, member_at, at_member, at_map}
use Rattle.rules.proofs.Sets.{within_lies, lies_within_lem, lies_eq, lies_trans, lies_single}
use Rattle.rules.proofs.Composition.{converse_mono, compose_mono}
use Rattle.rules.proofs.Arrangements.{One, one_within, panel, fed}
use Rattle.boards.proofs.Order.{one_of_four, turns, same_turned, above_turned, below_turned, same_rows}
use Rattle.boards.proofs.Groups.{chief, chief_board, chief_same, same_chief, chief_equal}
use Rattle.boards.proofs.Panels.{above_way}
use Rattle.boards.proofs.Feeding.{one_feeder}
use Rattle.clauses.specs.Clauses.{Formula, Description, line, sheet, Term, Nodes, Part, Disjoint, DisjointUnion, values, Choice, Clause18, Clause19, Clause20, Clause21, Partitioned, Chosen, Clause32, Published, Chooses, Rows}
use Rattle.clauses.proofs.Values.{values_denoted}
use Rattle.clauses.proofs.Unions.{union_in}
use Rattle.clauses.proofs.Splits.{splits, row, row_split}
use Rattle.clauses.proofs.Solutions.{published_arrangement}

-- ---- single relations

-- the sets of two relations: E or A, and E or B
abbrev at_or_above_lem : ℕ
at_or_above_lem = 3

abbrev at_or_below : ℕ
at_or_below = 5

-- the number of a single relation's choice: as many single relations are smaller numbers, and one more
choice : ℕ → ℕ
choice x = suc (count_below relations (λ r. ltb (2 ^ r) x))

choice_single : (r : ℕ) → r < relations → choice (2 ^ r) ≡ suc r
unfolding relations choice
choice_single r h = eqb→eq (choice (2 ^ r)) (suc r) (each_at relations (λ r. eqb (choice (2 ^ r)) (suc r)) tt r h)

-- what holds of the four single relations holds of each
each_single : (P : ℕ → Type 0) → P E → P A → P B → P S → {x : ℕ} → One x → P x
each_single P e a b s {x} o = by (one_of_four x o)
  where
    by : (x ≡ E) ⊎ ((x ≡ A) ⊎ ((x ≡ B) ⊎ (x ≡ S))) → P x
    by (inl d) = subst P (sym d) e
    by (inr (inl d)) = subst P (sym d) a
    by (inr (inr (inl d))) = subst P (sym d) b
    by (inr (inr (inr d))) = subst P (sym d) s

-- ---- the nodes of an arrangement

module _ (φ : Description) (t : List ℕ) where
  -- no label
  abbrev blank : KindLine
  blank = record { p = 0; code = 0; ways = [] }

  -- the node of a board
  abbrev node : ℕ → ℕ
  node b = chief (sheet φ) t b

  -- a label of node n, and a label that has a way with node n
  abbrev labelled : ℕ → KindLine
  labelled n = first (λ (k : KindLine). eqb (node k.p) n) blank φ.labels

  abbrev feeding : ℕ → KindLine
  feeding n = first (λ (k : KindLine). some_of (λ y. eqb (node y) n) k.ways) blank φ.labels

  -- f(N1, ..., Nn)
  abbrev term : KindLine → Term
  term k = record { code = k.code; nodes = map node k.ways }

  -- the choice variables
  abbrev choices : ℕ → ℕ → ℕ
  choices x y = choice (cell φ.boards t x y)

  nodes : Nodes
  nodes =
      record {
        node = node;
        eq = row φ.boards t E;
        up = row φ.boards t B;
        down = row φ.boards t A;
        side = row φ.boards t S;
        eqdown = row φ.boards t at_or_above_lem;
        equp = row φ.boards t at_or_below;
        label = λ n. term (labelled n);
        parent = λ n. node (feeding n).p;
      }

module _ (φ : Description) {t : List ℕ} (a : Arrangement (sheet φ) t) where
  -- the row of a board's node is the board's row
  own_row : (x z : ℕ) → x < φ.boards → z < φ.boards → cell φ.boards t (node φ t x) z ≡ cell φ.boards t x z
  own_row x z hx hz = same_rows a (node φ t x) x z (chief_board a x hx) hx hz (chief_same a x hx)

  chosen : Chooses φ.boards (choices φ t) t
  chosen =
      record {
        table = a.table;
        each = λ x y hx hy. let o = a.single x y hx hy in (o.0, o.1, o.2, ap choice o.2 ∙ choice_single o.0 o.1);
      }

  -- a board is in a row set exactly if its cell passes
  row_test : (c : ℕ) (g : ℕ → Bool) → within E c ≡ g E → within A c ≡ g A → within B c ≡ g B → within S c ≡ g S
      → (x y : ℕ) → x < φ.boards → y < φ.boards → row φ.boards t c (node φ t x) y ≡ g (cell φ.boards t x y)
  row_test c g e₁ e₂ e₃ e₄ x y hx hy =
      ap (λ (d : ℕ). within d c) (own_row x y hx hy) ∙ each_single (λ d. within d c ≡ g d) e₁ e₂ e₃ e₄ (a.single x y hx hy)

  rows : Rows φ.boards (nodes φ t) t
  unfolding relations has within nodes
  rows =
      record {
        eq = row_test E (λ c. eqb c E) refl refl refl refl;
        up = row_test B (λ c. eqb c B) refl refl refl refl;
        down = row_test A (λ c. eqb c A) refl refl refl refl;
        side = row_test S (λ c. eqb c S) refl refl refl refl;
        eqdown = row_test at_or_above_lem (λ c. eqb c E || eqb c A) refl refl refl refl;
        equp = row_test at_or_below (λ c. eqb c E || eqb c B) refl refl refl refl;
      }

  -- board z is in the row set c of board x exactly if the cell lies within c
  lies : (c x z : ℕ) → x < φ.boards → z < φ.boards → T (row φ.boards t c (node φ t x) z) → cell φ.boards t x z lies_within c
  lies c x z hx hz u = within_lies (cell φ.boards t x z) c (subst (λ (d : ℕ). T (within d c)) (own_row x z hx hz) u)

  laid : (c x z : ℕ) → x < φ.boards → z < φ.boards → cell φ.boards t x z lies_within c → T (row φ.boards t c (node φ t x) z)
  laid c x z hx hz u = subst (λ (d : ℕ). T (within d c)) (sym (own_row x z hx hz)) (lies_within_lem u)

  -- y has relation i to x, so what is in the row set c of x is in the row set d of y
  carry : (i c d : ℕ) → T (within (compose (2 ^ i) c) d) → (x y : ℕ) → x < φ.boards → y < φ.boards → cell φ.boards t y x ≡ 2 ^ i
      → Part φ.boards (row φ.boards t c (node φ t x)) (row φ.boards t d (node φ t y))
  carry i c d f x y hx hy e z hz u =
      laid d y z hy hz
      (lies_trans (a.rule3 y x z hy hx hz) (lies_trans (compose_mono (lies_eq e) (lies c x z hx hz u)) (within_lies (compose (2 ^ i) c) d f)))

  -- a board that is in the row set c of x and in the row set d of y
  met : (c d x y z : ℕ) → x < φ.boards → y < φ.boards → z < φ.boards → T (row φ.boards t c (node φ t x) z)
      → T (row φ.boards t d (node φ t y) z) → cell φ.boards t x y lies_within compose c (converse d)
  met c d x y z hx hy hz p q =
      lies_trans (a.rule3 x z y hx hz hy)
      (compose_mono (lies c x z hx hz p) (lies_trans (lies_eq (a.rule2 y z hy hz)) (converse_mono (lies d y z hy hz q))))

  -- x has not relation i to y, so these row sets have nothing in common
  excluded : (i c d : ℕ) → T (within (compose c (converse d)) (2 ^ i)) → (x y : ℕ) → x < φ.boards → y < φ.boards
      → (cell φ.boards t x y ≡ 2 ^ i → ⊥) → Disjoint φ.boards (row φ.boards t c (node φ t x)) (row φ.boards t d (node φ t y))
  excluded i c d f x y hx hy n z hz p q =
      n (one_within (a.single x y hx hy) i (lies_trans (met c d x y z hx hy hz p q) (within_lies (compose c (converse d)) (2 ^ i) f)))

  -- clauses 6 to 11
  partitioned : (x : ℕ) → x < φ.boards → Partitioned φ.boards (nodes φ t) (choices φ t) x
  unfolding relations has within nodes
  partitioned x h =
      record {
        clause6 = split (λ c. true) (E ∷ A ∷ B ∷ S ∷ []) tt;
        clause7 = split (λ c. true) (at_or_above_lem ∷ B ∷ S ∷ []) tt;
        clause8 = split (λ c. true) (at_or_below ∷ A ∷ S ∷ []) tt;
        clause9 = split (λ c. within c at_or_above_lem) (E ∷ A ∷ []) tt;
        clause10 = split (λ c. within c at_or_below) (E ∷ B ∷ []) tt;
        clause11 = laid E x x h h (lies_eq (a.rule1 x h));
      }
    where
      split : (g : ℕ → Bool) (cs : List ℕ) → T (each_below relations (λ r. splits g cs (2 ^ r)))
          → DisjointUnion φ.boards (λ z. g (cell φ.boards t (node φ t x) z)) (map (λ c. row φ.boards t c (node φ t x)) cs)
      split g cs s = row_split φ.boards t g cs (node φ t x) (λ z hz. a.single (node φ t x) z (chief_board a x h) hz) s

  module _ (x y : ℕ) (hx : x < φ.boards) (hy : y < φ.boards) where
    -- 18, 19, 20 and 21
    over_rows : cell φ.boards t x y ≡ A → Clause18 φ.boards (nodes φ t) (choices φ t) x y
    unfolding relations has within set_to set_of singles composed compose nodes
    over_rows e =
        record {
          downwards = carry above at_or_above_lem A tt y x hy hx e;
          upwards = carry below at_or_below B tt x y hx hy (above_turned a x y hx hy e);
          sidewards = carry below S S tt x y hx hy (above_turned a x y hx hy e);
        }

    not_over_rows : (cell φ.boards t x y ≡ A → ⊥) → Clause19 φ.boards (nodes φ t) (choices φ t) x y
    unfolding relations has within set_to set_of singles composed compose opposite converse nodes
    not_over_rows n = record { upwards = excluded above E B tt x y hx hy n; downwards = excluded above A E tt x y hx hy n }

    beside_rows : cell φ.boards t x y ≡ S → Clause20 φ.boards (nodes φ t) (choices φ t) x y
    unfolding relations has within set_to set_of singles composed compose opposite nodes
    beside_rows e =
        record {
          there = carry side at_or_above_lem S tt x y hx hy (turns a side (omega arith) x y hx hy e);
          back = carry side at_or_above_lem S tt y x hy hx e;
        }

    not_beside_rows : (cell φ.boards t x y ≡ S → ⊥) → Clause21 φ.boards (nodes φ t) (choices φ t) x y
    unfolding relations has within set_to set_of singles composed compose opposite converse nodes
    not_beside_rows n =
        record {
          there = excluded side E S tt x y hx hy n;
          back = excluded side E S tt y x hy hx (λ e. n (turns a side (omega arith) y x hy hx e));
        }

    -- this or that, by whether the cell is relation i
    choose : (i : ℕ) → i < relations → (this that : Type 0) → (cell φ.boards t x y ≡ 2 ^ i → this)
        → ((cell φ.boards t x y ≡ 2 ^ i → ⊥) → that) → Choice φ.boards (nodes φ t) (choices φ t) (suc i) x y this that
    choose i hi this that f g = ⊎_elim there back (T-decide (eqb (cell φ.boards t x y) (2 ^ i)))
      where
        there : T (eqb (cell φ.boards t x y) (2 ^ i)) → Choice φ.boards (nodes φ t) (choices φ t) (suc i) x y this that
        there d = let e = eqb→eq (cell φ.boards t x y) (2 ^ i) d in inl (f e, ap choice e ∙ choice_single i hi)

        back : T (not (eqb (cell φ.boards t x y) (2 ^ i))) → Choice φ.boards (nodes φ t) (choices φ t) (suc i) x y this that
        back d =
            let o = chosen.each x y hx hy in
            let n : cell φ.boards t x y ≡ 2 ^ i → ⊥ = T-differ d in
            inr (λ c. n (o.2 ∙ ap (λ (r : ℕ). 2 ^ r) (suc_inj (sym o.3 ∙ c))), g n)

  -- clauses 12 to 15
  pairs : (x y : ℕ) → x < φ.boards → y < φ.boards → Chosen φ.boards (nodes φ t) (choices φ t) x y
  unfolding relations has within set_to set_of singles composed compose opposite converse nodes
  pairs x y hx hy =
      let o = chosen.each x y hx hy in
      record {
        choice = let e : choices φ t x y ≡ suc o.0 = o.3 in let h : o.0 < relations = o.1 in (omega arith, omega arith);
        clause12 = choose x y hx hy same (omega arith) _ _ (same_chief a x y hx hy) (excluded same E E tt x y hx hy);
        clause13 = choose x y hx hy above (omega arith) _ _ (over_rows x y hx hy) (not_over_rows x y hx hy);
        clause14 = choose x y hx hy below (omega arith) _ _ (λ e. over_rows y x hy hx (below_turned a x y hx hy e))
            (λ n. not_over_rows y x hy hx (λ e. n (above_turned a y x hy hx e)));
        clause15 = choose x y hx hy side (omega arith) _ _ (beside_rows x y hx hy) (not_beside_rows x y hx hy);
      }

  module _ (W : WellFormed (sheet φ)) where
    -- clause 24
    kept : (f : Formula) → Memᴰ f φ.formulas → T (values f.relation (choices φ t f.x f.y))
    kept f m =
        let b = W.lines.1 (line f) (Memᴰ.map line m) in
        let o = chosen.each f.x f.y b.0 b.1 in
        subst T (sym (ap (values f.relation) o.3 ∙ values_denoted f.relation o.0 o.1))
        (lies_single o.1 (subst (λ (c : ℕ). c lies_within denoted f.relation) o.2 (a.rule4 (line f) (Memᴰ.map line m))))

    module _ (k : KindLine) (m : Memᴰ k φ.labels) where
      -- labels of boards that are the same are the same terms
      one_term : (l : KindLine) → Memᴰ l φ.labels → node φ t l.p ≡ node φ t k.p → term φ t l ≡ term φ t k
      one_term l n e = ap₂ (λ (c : ℕ) (ns : List ℕ). record { code = c; nodes = ns }) both.0.0 same_ways
        where
          both : ((l.code ≡ k.code) × (width l ≡ width k)) × ((i : ℕ) → i < width l → cell φ.boards t (way l i) (way k i) ≡ E)
          both = a.rule7 l k n m (chief_equal a l.p k.p (panel W l n) (panel W k m) e)

          same_ways : map (node φ t) l.ways ≡ map (node φ t) k.ways
          same_ways =
              ext_get_or 0 (map (node φ t) l.ways) (map (node φ t) k.ways)
              (length-map l.ways (node φ t) ∙ both.0.1 ∙ sym (length-map k.ways (node φ t))) way_nodes
            where
              way_nodes : (i : ℕ) → i < length (map (node φ t) l.ways)
                  → get_or (map (node φ t) l.ways) i 0 ≡ get_or (map (node φ t) k.ways) i 0
              way_nodes i h =
                  let g : i < width l = subst (λ (w : ℕ). i < w) (length-map l.ways (node φ t)) h in
                  let f : i < width k = subst (λ (w : ℕ). i < w) both.0.1 g in
                  at_map (node φ t) l.ways i 0 0 g ∙ same_chief a (way l i) (way k i) (fed W l n i g) (fed W k m i f) (both.1 i g)
                  ∙ sym (at_map (node φ t) k.ways i 0 0 f)

      labels : term φ t (labelled φ t (node φ t k.p)) ≡ term φ t k
      labels =
          let r =
          first_in (λ (l : KindLine). eqb (node φ t l.p) (node φ t k.p)) (blank φ t) φ.labels k m (eqb_refl (node φ t k.p)) in
          one_term (labelled φ t (node φ t k.p)) r.0 (eqb→eq (node φ t (labelled φ t (node φ t k.p)).p) (node φ t k.p) r.1)

      fed_by : (i : ℕ) → i < width k → node φ t (feeding φ t (node φ t (way k i))).p ≡ node φ t k.p
      fed_by i h =
          let r =
          first_in (λ (l : KindLine). some_of shares l.ways) (blank φ t) φ.labels k m
          (some_of_in shares k.ways (way k i) (member_at k.ways i h) (eqb_refl (node φ t (way k i)))) in
          from r.0 (some_of_out shares (feeding φ t (node φ t (way k i))).ways r.1)
        where
          -- the board has the node of way i
          shares : ℕ → Bool
          shares y = eqb (node φ t y) (node φ t (way k i))

          from : {l : KindLine} → Memᴰ l φ.labels → (y : ℕ) × Memᴰ y l.ways × T (eqb (node φ t y) (node φ t (way k i)))
              → node φ t l.p ≡ node φ t k.p
          from {l} n (y, u, e) =
              let j = at_member l.ways y u in
              let d : node φ t (way l j.0) ≡ node φ t (way k i) = ap (node φ t) j.2 ∙ eqb→eq (node φ t y) (node φ t (way k i)) e in
              same_chief a l.p k.p (panel W l n) (panel W k m)
              (one_feeder W a l n j.0 j.1 k m i h
              (chief_equal a (way l j.0) (way k i) (fed W l n j.0 j.1) (fed W k m i h) d)).0

      -- what is below the panel is at or below one of the ways
      union : DisjointUnion φ.boards (row φ.boards t A (node φ t k.p)) (map (λ y. row φ.boards t at_or_above_lem (node φ t y)) k.ways)
      unfolding relations has within set_to set_of singles composed compose opposite converse
      union =
          union_in (λ y. row φ.boards t at_or_above_lem (node φ t y)) k.ways
          (λ z hz u.
          from z hz (a.rule6 k m z hz (one_within (a.single k.p z (panel W k m) hz) above (lies A k.p z (panel W k m) hz u))))
          (λ i h. carry above at_or_above_lem A tt (way k i) k.p (fed W k m i h) (panel W k m) (a.rule5 k m i h)) apart
        where
          from : (z : ℕ) → z < φ.boards
              → (i : ℕ) × (i < width k) × ((cell φ.boards t (way k i) z ≡ E) ⊎ (cell φ.boards t (way k i) z ≡ A))
              → (i : ℕ) × (i < width k) × T (row φ.boards t at_or_above_lem (node φ t (way k i)) z)
          from z hz (i, h, d) =
              let s : cell φ.boards t (way k i) z lies_within at_or_above_lem =
              ⊎_elim (λ e. lies_trans (lies_eq e) (within_lies E at_or_above_lem tt)) (λ e. lies_trans (lies_eq e) (within_lies A at_or_above_lem tt)) d in
              (i, h, laid at_or_above_lem (way k i) z (fed W k m i h) hz s)

          apart : (i j : ℕ) → i < width k → j < width k → (i ≡ j → ⊥)
              → Disjoint φ.boards (row φ.boards t at_or_above_lem (node φ t (way k i))) (row φ.boards t at_or_above_lem (node φ t (way k j)))
          apart i j h g d z hz p q =
              let s : S lies_within compose at_or_above_lem (converse at_or_above_lem) =
              subst (λ (c : ℕ). c lies_within compose at_or_above_lem (converse at_or_above_lem)) (a.rule5' k m i j h g d)
              (met at_or_above_lem at_or_above_lem (way k i) (way k j) z (fed W k m i h) (fed W k m j g) hz p q) in
              s.member side (omega arith) tt

      -- what is above a way is at or above the panel
      rises : (i : ℕ) → i < width k → Part φ.boards (row φ.boards t B (node φ t (way k i))) (row φ.boards t at_or_below (node φ t k.p))
      unfolding relations has within
      rises i h z hz u =
          let g = fed W k m i h in
          ⊎_elim at_panel over_panel
          (above_way W a k m i h z hz
          (below_turned a (way k i) z g hz (one_within (a.single (way k i) z g hz) below (lies B (way k i) z g hz u))))
        where
          at_panel : cell φ.boards t z k.p ≡ E → T (row φ.boards t at_or_below (node φ t k.p) z)
          at_panel e =
              laid at_or_below k.p z (panel W k m) hz
              (lies_trans (lies_eq (same_turned a z k.p hz (panel W k m) e)) (within_lies E at_or_below tt))

          over_panel : cell φ.boards t z k.p ≡ A → T (row φ.boards t at_or_below (node φ t k.p) z)
          over_panel e =
              laid at_or_below k.p z (panel W k m) hz
              (lies_trans (lies_eq (above_turned a z k.p hz (panel W k m) e)) (within_lies B at_or_below tt))

      -- what is at or above the panel is above a way
      falls : (i : ℕ) → i < width k → Part φ.boards (row φ.boards t at_or_below (node φ t k.p)) (row φ.boards t B (node φ t (way k i)))
      unfolding relations has within set_to set_of singles composed compose
      falls i h =
          carry below at_or_below B tt k.p (way k i) (panel W k m) (fed W k m i h)
          (above_turned a k.p (way k i) (panel W k m) (fed W k m i h) (a.rule5 k m i h))

      -- clause 32
      fanned : Clause32 φ.boards (nodes φ t) (choices φ t) k
      unfolding nodes
      fanned = record { label = labels; parent = fed_by; downwards = union; upwards = λ i h. (rises i h, falls i h) }

    -- the clauses hold of an arrangement's nodes
    published : Published φ (nodes φ t) (choices φ t)
    published = record { tree = record { each = partitioned; pairs = pairs }; formulas = kept; labels = fanned }

-- an arrangement is the table of a solution, whose sets are the arrangement's rows
pub arrangement_published : (φ : Description) → WellFormed (sheet φ) → {t : List ℕ} → Arrangement (sheet φ) t
    → (N : Nodes) × (C : ℕ → ℕ → ℕ) × Chooses φ.boards C t × Rows φ.boards N t × Published φ N C
arrangement_published φ W {t} a = (nodes φ t, choices φ t, chosen φ a, rows φ a, published φ a W)

-- a table is an arrangement exactly if it is the table of a solution of the published constraints, whose sets are its rows
pub arrangement_iff_published : (φ : Description) → WellFormed (sheet φ) → (t : List ℕ)
    → Arrangement (sheet φ) t
    ↔ ((N : Nodes) × (C : ℕ → ℕ → ℕ) × Chooses φ.boards C t × Rows φ.boards N t × Published φ N C)
arrangement_iff_published φ W t = (arrangement_published φ W, λ m. published_arrangement W m.4 m.2)
