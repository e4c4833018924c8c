-- Every tree gives an arrangement: the table that a placement draws keeps rules 1 to 3, and the other rules where the tree fits the description.
-- Assumes nothing.
use mathlib.Core.Path.{◌≡◌, refl, sym, ap, ap₂, ◌∙◌, subst, subst₂}
use mathlib.Core.Logic.{◌⊎◌, inl, inr}
use mathlib.Core.List.Memᴰ
use mathlib.Core.List.{List, [], Memᴰ}
use Prim.Native.Nat.{ℕ, ◌^◌, ◌<◌}
use lib.Dec.{T}
use lib.ListN.{length, get_or, length-map}
use Rattle.rules.specs.Relations.{relations, same, above, side, E, A, S, has, ◌lies_within◌, converse, composed, compose}
use Rattle.rules.specs.Descriptions.{RelationLine, KindLine, Sheet, WellFormed}
use Rattle.rules.specs.Tables.{cell, at}
use Rattle.rules.specs.Arrangements.{way, width, Alike, Arrangement}
use Rattle.rules.proofs.Digits.{has_single, single_has}
use Rattle.rules.proofs.Sets.{single_small, single_lies}
use Rattle.rules.proofs.Composition.{converse_single, compose_single}
use Rattle.rules.proofs.Members.{at_member, at_map}
use Rattle.rules.proofs.Arrangements.{One, panel, fed}
use Rattle.boards.proofs.Made.{made, made_table, made_cell, same_cells}
use Rattle.trees.specs.Trees.{Place, child, AtOrAbove, Above, Beside, Stands, Placement, Draws, Panel, TreeFits, unsaid}
use Rattle.trees.proofs.Places.{standing, standing_small, standing_stands, stands_standing, standing_turned, standing_composed}
use Rattle.trees.proofs.Places.{at_cases, child_above, step_down, children_beside}
use Rattle.trees.proofs.Rising.{rising_differ, rising_one}

-- how the places of two boards stand
abbrev placed_standing : {v : ℕ} → Placement v → ℕ → ℕ → ℕ
placed_standing d p q = standing (d.place p) (d.place q)

-- ---- the table that a placement draws

-- every placement draws a table
pub draws_some : {v : ℕ} (d : Placement v) → (t : List ℕ) × Draws d t
draws_some {v} d = (made v f, record { table = made_table v f (λ p q h k. single_small (small p q)); each = each })
  where
    f : ℕ → ℕ → ℕ
    f p q = 2 ^ placed_standing d p q

    small : (p q : ℕ) → placed_standing d p q < relations
    small p q = standing_small (d.place p) (d.place q)

    each : (p q : ℕ) → p < v → q < v → (r : ℕ) × (r < relations) × (cell v (made v f) p q ≡ 2 ^ r) × Stands r (d.place p) (d.place q)
    each p q h k = (placed_standing d p q, small p q, made_cell v f p q h k, standing_stands (d.place p) (d.place q))

module _ {v : ℕ} {d : Placement v} {t : List ℕ} (w : Draws d t) {p q : ℕ} (h : p < v) (k : q < v) where
  -- each cell is the relation in which the places of the two boards stand
  drawn_cell : cell v t p q ≡ 2 ^ standing (d.place p) (d.place q)
  drawn_cell =
      let m = w.each p q h k in
      m.2 ∙ ap (λ (r : ℕ). 2 ^ r) (sym (stands_standing m.0 (d.place p) (d.place q) m.3))

  -- where the places of two boards stand in a relation, their cell is that relation
  stands_drawn : (r : ℕ) → Stands r (d.place p) (d.place q) → cell v t p q ≡ 2 ^ r
  stands_drawn r g = drawn_cell ∙ ap (λ (r : ℕ). 2 ^ r) (stands_standing r (d.place p) (d.place q) g)

  -- where the cell of two boards is a relation, their places stand in it
  drawn_stands : (r : ℕ) → cell v t p q ≡ 2 ^ r → Stands r (d.place p) (d.place q)
  drawn_stands r e =
      subst (λ (s : ℕ). Stands s (d.place p) (d.place q)) (sym (single_has (placed_standing d p q) r has_r))
      (standing_stands (d.place p) (d.place q))
    where
      has_r : T (has (2 ^ placed_standing d p q) r)
      has_r = subst (λ (x : ℕ). T (has x r)) (sym e ∙ drawn_cell) (has_single r)

-- a placement draws only one table
pub draws_one : {v : ℕ} {d : Placement v} {t u : List ℕ} → Draws d t → Draws d u → t ≡ u
draws_one w w' = same_cells w.table w'.table (λ p q h k. drawn_cell w h k ∙ sym (drawn_cell w' h k))

-- ---- rules 1 to 3

module _ {v : ℕ} {d : Placement v} {t : List ℕ} (w : Draws d t) where
  drawn_single : (p q : ℕ) → p < v → q < v → One (cell v t p q)
  drawn_single p q h k = (placed_standing d p q, standing_small (d.place p) (d.place q), drawn_cell w h k)

  drawn1 : (p : ℕ) → p < v → cell v t p p ≡ E
  unfolding Stands
  drawn1 p h = stands_drawn w h h same refl

  drawn2 : (p q : ℕ) → p < v → q < v → cell v t q p ≡ converse (cell v t p q)
  drawn2 p q h k =
      drawn_cell w k h ∙ ap (λ (r : ℕ). 2 ^ r) (standing_turned (d.place p) (d.place q))
      ∙ sym (converse_single (placed_standing d p q) (standing_small (d.place p) (d.place q))) ∙ ap converse (sym (drawn_cell w h k))

  drawn3 : (p q r : ℕ) → p < v → q < v → r < v → cell v t p r lies_within compose (cell v t p q) (cell v t q r)
  drawn3 p q r hp hq hr = subst (λ (x : ℕ). x lies_within compose (cell v t p q) (cell v t q r)) (sym (drawn_cell w hp hr)) within
    where
      allowed : composed (placed_standing d p q) (placed_standing d q r) ≡ compose (cell v t p q) (cell v t q r)
      allowed =
          sym (compose_single (placed_standing d p q) (placed_standing d q r) (standing_small (d.place p) (d.place q))
          (standing_small (d.place q) (d.place r))) ∙ ap₂ compose (sym (drawn_cell w hp hq)) (sym (drawn_cell w hq hr))

      within : 2 ^ placed_standing d p r lies_within compose (cell v t p q) (cell v t q r)
      within =
          subst (λ (x : ℕ). 2 ^ placed_standing d p r lies_within x) allowed
          (single_lies (placed_standing d p r) (composed (placed_standing d p q) (placed_standing d q r))
          (standing_composed (d.place p) (d.place q) (d.place r)))

-- every placement draws an arrangement of the description that says nothing
pub placement_arrangement : {v : ℕ} (d : Placement v) {t : List ℕ} → Draws d t → Arrangement (unsaid v) t
placement_arrangement d w =
    record {
      table = w.table;
      single = drawn_single w;
      rule1 = drawn1 w;
      rule2 = drawn2 w;
      rule3 = drawn3 w;
      rule4 = λ l m. absurd (Memᴰ.not-nil m);
      rule5 = λ k m. absurd (Memᴰ.not-nil m);
      rule5' = λ k m. absurd (Memᴰ.not-nil m);
      rule6 = λ k m. absurd (Memᴰ.not-nil m);
      rule7 = λ k l m. absurd (Memᴰ.not-nil m);
    }

-- ---- a panel and its ways

module _ {v : ℕ} {d : Placement v} {k : KindLine} (a : Panel d k) where
  -- the number of the child at which a way stands
  abbrev number : ℕ → ℕ
  number i = get_or a.ways.numbers i 0

  -- there are as many children as ways
  as_many : width k ≡ length a.ways.numbers
  as_many =
      sym (length-map k.ways d.place) ∙ ap length a.ways.these
      ∙ length-map a.ways.numbers (child (d.place k.p))

  -- each way stands at the child in its position
  way_child : (i : ℕ) → i < width k → d.place (way k i) ≡ child (d.place k.p) (number i)
  way_child i h =
      sym (at_map d.place k.ways i 0 [] h) ∙ ap (λ (ys : List Place). get_or ys i []) a.ways.these
      ∙ at_map (child (d.place k.p)) a.ways.numbers i 0 [] (subst (λ (n : ℕ). i < n) as_many h)

  -- what is below the panel's place is at or below the place of some way
  pub nothing_else_below : (z : Place) → Memᴰ z d.tree.places → Above (d.place k.p) z
      → (i : ℕ) × (i < width k) × AtOrAbove (d.place (way k i)) z
  nothing_else_below z m b = child_way (step_down b)
    where
      here : (c : ℕ) → AtOrAbove (child (d.place k.p) c) z → (i : ℕ) × (i < length a.ways.numbers) × (number i ≡ c)
          → (i : ℕ) × (i < width k) × AtOrAbove (d.place (way k i)) z
      here c u n =
          let h : n.0 < width k = subst (λ (x : ℕ). n.0 < x) (sym as_many) n.1 in (
            n.0,
            h,
            subst (λ (y : Place). AtOrAbove y z)
                (ap (child (d.place k.p)) (sym n.2) ∙ sym (way_child n.0 h)) u,
          )

      child_way : (c : ℕ) × AtOrAbove (child (d.place k.p) c) z → (i : ℕ) × (i < width k) × AtOrAbove (d.place (way k i)) z
      child_way u =
          here u.0 u.1
          (at_member a.ways.numbers u.0 (a.ways.no_other u.0 (d.tree.upward (child (d.place k.p) u.0) z u.1 m)))

-- two panels at one place have children of the same numbers
one_place : {v : ℕ} {d : Placement v} {k l : KindLine} (a : Panel d k) (b : Panel d l) → d.place k.p ≡ d.place l.p
    → a.ways.numbers ≡ b.ways.numbers
one_place {d = d} a b e =
    rising_one a.ways.numbers b.ways.numbers a.ways.ordered b.ways.ordered
    (λ c m. b.ways.no_other c (subst (λ (x : Place). Memᴰ (child x c) d.tree.places) e (a.ways.present c m)))
    (λ c m. a.ways.no_other c (subst (λ (x : Place). Memᴰ (child x c) d.tree.places) (sym e) (b.ways.present c m)))

-- ---- rules 4 to 7

module _ {s : Sheet} (f : WellFormed s) (d : Placement s.boards) (g : TreeFits s d) {t : List ℕ} (w : Draws d t) where
  drawn4 : (l : RelationLine) → Memᴰ l s.lines → at s t l.p l.q lies_within l.allowed
  drawn4 l m =
      let b = f.lines.1 l m in
      let h = g.lines l m in
      subst (λ (x : ℕ). x lies_within l.allowed) (sym (stands_drawn w b.0 b.1 h.0 h.3)) (single_lies h.0 l.allowed h.2)

  module _ (k : KindLine) (m : Memᴰ k s.kinds) where
    held : Panel d k
    held = g.kinds k m

    drawn5 : (i : ℕ) → i < width k → at s t k.p (way k i) ≡ A
    unfolding Stands
    drawn5 i h =
        stands_drawn w (panel f k m) (fed f k m i h) above
        (subst (λ (y : Place). Above (d.place k.p) y) (sym (way_child held i h)) (child_above (d.place k.p) (number held i)))

    drawn5' : (i j : ℕ) → i < width k → j < width k → (i ≡ j → ⊥) → at s t (way k i) (way k j) ≡ S
    unfolding Stands
    drawn5' i j hi hj n =
        stands_drawn w (fed f k m i hi) (fed f k m j hj) side
        (subst₂ Beside (sym (way_child held i hi)) (sym (way_child held j hj))
        (children_beside (d.place k.p)
        (rising_differ held.ways.numbers held.ways.ordered i j (subst (λ (x : ℕ). i < x) (as_many held) hi)
        (subst (λ (x : ℕ). j < x) (as_many held) hj) n)))

    drawn6 : (z : ℕ) → z < s.boards → at s t k.p z ≡ A
        → (i : ℕ) × (i < width k) × ((at s t (way k i) z ≡ E) ⊎ (at s t (way k i) z ≡ A))
    unfolding Stands
    drawn6 z h e = from (nothing_else_below held (d.place z) (d.placed z h) (drawn_stands w (panel f k m) h above e))
      where
        reached : (i : ℕ) → i < width k → (d.place (way k i) ≡ d.place z) ⊎ Above (d.place (way k i)) (d.place z)
            → (at s t (way k i) z ≡ E) ⊎ (at s t (way k i) z ≡ A)
        reached i l (inl b) = inl (stands_drawn w (fed f k m i l) h same b)
        reached i l (inr b) = inr (stands_drawn w (fed f k m i l) h above b)

        from : (i : ℕ) × (i < width k) × AtOrAbove (d.place (way k i)) (d.place z)
            → (i : ℕ) × (i < width k) × ((at s t (way k i) z ≡ E) ⊎ (at s t (way k i) z ≡ A))
        from n = (n.0, n.1, reached n.0 n.1 (at_cases n.2))

  drawn7 : (k l : KindLine) → Memᴰ k s.kinds → Memᴰ l s.kinds → at s t k.p l.p ≡ E
      → Alike k l × ((i : ℕ) → i < width k → at s t (way k i) (way l i) ≡ E)
  unfolding Stands
  drawn7 k l m n e = ((codes, widths), pair)
    where
      a : Panel d k
      a = held k m

      b : Panel d l
      b = held l n

      one : d.place k.p ≡ d.place l.p
      one = drawn_stands w (panel f k m) (panel f l n) same e

      codes : k.code ≡ l.code
      codes = sym a.code ∙ ap d.tree.code one ∙ b.code

      widths : width k ≡ width l
      widths = as_many a ∙ ap length (one_place a b one) ∙ sym (as_many b)

      pair : (i : ℕ) → i < width k → at s t (way k i) (way l i) ≡ E
      pair i h =
          let h' = subst (λ (x : ℕ). i < x) widths h in
          stands_drawn w (fed f k m i h) (fed f l n i h') same
          (way_child a i h ∙ ap₂ child one (ap (λ (cs : List ℕ). get_or cs i 0) (one_place a b one)) ∙ sym (way_child b i h'))

  -- a tree that fits a description draws an arrangement of it
  pub fits_arrangement : Arrangement s t
  fits_arrangement =
      record {
        table = w.table;
        single = drawn_single w;
        rule1 = drawn1 w;
        rule2 = drawn2 w;
        rule3 = drawn3 w;
        rule4 = drawn4;
        rule5 = drawn5;
        rule5' = drawn5';
        rule6 = drawn6;
        rule7 = drawn7;
      }
