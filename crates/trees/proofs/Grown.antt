-- Every arrangement comes from a tree: its boards' paths and all that is above them, where each kind line's code stands at its board.
-- Assumes nothing.
use mathlib.Core.Path.{◌≡◌, refl, sym, ap, ap₂, ◌∙◌, subst}
use mathlib.Core.Bool.{Bool, decide, decide_iff}
use mathlib.Core.Logic.{inl, inr, ⊎_elim}
use mathlib.Core.List.Memᴰ
use mathlib.Core.List.{List, [], ◌∷◌, map, List-discrete, Memᴰ}
use Prim.Native.Nat.{ℕ, zero, suc, ◌+◌, ◌^◌, ◌<◌}
use native.Mathlib.Omega.{arith}
use native.Mathlib.Decide.{ℕ_discrete}
use lib.Dec.{T, ltb, lt→ltb}
use lib.ListN.{length, get_or}
use Rattle.rules.specs.Relations.{relations, E, A, B, S, has}
use Rattle.rules.specs.Descriptions.{RelationLine, KindLine, Sheet, WellFormed}
use Rattle.rules.specs.Tables.{at, range, up_to}
use Rattle.rules.specs.Arrangements.{way, width, Arrangement}
use Rattle.rules.proofs.Tests.{T_true, true_T, and_T}
use Rattle.rules.proofs.Members.{first, first_in, up_to_in, up_to_out}
use Rattle.rules.proofs.Digits.{has_single}
use Rattle.rules.proofs.Arrangements.{panel, fed}
use Rattle.boards.proofs.Order.{Over, same_turned, above_turned, below_turned}
use Rattle.boards.proofs.Groups.{chief}
use Rattle.trees.specs.Trees.{Place, child, Above, Beside, Stands, Placement, Draws, Holds, rising, Panel, TreeFits, unsaid}
use Rattle.trees.proofs.Places.{at_cases, above_at, child_not_root}
use Rattle.trees.proofs.Spread.{places_out, Covered, spread}
use Rattle.trees.proofs.Paths.{PathOf, under, Numbered, place, place_path, path_board, path_not_root, path_above, path_parent, parent_same, same_path, path_same, over_path, path_over}
use Rattle.trees.proofs.Children.{boards_forest, over_same, same_over, above_strictly, chiefs_numbered, Fed, number, number_fed, way_parent, parent_feeds, numbers_numbered}

-- ---- the tree

module _ (s : Sheet) (spot : ℕ → Place) (x : Place) where
  is_at : KindLine → Bool
  is_at k = decide (List-discrete ℕ_discrete (spot k.p) x)

  -- the first kind line whose board is at x, or one with code 0
  line_at : KindLine
  line_at = first is_at (record { p = 0; code = 0; ways = [] }) s.kinds

  -- where some kind line's board is at x, so is the board of the line that is found
  line_found : (k : KindLine) → Memᴰ k s.kinds → spot k.p ≡ x → Memᴰ line_at s.kinds × (spot line_at.p ≡ x)
  unfolding is_at line_at
  line_found k m e =
      let r = first_in is_at (record { p = 0; code = 0; ways = [] }) s.kinds k m (true_T ((decide_iff (List-discrete ℕ_discrete (spot k.p) x)).1 e)) in
      (r.0, (decide_iff (List-discrete ℕ_discrete (spot line_at.p) x)).0 (T_true r.1))

module _ {s : Sheet} {t : List ℕ} (a : Arrangement s t) (number : ℕ → ℕ) where
  -- the place of a board is its path
  spot : ℕ → Place
  spot = place (boards_forest a) number

  -- the tree of an arrangement, its boards numbered so
  pub grown : Placement s.boards
  grown = spread s.boards spot (λ x. (line_at s spot x).code)

  spot_path : {b : ℕ} → b < s.boards → PathOf s.boards (Over s t) number b (spot b)
  unfolding spot
  spot_path h = place_path (boards_forest a) number h

module _ {s : Sheet} {t : List ℕ} (a : Arrangement s t) {number : ℕ → ℕ} (n : Numbered s.boards (Over s t) number) where
  -- each place of the tree but the root is the place of some board
  pub all_named : (x : Place) → Memᴰ x (grown a number).tree.places → (x ≡ [] → ⊥)
      → (b : ℕ) × (b < s.boards) × ((grown a number).place b ≡ x)
  unfolding grown
  all_named x m f = ⊎_elim (λ e. absurd (f e)) covered (places_out s.boards (spot a number) m)
    where
      covered : Covered s.boards (spot a number) x → (b : ℕ) × (b < s.boards) × (spot a number b ≡ x)
      covered (b, h, g) =
          let r = path_above (spot_path a number h) g f in
          let l = path_board r.1 in
          let i = (boards_forest a).itself r.0 l in
          (r.0, l, same_path (boards_forest a) n (i, i) (spot_path a number l) r.1)

  -- ---- it draws the arrangement

  module _ (p q : ℕ) (hp : p < s.boards) (hq : q < s.boards) where
    drawn_above : at s t p q ≡ A → Above (spot a number p) (spot a number q)
    drawn_above e =
        ⊎_elim
        (λ d. absurd ((above_strictly a hp hq e).1 (path_same (boards_forest a) n (spot_path a number hp) (spot_path a number hq) d).1))
        (λ d. d) (at_cases (over_path (boards_forest a) n (inr e) (spot_path a number hp) (spot_path a number hq)))

    not_over : at s t p q ≡ S → Over s t p q → ⊥
    not_over e (inl d) = let z : E ≡ S = sym d ∙ e in omega arith
    not_over e (inr d) = let z : A ≡ S = sym d ∙ e in omega arith

    not_under : at s t p q ≡ S → Over s t q p → ⊥
    not_under e (inl d) = not_over e (inl (same_turned a q p hq hp d))
    not_under e (inr d) = let z : B ≡ S = sym (above_turned a q p hq hp d) ∙ e in omega arith

    drawn_beside : at s t p q ≡ S → Beside (spot a number p) (spot a number q)
    drawn_beside e = record {
      not_same = λ d. not_over e (path_same (boards_forest a) n (spot_path a number hp) (spot_path a number hq) d).0;
      not_above = λ d. not_over e (path_over (boards_forest a) n (above_at d) (spot_path a number hp) (spot_path a number hq));
      not_below_lem = λ d. not_under e (path_over (boards_forest a) n (above_at d) (spot_path a number hq) (spot_path a number hp));
    }

  stands : (p q : ℕ) → p < s.boards → q < s.boards → (r : ℕ) → r < relations → at s t p q ≡ 2 ^ r → Stands r (spot a number p) (spot a number q)
  unfolding relations Stands
  stands p q hp hq zero h e = same_path (boards_forest a) n (same_over a hp hq e) (spot_path a number hp) (spot_path a number hq)
  stands p q hp hq (suc zero) h e = drawn_above p q hp hq e
  stands p q hp hq (suc (suc zero)) h e = drawn_above q p hq hp (below_turned a p q hp hq e)
  stands p q hp hq (suc (suc (suc zero))) h e = drawn_beside p q hp hq e
  stands p q hp hq (suc (suc (suc (suc r)))) h e = let z : ⊥ = omega arith in absurd z

  -- the tree draws the arrangement
  pub grown_draws : Draws (grown a number) t
  unfolding grown
  grown_draws = record {
    table = a.table;
    each = λ p q hp hq. let o = a.single p q hp hq in (o.0, o.1, o.2, stands p q hp hq o.0 o.1 o.2);
  }

-- For rules 1 to 3 alone: each such table is drawn by a tree.
pub table_placement : {v : ℕ} {t : List ℕ} → Arrangement (unsaid v) t → (d : Placement v) × Draws d t
table_placement {v} {t} a = (grown a (chief (unsaid v) t), grown_draws a (chiefs_numbered a))

-- ---- it fits the description

rising_range : (n i : ℕ) → T (rising (range i n))
rising_range zero i = tt
rising_range (suc zero) i = tt
rising_range (suc (suc n)) i = and_T (ltb i (suc i)) (rising (range (suc i) (suc n))) (lt→ltb i (suc i) (omega arith)) (rising_range (suc n) (suc i))

map_range : {X : Type 0} (f g : ℕ → X) (xs : List ℕ) (j : ℕ) → ((i k : ℕ) → i < length xs → k ≡ j + i → f (get_or xs i 0) ≡ g k)
    → map f xs ≡ map g (range j (length xs))
map_range f g [] j h = refl
map_range f g (x ∷ xs) j h =
    ap₂ ◌∷◌ (h 0 j (omega arith) (omega arith)) (map_range f g xs (suc j) (λ i k l e. h (suc i) k (omega arith) (omega arith)))

module _ {s : Sheet} {t : List ℕ} (a : Arrangement s t) where
  -- the tree of an arrangement, where ways have their positions for numbers
  abbrev pub drawn : Placement s.boards
  drawn = grown a (number s t)

  abbrev home : ℕ → Place
  home = drawn.place

  home_path : {b : ℕ} → b < s.boards → PathOf s.boards (Over s t) (number s t) b (home b)
  unfolding grown
  home_path h = spot_path a (number s t) h

module _ {s : Sheet} (f : WellFormed s) {t : List ℕ} (a : Arrangement s t) where
  module _ (k : KindLine) (m : Memᴰ k s.kinds) where
    -- way i stands at child i of its panel's place
    way_home : (i : ℕ) → i < width k → home a (way k i) ≡ child (home a k.p) i
    way_home i h =
        let w = fed f k m i h in
        let r : Fed s t (way k i) = record { line = k; listed = m; position = i; among = h; same = a.rule1 (way k i) w } in
        let o = boards_forest a in
        let c = o.itself (way k i) w in
        same_path o (numbers_numbered f a) (c, c) (home_path a w) (under w (way_parent f a w r) (home_path a (panel f k m)))
        ∙ ap (child (home a k.p)) (number_fed f a w r)

    -- each child of a panel's place is where one of its ways stands
    child_way : (c : ℕ) → Memᴰ (child (home a k.p) c) (drawn a).tree.places → c < width k
    child_way c l = from (all_named a (numbers_numbered f a) (child (home a k.p) c) l (child_not_root (home a k.p) c))
      where
        p : k.p < s.boards
        p = panel f k m

        from : (b : ℕ) × (b < s.boards) × ((drawn a).place b ≡ child (home a k.p) c) → c < width k
        from (b, h, e) =
            let r = path_parent (home_path a h) e (path_not_root (home_path a p)) in
            let o = boards_forest a in
            let q = parent_same o h p r.1.1 (path_same o (numbers_numbered f a) r.1.2 (home_path a p) refl) in
            omega (arith, r.0, (parent_feeds f a k m h q).0)

    home_code : (drawn a).tree.code (home a k.p) ≡ k.code
    unfolding grown
    home_code =
        let l = line_at s (home a) (home a k.p) in
        let r = line_found s (home a) (home a k.p) k m refl in
        let q = panel f l r.0 in
        let p = panel f k m in
        (a.rule7 l k r.0 m (over_same a q p (path_same (boards_forest a) (numbers_numbered f a) (home_path a q) (home_path a p) r.1))).0.0

    panel_holds : Panel (drawn a) k
    panel_holds = record {
      code = home_code;
      ways = record {
        numbers = up_to (width k);
        ordered = rising_range (width k) 0;
        these = map_range (home a) (child (home a k.p)) k.ways 0 (λ i j h e. way_home i h ∙ ap (child (home a k.p)) (omega arith));
        present = λ c l. let h = up_to_out (width k) c l in Memᴰ.cast (sym (way_home c h)) ((drawn a).placed (way k c) (fed f k m c h));
        no_other = λ c l. up_to_in (child_way c l);
      };
    }

  line_holds : (l : RelationLine) → Memᴰ l s.lines → Holds (drawn a) l
  unfolding grown
  line_holds l m =
      let h = f.lines.1 l m in
      let o = a.single l.p l.q h.0 h.1 in (
        o.0,
        o.1,
        (a.rule4 l m).member o.0 o.1 (subst (λ (y : ℕ). T (has y o.0)) (sym o.2) (has_single o.0)),
        stands a (numbers_numbered f a) l.p l.q h.0 h.1 o.0 o.1 o.2,
      )

  -- the tree of an arrangement fits the description
  pub drawn_fits : TreeFits s (drawn a)
  drawn_fits = record { lines = line_holds; kinds = panel_holds }

-- Every arrangement for a description is drawn by a tree that fits it.
pub arrangement_drawn : {s : Sheet} → WellFormed s → {t : List ℕ} → Arrangement s t → (d : Placement s.boards) × TreeFits s d × Draws d t
arrangement_drawn f a = (drawn a, drawn_fits f a, grown_draws a (numbers_numbered f a))
