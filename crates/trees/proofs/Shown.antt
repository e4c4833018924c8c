-- What trainees get wrong, drawn: two boards that are each at or above the other share a place; a panel with a third child does not feed exactly
-- two ways, while what hangs below a way does no harm; two boards beside a third need not be beside each other. Assumes nothing.
use mathlib.Core.Path.{◌≡◌, refl, sym}
use mathlib.Core.Logic.{⊎_elim}
use mathlib.Core.List.Memᴰ
use mathlib.Core.List.{[], ◌∷◌, Memᴰ, nil≢cons, head-eq_of_cons-eq, tail-eq_of_cons-eq}
use Prim.Native.Nat.{ℕ, zero, suc, ◌<◌}
use native.Mathlib.Omega.{arith}
use lib.ListN.{get_or}
use Rattle.rules.specs.Relations.{relations, same, above, side, E, A, has, set_to, set_of, join}
use Rattle.rules.specs.Descriptions.{RelationLine, KindLine, Sheet}
use Rattle.rules.proofs.Members.{all_one, all_append}
use Rattle.trees.specs.Trees.{Place, child, AtOrAbove, Stands, Placement, Holds, Panel, TreeFits}
use Rattle.trees.proofs.Places.{at_refl, child_above, standing, standing_stands}
use Rattle.trees.proofs.Spread.{places_in, places_out, Covered, spread}
use Rattle.trees.proofs.Drawn.{nothing_else_below}

-- ---- 0 at or above 1, and 1 at or above 0

abbrev pub both_ways : Sheet
both_ways = record {
  boards = 2;
  lines = record { p = 0; q = 1; allowed = join E A } ∷ record { p = 1; q = 0; allowed = join E A } ∷ [];
  kinds = [];
}

-- the tree with both boards at the root fits
pub one_place_fits : TreeFits both_ways (spread 2 (λ b. []) (λ x. 0))
unfolding relations has set_to set_of join Stands
one_place_fits = record {
  lines = all_append held (record { p = 0; q = 1; allowed = join E A } ∷ []) (all_one held (one 0 1)) (all_one held (one 1 0));
  kinds = λ k m. absurd (Memᴰ.not-nil m);
}
  where
    held : RelationLine → Type 0
    held = Holds (spread 2 (λ b. []) (λ x. 0))

    one : (p q : ℕ) → held (record { p = p; q = q; allowed = join E A })
    one p q = (same, omega arith, tt, refl)

-- ---- 0 feeds exactly 1 and 2, and 3 is somewhere

abbrev pub two_ways : KindLine
two_ways = record { p = 0; code = 5; ways = 1 ∷ 2 ∷ [] }

abbrev pub panel_of_two : Sheet
panel_of_two = record { boards = 4; lines = []; kinds = two_ways ∷ [] }

-- 0 below the root, its ways below it, and 3 at a place of its own
abbrev pub stood : Place → ℕ → Place
stood z b = get_or ((0 ∷ []) ∷ (0 ∷ 0 ∷ []) ∷ (0 ∷ 1 ∷ []) ∷ z ∷ []) b []

-- the tree with 3 at a third child of 0 does not fit
pub third_child_unfit : TreeFits panel_of_two (spread 4 (stood (0 ∷ 2 ∷ [])) (λ x. 5)) → ⊥
third_child_unfit f =
    from
    (nothing_else_below (f.kinds two_ways (Memᴰ.head refl)) (0 ∷ 2 ∷ [])
    (places_in 4 (stood (0 ∷ 2 ∷ [])) {b = 3} (omega arith) (at_refl (0 ∷ 2 ∷ []))) (child_above (0 ∷ []) 2))
  where
    -- way i is child i
    other : (i : ℕ) → (2 ≡ i → ⊥) → AtOrAbove (0 ∷ i ∷ []) (0 ∷ 2 ∷ []) → ⊥
    other i n h = n (head-eq_of_cons-eq (tail-eq_of_cons-eq h.path))

    from : (i : ℕ) × (i < 2) × AtOrAbove (stood (0 ∷ 2 ∷ []) (get_or (1 ∷ 2 ∷ []) i 0)) (0 ∷ 2 ∷ []) → ⊥
    from (zero, l, h) = other 0 (λ e. omega arith) h
    from (suc zero, l, h) = other 1 (λ e. omega arith) h
    from (suc (suc i), l, h) = omega arith

-- the tree with 3 below the second way fits
pub below_a_way_fits : TreeFits panel_of_two (spread 4 (stood (0 ∷ 1 ∷ 7 ∷ [])) (λ x. 5))
below_a_way_fits = record { lines = λ l m. absurd (Memᴰ.not-nil m); kinds = all_one (Panel d) held }
  where
    d : Placement 4
    d = spread 4 (stood (0 ∷ 1 ∷ 7 ∷ [])) (λ x. 5)

    present : ℕ → Type 0
    present c = Memᴰ (child (0 ∷ []) c) d.tree.places

    second : {c : ℕ} {x y : Place} → 0 ∷ 1 ∷ x ≡ 0 ∷ c ∷ y → Memᴰ c (0 ∷ 1 ∷ [])
    second e = Memᴰ.tail (Memᴰ.head (sym (head-eq_of_cons-eq (tail-eq_of_cons-eq e))))

    covered : (c : ℕ) → Covered 4 (stood (0 ∷ 1 ∷ 7 ∷ [])) (child (0 ∷ []) c) → Memᴰ c (0 ∷ 1 ∷ [])
    covered c (zero, l, h) = absurd (nil≢cons (tail-eq_of_cons-eq h.path))
    covered c (suc zero, l, h) = Memᴰ.head (sym (head-eq_of_cons-eq (tail-eq_of_cons-eq h.path)))
    covered c (suc (suc zero), l, h) = second h.path
    covered c (suc (suc (suc zero)), l, h) = second h.path
    covered c (suc (suc (suc (suc b))), l, h) = let z : ⊥ = omega arith in absurd z

    held : Panel d two_ways
    held = record {
      code = refl;
      ways = record {
        numbers = 0 ∷ 1 ∷ [];
        ordered = tt;
        these = refl;
        present = all_append present (0 ∷ []) (all_one present (d.placed 1 (omega arith))) (all_one present (d.placed 2 (omega arith)));
        no_other = λ c m. ⊎_elim (λ e. absurd (nil≢cons (sym e))) (covered c) (places_out 4 (stood (0 ∷ 1 ∷ 7 ∷ [])) m);
      };
    }

-- ---- 1 beside 0 and 2 beside 0

-- 1 may be above 2
pub beside_a_third : Stands side (1 ∷ []) (0 ∷ []) × Stands side (1 ∷ 0 ∷ []) (0 ∷ []) × Stands above (1 ∷ []) (1 ∷ 0 ∷ [])
unfolding standing
beside_a_third = (
  standing_stands (1 ∷ []) (0 ∷ []),
  standing_stands (1 ∷ 0 ∷ []) (0 ∷ []),
  standing_stands (1 ∷ []) (1 ∷ 0 ∷ []),
)
