-- Places in a tree: at or above is an order, the children of a place stand beside each other, and exactly one relation holds of two places.
-- Assumes nothing.
use mathlib.Core.Path.{◌≡◌, refl, sym, ap, ap₂, ◌∙◌, subst}
use mathlib.Core.Bool.{Bool, true, false}
use mathlib.Core.Logic.{◌⊎◌, inl, inr, ⊎_elim}
use mathlib.Core.List.{[], ◌∷◌, ◌++◌, append_assoc, append-nil, head-eq_of_cons-eq, tail-eq_of_cons-eq, nil≢cons}
use Prim.Native.Nat.{ℕ, zero, suc, ◌<◌}
use native.Mathlib.Omega.{arith}
use borrow.Author.Tests.{eqb-true, eqb-false}
use lib.Dec.{T, eqb, eqb→eq, eqb_refl}
use Rattle.rules.specs.Relations.{relations, same, above, below, side, has, opposite, singles, composed}
use Rattle.rules.proofs.Tests.{T_true, true_T, T_false, each_at}
use Rattle.trees.specs.Trees.{Place, child, AtOrAbove, Above, Beside, Stands}

-- ---- at or above

-- each place is at or above itself
pub at_refl : (x : Place) → AtOrAbove x x
at_refl x = record { rest = []; path = sym (append-nil x) }

pub at_equal : {x y : Place} → x ≡ y → AtOrAbove x y
at_equal {x} e = subst (AtOrAbove x) e (at_refl x)

-- what is at or above a place is at or above all that this place is at or above
pub at_trans : {x y z : Place} → AtOrAbove x y → AtOrAbove y z → AtOrAbove x z
at_trans {x} {y} {z} a b =
    record {
      rest = a.rest ++ b.rest;
      path = b.path ∙ ap (λ (u : Place). u ++ b.rest) a.path ∙ append_assoc x a.rest b.rest;
    }

-- what is above a place is at or above it
pub above_at : {x y : Place} → Above x y → AtOrAbove x y
above_at a = record { rest = a.step ∷ a.rest; path = a.path }

-- at or above is the same place, or above
pub at_cases : {x y : Place} → AtOrAbove x y → (x ≡ y) ⊎ Above x y
at_cases {x} {y} a = go a.rest a.path
  where
    go : (u : Place) → y ≡ x ++ u → (x ≡ y) ⊎ Above x y
    go [] e = inl (sym (e ∙ append-nil x))
    go (c ∷ u) e = inr (record { step = c; rest = u; path = e })

-- ---- children

-- a place is above its children
pub child_above : (x : Place) (c : ℕ) → Above x (child x c)
child_above x c = record { step = c; rest = []; path = refl }

-- what is below a place is at or below one of its children
pub step_down : {x y : Place} → Above x y → (c : ℕ) × AtOrAbove (child x c) y
step_down {x} a = (a.step, record { rest = a.rest; path = a.path ∙ sym (append_assoc x (a.step ∷ []) a.rest) })

-- what is at or above a place is at or above its children
pub at_child : {x y : Place} (c : ℕ) → AtOrAbove x y → AtOrAbove x (child y c)
at_child {x} c h = record { rest = child h.rest c; path = ap (λ (z : Place). child z c) h.path ∙ append_assoc x h.rest (c ∷ []) }

-- at or above the root is the root alone
pub above_root : {x : Place} → AtOrAbove x [] → x ≡ []
above_root {x = []} h = refl
above_root {x = a ∷ x} h = absurd (nil≢cons h.path)

-- no child is the root
pub child_not_root : (x : Place) (c : ℕ) → child x c ≡ [] → ⊥
child_not_root [] c e = nil≢cons (sym e)
child_not_root (a ∷ x) c e = nil≢cons (sym e)

-- what is at or above a child is the child, or at or above its parent
pub above_child : (x y : Place) (c : ℕ) → AtOrAbove x (child y c) → (x ≡ child y c) ⊎ AtOrAbove x y
above_child [] y c h = inr (record { rest = y; path = refl })
above_child (a ∷ x) [] c h =
    inl (ap₂ ◌∷◌ (sym (head-eq_of_cons-eq h.path)) (above_root (record { rest = h.rest; path = tail-eq_of_cons-eq h.path })))
above_child (a ∷ x) (b ∷ y) c h =
    ⊎_elim (λ e. inl (ap₂ ◌∷◌ same e)) (λ g. inr (record { rest = g.rest; path = ap₂ ◌∷◌ (sym same) g.path }))
    (above_child x y c (record { rest = h.rest; path = tail-eq_of_cons-eq h.path }))
  where
    same : a ≡ b
    same = sym (head-eq_of_cons-eq h.path)

-- equal children have one parent and one number
pub child_equal : (x y : Place) (c d : ℕ) → child x c ≡ child y d → (x ≡ y) × (c ≡ d)
child_equal [] [] c d e = (refl, head-eq_of_cons-eq e)
child_equal [] (b ∷ y) c d e = absurd (child_not_root y d (sym (tail-eq_of_cons-eq e)))
child_equal (a ∷ x) [] c d e = absurd (child_not_root x c (tail-eq_of_cons-eq e))
child_equal (a ∷ x) (b ∷ y) c d e =
    let r = child_equal x y c d (tail-eq_of_cons-eq e) in (ap₂ ◌∷◌ (head-eq_of_cons-eq e) r.0, r.1)

-- ---- how two places stand

-- the relation in which x stands to y, by their first steps
unfoldable pub standing : Place → Place → ℕ
standing [] [] = same
standing [] (b ∷ y) = above
standing (a ∷ x) [] = below
standing (a ∷ x) (b ∷ y) = elim (eqb a b) [ true ↦ standing x y | false ↦ side ]

-- it is one of the relations
pub standing_small : (x y : Place) → standing x y < relations
unfolding relations standing
standing_small [] [] = omega arith
standing_small [] (b ∷ y) = omega arith
standing_small (a ∷ x) [] = omega arith
standing_small (a ∷ x) (b ∷ y) = go (eqb a b) (standing_small x y)
  where
    go : (t : Bool) → standing x y < relations → elim t [ true ↦ standing x y | false ↦ side ] < relations
    go true h = h
    go false h = omega arith

-- steps taken by both places do not matter
standing_common : (x y z : Place) → standing (x ++ y) (x ++ z) ≡ standing y z
unfolding standing
standing_common [] y z = refl
standing_common (c ∷ x) y z =
    ap (λ (t : Bool). elim t [ true ↦ standing (x ++ y) (x ++ z) | false ↦ side ]) (T_true {b = eqb c c} (eqb_refl c)) ∙ standing_common x y z

-- after the first steps that differ, two places stand side by side
standing_apart : (i j : ℕ) (y z : Place) → (i ≡ j → ⊥) → standing (i ∷ y) (j ∷ z) ≡ side
unfolding standing
standing_apart i j y z n = ap (λ (t : Bool). elim t [ true ↦ standing y z | false ↦ side ]) (T_false {b = eqb i j} (λ e. n (eqb→eq i j e)))

-- ---- it is the relation that holds

-- two places after the same first step stand as their rests do
lower : {c : ℕ} {x y : Place} → Above x y → Above (c ∷ x) (c ∷ y)
lower {c} a = record { step = a.step; rest = a.rest; path = ap (λ (u : Place). c ∷ u) a.path }

raise : {c : ℕ} {x y : Place} → Above (c ∷ x) (c ∷ y) → Above x y
raise a = record { step = a.step; rest = a.rest; path = tail-eq_of_cons-eq a.path }

stands_lower : (c r : ℕ) (x y : Place) → Stands r x y → Stands r (c ∷ x) (c ∷ y)
unfolding Stands
stands_lower c zero x y h = ap (λ (u : Place). c ∷ u) h
stands_lower c (suc zero) x y h = lower h
stands_lower c (suc (suc zero)) x y h = lower h
stands_lower c (suc (suc (suc zero))) x y h =
    record {
      not_same = λ e. h.not_same (tail-eq_of_cons-eq e);
      not_above = λ a. h.not_above (raise a);
      not_below_lem = λ a. h.not_below_lem (raise a);
    }
stands_lower c (suc (suc (suc (suc r)))) x y h = absurd h

-- and after different first steps beside each other
apart_beside : {a b : ℕ} {x y : Place} → (a ≡ b → ⊥) → Beside (a ∷ x) (b ∷ y)
apart_beside n =
    record {
      not_same = λ e. n (head-eq_of_cons-eq e);
      not_above = λ h. n (sym (head-eq_of_cons-eq h.path));
      not_below_lem = λ h. n (head-eq_of_cons-eq h.path);
    }

-- two places stand in the relation that is computed from their steps
pub standing_stands : (x y : Place) → Stands (standing x y) x y
unfolding Stands standing
standing_stands [] [] = refl
standing_stands [] (b ∷ y) = record { step = b; rest = y; path = refl }
standing_stands (a ∷ x) [] = record { step = a; rest = x; path = refl }
standing_stands (a ∷ x) (b ∷ y) = go (eqb a b) refl (standing_stands x y)
  where
    go : (t : Bool) → eqb a b ≡ t → Stands (standing x y) x y → Stands (elim t [ true ↦ standing x y | false ↦ side ]) (a ∷ x) (b ∷ y)
    go true e h =
        subst (λ (c : ℕ). Stands (standing x y) (a ∷ x) (c ∷ y)) (eqb→eq a b (true_T e)) (stands_lower a (standing x y) x y h)
    go false e h = apart_beside (λ d. eqb-false a b e d)

-- two different children of one place stand beside each other
pub children_beside : {i j : ℕ} (x : Place) → (i ≡ j → ⊥) → Beside (child x i) (child x j)
unfolding Stands
children_beside {i} {j} x n =
    subst (λ (r : ℕ). Stands r (child x i) (child x j)) (standing_common x (i ∷ []) (j ∷ []) ∙ standing_apart i j [] [] n)
    (standing_stands (child x i) (child x j))

-- the relation that holds is the one computed
standing_same : (x : Place) → standing x x ≡ same
unfolding standing
standing_same x = ap (λ (u : Place). standing u u) (sym (append-nil x)) ∙ standing_common x [] []

standing_above : {x y : Place} → Above x y → standing x y ≡ above
unfolding standing
standing_above {x} a = ap₂ standing (sym (append-nil x)) a.path ∙ standing_common x [] (a.step ∷ a.rest)

standing_below : {x y : Place} → Above y x → standing x y ≡ below
unfolding standing
standing_below {y = y} a = ap₂ standing a.path (sym (append-nil y)) ∙ standing_common y (a.step ∷ a.rest) []

beside_alone : (r : ℕ) (x y : Place) → Stands r x y → Beside x y → r ≡ side
unfolding Stands
beside_alone zero x y h b = absurd (b.not_same h)
beside_alone (suc zero) x y h b = absurd (b.not_above h)
beside_alone (suc (suc zero)) x y h b = absurd (b.not_below_lem h)
beside_alone (suc (suc (suc zero))) x y h b = refl
beside_alone (suc (suc (suc (suc r)))) x y h b = absurd h

-- no other relation holds of two places
pub stands_standing : (r : ℕ) (x y : Place) → Stands r x y → standing x y ≡ r
unfolding Stands
stands_standing zero x y h = ap (standing x) (sym h) ∙ standing_same x
stands_standing (suc zero) x y h = standing_above h
stands_standing (suc (suc zero)) x y h = standing_below h
stands_standing (suc (suc (suc zero))) x y h = beside_alone (standing x y) x y (standing_stands x y) h
stands_standing (suc (suc (suc (suc r)))) x y h = absurd h

-- so exactly one relation holds of two places
pub stands_one : (r s : ℕ) (x y : Place) → Stands r x y → Stands s x y → r ≡ s
stands_one r s x y h k = sym (stands_standing r x y h) ∙ stands_standing s x y k

-- ---- two places the other way round, and three places

-- the opposite relation holds the other way round
stands_turned : (r : ℕ) (x y : Place) → Stands r x y → Stands (opposite r) y x
unfolding Stands opposite
stands_turned zero x y h = sym h
stands_turned (suc zero) x y h = h
stands_turned (suc (suc zero)) x y h = h
stands_turned (suc (suc (suc zero))) x y h =
    record { not_same = λ e. h.not_same (sym e); not_above = h.not_below_lem; not_below_lem = h.not_above }
stands_turned (suc (suc (suc (suc r)))) x y h = absurd h

-- y stands to x in the opposite of the relation in which x stands to y
pub standing_turned : (x y : Place) → standing y x ≡ opposite (standing x y)
standing_turned x y = stands_standing (opposite (standing x y)) y x (stands_turned (standing x y) x y (standing_stands x y))

-- what the compositions of single relations have, over all relations
above_first : (s : ℕ) → s < relations → T (has (composed above s) above)
unfolding relations has singles composed
above_first s h = each_at relations (λ s. has (composed above s) above) tt s h

below_last : (r : ℕ) → r < relations → T (has (composed r below) below)
unfolding relations has singles composed
below_last r h = each_at relations (λ r. has (composed r below) below) tt r h

side_first : (s : ℕ) → s < relations → T (has (composed side s) side)
unfolding relations has singles composed
side_first s h = each_at relations (λ s. has (composed side s) side) tt s h

side_last : (r : ℕ) → r < relations → T (has (composed r side) side)
unfolding relations has singles composed
side_last r h = each_at relations (λ r. has (composed r side) side) tt r h

below_above : (t : ℕ) → t < relations → T (has (composed below above) t)
unfolding relations has singles composed
below_above t h = each_at relations (λ t. has (composed below above) t) tt t h

side_side : (t : ℕ) → t < relations → T (has (composed side side) t)
unfolding relations has singles composed
side_side t h = each_at relations (λ t. has (composed side side) t) tt t h

-- three places, by whether their first steps agree, and how the rest stands
steps_composed : (a b c r s t : ℕ) → r < relations → s < relations → t < relations → T (has (composed r s) t) → (i j k : Bool)
    → eqb a b ≡ i → eqb b c ≡ j → eqb a c ≡ k
    → T (has (composed (elim i [ true ↦ r | false ↦ side ]) (elim j [ true ↦ s | false ↦ side ])) (elim k [ true ↦ t | false ↦ side ]))
unfolding relations
steps_composed a b c r s t hr hs ht h true true true d e f = h
steps_composed a b c r s t hr hs ht h true true false d e f = absurd (eqb-false a c f (eqb-true a b d ∙ eqb-true b c e))
steps_composed a b c r s t hr hs ht h true false true d e f = absurd (eqb-false b c e (sym (eqb-true a b d) ∙ eqb-true a c f))
steps_composed a b c r s t hr hs ht h true false false d e f = side_last r hr
steps_composed a b c r s t hr hs ht h false true true d e f = absurd (eqb-false a b d (eqb-true a c f ∙ sym (eqb-true b c e)))
steps_composed a b c r s t hr hs ht h false true false d e f = side_first s hs
steps_composed a b c r s t hr hs ht h false false true d e f = side_side t ht
steps_composed a b c r s t hr hs ht h false false false d e f = side_first side (omega arith)

-- how x stands to z is among what its standing to y and y's to z allow
pub standing_composed : (x y z : Place) → T (has (composed (standing x y) (standing y z)) (standing x z))
unfolding relations has singles composed standing
standing_composed [] [] [] = tt
standing_composed [] [] (c ∷ z) = tt
standing_composed [] (b ∷ y) [] = tt
standing_composed [] (b ∷ y) (c ∷ z) = above_first (standing (b ∷ y) (c ∷ z)) (standing_small (b ∷ y) (c ∷ z))
standing_composed (a ∷ x) [] [] = tt
standing_composed (a ∷ x) [] (c ∷ z) = below_above (standing (a ∷ x) (c ∷ z)) (standing_small (a ∷ x) (c ∷ z))
standing_composed (a ∷ x) (b ∷ y) [] = below_last (standing (a ∷ x) (b ∷ y)) (standing_small (a ∷ x) (b ∷ y))
standing_composed (a ∷ x) (b ∷ y) (c ∷ z) =
    steps_composed a b c (standing x y) (standing y z) (standing x z) (standing_small x y) (standing_small y z) (standing_small x z)
    (standing_composed x y z) (eqb a b) (eqb b c) (eqb a c) refl refl refl
