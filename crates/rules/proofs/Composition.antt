-- Composition and converse of sets: E is neutral, the converse of a composition, monotone in both arguments, the empty set. Monotony is by
-- membership; the equations are each one test that antt computes over all sets or pairs of sets. Assumes nothing.
use mathlib.Core.Path.{◌≡◌, refl, subst}
use mathlib.Core.Bool.{◌&&◌}
use Prim.Native.Nat.{ℕ, ◌^◌, ◌<◌}
use lib.Dec.{T, eqb, ltb, eqb→eq, ltb→lt}
use Rattle.rules.specs.Relations.{some_below, relations, set_limit, E, has, set_to, set_of, opposite, converse, singles, composed, compose, ◌lies_within◌}
use Rattle.rules.proofs.Tests.{and_T, T-and_left, T-and_right, some_in, some_out, each_at, each_at_both}
use Rattle.rules.proofs.Digits.{has_zero}
use Rattle.rules.proofs.Sets.{set_of_small, set_of_in, set_of_out, lies_zero}

-- ---- converse

pub opposite_small : (r : ℕ) → r < relations → opposite r < relations
unfolding relations opposite
opposite_small r h = ltb→lt (opposite r) relations (each_at relations (λ r. ltb (opposite r) relations) tt r h)

pub converse_small : (x : ℕ) → converse x < set_limit
unfolding converse
converse_small x = set_of_small (λ r. has x (opposite r))

pub converse_mono : {x y : ℕ} → x lies_within y → converse x lies_within converse y
unfolding converse
converse_mono {x} {y} s =
    record {
      member =
          λ r h t.
          set_of_in (λ r. has y (opposite r)) r h
          (s.member (opposite r) (opposite_small r h) (set_of_out (λ r. has x (opposite r)) r h t));
    }

pub converse_converse : (x : ℕ) → x < set_limit → converse (converse x) ≡ x
unfolding relations has set_to set_of opposite converse
converse_converse x h = eqb→eq (converse (converse x)) x (each_at set_limit (λ x. eqb (converse (converse x)) x) tt x h)

pub converse_single : (r : ℕ) → r < relations → converse (2 ^ r) ≡ 2 ^ opposite r
unfolding relations has set_to set_of opposite converse
converse_single r h = eqb→eq (converse (2 ^ r)) (2 ^ opposite r) (each_at relations (λ r. eqb (converse (2 ^ r)) (2 ^ opposite r)) tt r h)

pub converse_zero : converse 0 ≡ 0
unfolding relations has set_to set_of opposite converse
converse_zero = refl

-- ---- composition

pub compose_small : (x y : ℕ) → compose x y < set_limit
unfolding compose
compose_small x y = set_of_small (λ t. some_below relations (λ r. has x r && some_below relations (λ s. has y s && has (composed r s) t)))

-- t is in the composition exactly if it is in that of some members
pub compose_in : (x y r s t : ℕ) → r < relations → s < relations → t < relations → T (has x r) → T (has y s) → T (has (composed r s) t)
    → T (has (compose x y) t)
unfolding compose
compose_in x y r s t hr hs ht a b c =
    set_of_in (λ t. some_below relations (λ r. has x r && some_below relations (λ s. has y s && has (composed r s) t))) t ht
    (some_in relations (λ r. has x r && some_below relations (λ s. has y s && has (composed r s) t)) r hr
    (and_T (has x r) (some_below relations (λ s. has y s && has (composed r s) t)) a
    (some_in relations (λ s. has y s && has (composed r s) t) s hs (and_T (has y s) (has (composed r s) t) b c))))

-- what makes t a member of the composition of x with y
pub record Through (x y t : ℕ) : Type 0 where
  pub r : ℕ
  pub s : ℕ
  pub r_small : r < relations
  pub s_small : s < relations
  pub first : T (has x r)
  pub second : T (has y s)
  pub whole : T (has (composed r s) t)

pub compose_out : (x y t : ℕ) → t < relations → T (has (compose x y) t) → Through x y t
unfolding compose
compose_out x y t h u =
    rows (some_out relations (λ r. has x r && some_below relations (λ s. has y s && has (composed r s) t))
    (set_of_out (λ t. some_below relations (λ r. has x r && some_below relations (λ s. has y s && has (composed r s) t))) t h u))
  where
    columns : (r : ℕ) → r < relations → T (has x r) → (s : ℕ) × (s < relations) × T (has y s && has (composed r s) t) → Through x y t
    columns r hr a m =
        record {
          r = r;
          s = m.0;
          r_small = hr;
          s_small = m.1;
          first = a;
          second = T-and_left (has y m.0) (has (composed r m.0) t) m.2;
          whole = T-and_right (has y m.0) (has (composed r m.0) t) m.2;
        }

    rows : (r : ℕ) × (r < relations) × T (has x r && some_below relations (λ s. has y s && has (composed r s) t)) → Through x y t
    rows m =
        let r = m.0 in
        columns r m.1 (T-and_left (has x r) (some_below relations (λ s. has y s && has (composed r s) t)) m.2)
        (some_out relations (λ s. has y s && has (composed r s) t)
        (T-and_right (has x r) (some_below relations (λ s. has y s && has (composed r s) t)) m.2))

pub compose_mono : {x x' y y' : ℕ} → x lies_within x' → y lies_within y' → compose x y lies_within compose x' y'
compose_mono {x} {x'} {y} {y'} a b = record { member = λ t h u. go t h (compose_out x y t h u) }
  where
    go : (t : ℕ) → t < relations → Through x y t → T (has (compose x' y') t)
    go t h m =
        compose_in x' y' m.r m.s t m.r_small m.s_small h (a.member m.r m.r_small m.first)
        (b.member m.s m.s_small m.second) m.whole

pub compose_zero_left : (y : ℕ) → compose 0 y ≡ 0
compose_zero_left y = lies_zero (compose_small 0 y) (record { member = λ t h u. go t (compose_out 0 y t h u) })
  where
    go : (t : ℕ) → Through 0 y t → T (has 0 t)
    go t m = absurd (subst T (has_zero m.r) m.first)

pub compose_zero_right : (x : ℕ) → compose x 0 ≡ 0
compose_zero_right x = lies_zero (compose_small x 0) (record { member = λ t h u. go t (compose_out x 0 t h u) })
  where
    go : (t : ℕ) → Through x 0 t → T (has 0 t)
    go t m = absurd (subst T (has_zero m.s) m.second)

-- E is neutral
pub compose_E_left : (x : ℕ) → x < set_limit → compose E x ≡ x
unfolding relations has set_to set_of singles composed compose
compose_E_left x h = eqb→eq (compose E x) x (each_at set_limit (λ x. eqb (compose E x) x) tt x h)

pub compose_E_right : (x : ℕ) → x < set_limit → compose x E ≡ x
unfolding relations has set_to set_of singles composed compose
compose_E_right x h = eqb→eq (compose x E) x (each_at set_limit (λ x. eqb (compose x E) x) tt x h)

-- the converse of a composition is that of the converses, the other way round
pub converse_compose : (x y : ℕ) → x < set_limit → y < set_limit → converse (compose x y) ≡ compose (converse y) (converse x)
unfolding relations has set_to set_of opposite converse singles composed compose
converse_compose x y h k =
    eqb→eq (converse (compose x y)) (compose (converse y) (converse x))
    (each_at_both set_limit set_limit (λ x y. eqb (converse (compose x y)) (compose (converse y) (converse x))) tt x y h k)

-- the composition of two single relations is what the table of sixteen says
pub compose_single : (r s : ℕ) → r < relations → s < relations → compose (2 ^ r) (2 ^ s) ≡ composed r s
unfolding relations has set_to set_of singles composed compose
compose_single r s h k =
    eqb→eq (compose (2 ^ r) (2 ^ s)) (composed r s)
    (each_at_both relations relations (λ r s. eqb (compose (2 ^ r) (2 ^ s)) (composed r s)) tt r s h k)
