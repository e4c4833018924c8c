-- The sixteen compositions by what lies in the row sets: what clauses 16, 18 and 20 say of a third board allows exactly the relations composed.
-- Each fact is computed over all relations. Assumes nothing.
use mathlib.Core.Path.{◌≡◌, sym, subst}
use mathlib.Core.Bool.{Bool, true, false, not, ◌&&◌, ◌||◌}
use Prim.Native.Nat.{ℕ, ◌^◌, ◌<◌}
use lib.Dec.{T, eqb}
use Rattle.rules.specs.Relations.{relations, same, above, below, side, E, A, B, S, has, opposite, singles, composed}
use Rattle.rules.proofs.Tests.{each_at_both}

-- the one test passes only if the other does
abbrev pub leads : Bool → Bool → Bool
leads a b = not a || b

led : (a b : Bool) → (T a → T b) → T (leads a b)
led true b f = f tt
led false b f = tt

-- a board that is in the set X is in the set Y
pub carried : {X Y a b : Bool} → X ≡ a → Y ≡ b → (T X → T Y) → T (leads a b)
carried {a = a} {b} d e f = led a b (λ t. subst T e (f (subst T (sym d) t)))

-- the first passes, so the second does
pub leading : (a b : Bool) → T (leads a b) → T a → T b
leading true b t s = t
leading false b t s = absurd s

-- the tests of a cell that is relation j: at or above, and at or below
abbrev pub over : ℕ → Bool
over j = eqb (2 ^ j) E || eqb (2 ^ j) A

abbrev pub under : ℕ → Bool
under j = eqb (2 ^ j) E || eqb (2 ^ j) B

-- what clauses 16, 18 and 20 say of a board that has relation j to the second board and k to the first
abbrev pub united : ℕ → ℕ → Bool
united j k =
    leads (eqb (2 ^ j) E) (eqb (2 ^ k) E) && leads (eqb (2 ^ j) A) (eqb (2 ^ k) A) && leads (eqb (2 ^ j) B) (eqb (2 ^ k) B)
    && leads (eqb (2 ^ j) S) (eqb (2 ^ k) S)

abbrev pub hung : ℕ → ℕ → Bool
hung j k = leads (over j) (eqb (2 ^ k) A) && leads (under k) (eqb (2 ^ j) B) && leads (eqb (2 ^ k) S) (eqb (2 ^ j) S)

abbrev pub parted : ℕ → ℕ → Bool
parted j k = leads (over k) (eqb (2 ^ j) S) && leads (over j) (eqb (2 ^ k) S)

module _ (j k : ℕ) (hj : j < relations) (hk : k < relations) where
  pub same_links : T (united j k) → T (has (composed same j) k)
  unfolding relations has singles composed
  same_links = leading (united j k) _ (each_at_both relations relations (λ j k. leads (united j k) (has (composed same j) k)) tt j k hj hk)

  pub above_links : T (hung j k) → T (has (composed above j) k)
  unfolding relations has singles composed
  above_links = leading (hung j k) _ (each_at_both relations relations (λ j k. leads (hung j k) (has (composed above j) k)) tt j k hj hk)

  pub below_links : T (hung k j) → T (has (composed below j) k)
  unfolding relations has singles composed
  below_links = leading (hung k j) _ (each_at_both relations relations (λ j k. leads (hung k j) (has (composed below j) k)) tt j k hj hk)

  pub side_links : T (parted j k) → T (has (composed side j) k)
  unfolding relations has singles composed
  side_links = leading (parted j k) _ (each_at_both relations relations (λ j k. leads (parted j k) (has (composed side j) k)) tt j k hj hk)

  -- a round from a board to itself makes the way back the opposite
  pub back_links : T (has (composed j k) same) → T (eqb k (opposite j))
  unfolding relations has singles composed opposite
  back_links = leading (has (composed j k) same) _ (each_at_both relations relations (λ j k. leads (has (composed j k) same) (eqb k (opposite j))) tt j k hj hk)
