-- The operations on sets of relations, as bytes have them. Assumes nothing.
use mathlib.Core.Path.{◌≡◌, sym, subst}
use Prim.Native.Nat.{ℕ, zero, suc, ◌*◌, ◌-◌, ◌%◌, ◌^◌, ◌<◌}
use native.Mathlib.Omega.{arith}
use lib.Bits.{bit_and, bit_or}
use lib.Count.{ones}
use lib.ListN.{get_or}
use Rattle.rules.specs.Relations.{relations, set_limit, set_to, set_of, has, opposite, meet, join, complement, converse, size}
use mathlib.Core.Bool.{◌||◌}
use Rattle.rules.proofs.Sets.{set_of_small}
use Rattle.rules.proofs.Entries.{value_at}
use Rattle.relations.specs.declared.TheConstants.{CONVERSE_ENTRIES}
use Rattle.relations.proofs.Bits.{set_to_and, set_to_or, set_to_not, count_ones}

join_small : (x y : ℕ) → join x y < set_limit
unfolding join
join_small x y = set_of_small (λ r. has x r || has y r)

-- a byte below 16 is a set
pub limit : (x : ℕ) → x < 16 → x < set_limit
unfolding relations
limit x h = h

pub and_meets : (x y : ℕ) → x < 16 → bit_and x y ≡ meet x y
unfolding set_of meet
and_meets x y h = sym (set_to_and relations x y (limit x h))

pub or_joins : (x y : ℕ) → x < 16 → y < 16 → bit_or x y ≡ join x y
unfolding set_of join
or_joins x y h k = sym (set_to_or relations x y (limit x h) (limit y k))

pub rest_complements : (x : ℕ) → x < 16 → 15 - x ≡ complement x
unfolding relations set_to set_of complement
rest_complements x h = omega (arith, set_to_not relations x h)

pub ones_count : (x : ℕ) → x < 16 → ones x ≡ size x
unfolding size
ones_count x h = sym (count_ones relations x (limit x h))

-- the join of two sets is a set
pub or_small : (x y : ℕ) → x < 16 → y < 16 → bit_or x y < 16
unfolding relations
or_small x y h k = subst (λ (n : ℕ). n < 16) (sym (or_joins x y h k)) (join_small x y)

-- the table of converses
pub turned : (x : ℕ) → x < 16 → get_or CONVERSE_ENTRIES x 0 ≡ converse x
unfolding relations has set_to set_of opposite converse
turned x h = value_at converse 16 x h

-- one relation is a set, and its number is not cut to a byte
pub single_in : (r : ℕ) → r < 4 → 1 * 2 ^ r % 256 < 16
single_in zero h = omega arith
single_in (suc zero) h = omega arith
single_in (suc (suc zero)) h = omega arith
single_in (suc (suc (suc zero))) h = omega arith
single_in (suc (suc (suc (suc r)))) h = let z : ⊥ = omega arith in absurd z
