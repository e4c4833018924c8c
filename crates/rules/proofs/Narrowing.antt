-- A cell narrowed to one of its relations, as a try does: a table inside the table, in which what is closed has at most that relation there, and
-- at most what was in every other cell. Assumes nothing.
use mathlib.Core.Path.{◌∙◌, subst}
use mathlib.Core.List.{List}
use Prim.Native.Nat.{ℕ, ◌^◌, ◌≤◌, ◌<◌}
use native.Mathlib.Omega.{arith}
use lib.Dec.{T}
use lib.ListN.{length, get_or, set, length-set}
use lib.Seq.{get_or-set_same}
use Rattle.rules.specs.Relations.{relations, set_limit, has, size, ◌lies_within◌}
use Rattle.rules.specs.Tables.{Table, Inside}
use Rattle.rules.proofs.Digits.{has_small}
use Rattle.rules.proofs.Sets.{lies_refl, single_lies, single_small, size_mono, size_single}
use Rattle.rules.proofs.Inside.{inside_trans}
use Rattle.rules.proofs.Strikes.{set_each}

module _ {v : ℕ} {t : List ℕ} (h : Table v t) (k r : ℕ) (member : T (has (get_or t k 0) r)) where
  pub narrowed_small : r < relations
  narrowed_small = has_small relations (get_or t k 0) r (h.small k) member

  pub narrowed_table : Table v (set t k (2 ^ r))
  narrowed_table =
      record {
        cells = length-set t k (2 ^ r) ∙ h.cells;
        small = set_each (λ j x. x < set_limit) t k (2 ^ r) h.small (single_small narrowed_small);
      }

  pub narrowed_inside : Inside (set t k (2 ^ r)) t
  narrowed_inside =
      record {
        cells = length-set t k (2 ^ r);
        each = set_each (λ j x. x lies_within get_or t j 0) t k (2 ^ r) (λ j. lies_refl (get_or t j 0)) (single_lies r (get_or t k 0) member);
      }

  module _ {u : List ℕ} (i : Inside u (set t k (2 ^ r))) where
    pub narrowed_at : k < length t → get_or u k 0 lies_within 2 ^ r
    narrowed_at l = subst (λ (x : ℕ). get_or u k 0 lies_within x) (get_or-set_same t k (2 ^ r) 0 l) (i.each k)

    pub narrowed_one : k < length t → size (get_or u k 0) ≤ 1
    narrowed_one l = omega (arith, size_mono (narrowed_at l), size_single r narrowed_small)

    pub narrowed_kept : (j : ℕ) → size (get_or t j 0) ≤ 1 → size (get_or u j 0) ≤ 1
    narrowed_kept j l = omega (arith, size_mono ((inside_trans i narrowed_inside).each j))
