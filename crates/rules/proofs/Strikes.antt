-- One cell narrowed by a set: a table inside the table, with as many relations less as the cell lost, which still holds every table whose cell lies
-- within the set. Assumes nothing.
use mathlib.Core.Path.{◌≡◌, sym, ◌∙◌, subst}
use mathlib.Core.Bool.{not}
use mathlib.Core.Logic.{⊎_elim}
use mathlib.Core.List.{List, [], ◌∷◌}
use Prim.Native.Nat.{ℕ, zero, suc, ◌+◌, ◌<◌}
use native.Mathlib.Nat.{not-suc-le-zero, le_of_suc-le-suc}
use native.Mathlib.Omega.{arith}
use lib.Dec.{T, eqb, ltb, eqb→eq, eqb_refl, ltb→lt, nltb→le, T_not}
use lib.ListN.{length, get_or, set, length-set, get_or-eq_default}
use lib.Seq.{get_or-set_same, get_or-set_other, set_out}
use Rattle.rules.specs.Relations.{set_limit, meet, size, ◌lies_within◌}
use Rattle.rules.specs.Tables.{Table, narrowed, Inside, total}
use Rattle.rules.proofs.Tests.{T-decide}
use Rattle.rules.proofs.Sets.{lies_refl, zero_lies, meet_small, meet_left, meet_right, meet_largest}

-- what holds of each cell, and of a at place k, holds of each cell after a is put there
pub set_each : (P : ℕ → ℕ → Type 0) (t : List ℕ) (k a : ℕ) → ((j : ℕ) → P j (get_or t j 0)) → P k a → (j : ℕ) → P j (get_or (set t k a) j 0)
set_each P t k a h e j = ⊎_elim here there (T-decide (eqb j k))
  where
    there : T (not (eqb j k)) → P j (get_or (set t k a) j 0)
    there n =
        subst (P j) (sym (get_or-set_other t k j a 0 (λ e. T_not (eqb j k) n (subst (λ (i : ℕ). T (eqb j i)) e (eqb_refl j))))) (h j)

    here : T (eqb j k) → P j (get_or (set t k a) j 0)
    here d =
        subst (λ (i : ℕ). P i (get_or (set t k a) i 0)) (sym (eqb→eq j k d))
        (⊎_elim (λ l. subst (P k) (sym (get_or-set_same t k a 0 (ltb→lt k (length t) l))) e)
        (λ n. subst (λ (u : List ℕ). P k (get_or u k 0)) (sym (set_out t k a (nltb→le k (length t) n))) (h k)) (T-decide (ltb k (length t))))

pub total_set : (t : List ℕ) (k x : ℕ) → k < length t → total (set t k x) + size (get_or t k 0) ≡ total t + size x
unfolding total
total_set [] k x h = absurd (not-suc-le-zero h)
total_set (y ∷ ys) zero x h = omega arith
total_set (y ∷ ys) (suc k) x h = omega (arith, total_set ys k x (le_of_suc-le-suc h))

module _ (t : List ℕ) (k b : ℕ) where
  pub strike_table : {v : ℕ} → Table v t → Table v (narrowed t k b)
  strike_table h =
      let c = meet (get_or t k 0) b in
      record { cells = length-set t k c ∙ h.cells; small = set_each (λ j x. x < set_limit) t k c h.small (meet_small (get_or t k 0) b) }

  pub strike_inside : Inside (narrowed t k b) t
  strike_inside =
      let c = meet (get_or t k 0) b in
      record {
        cells = length-set t k c;
        each = set_each (λ j x. x lies_within get_or t j 0) t k c (λ j. lies_refl (get_or t j 0)) (meet_left (get_or t k 0) b);
      }

  -- it loses no table in which the cell lies within the set
  pub strike_keeps : {w : List ℕ} → Inside w t → get_or w k 0 lies_within b → Inside w (narrowed t k b)
  strike_keeps {w} i d =
      let c = meet (get_or t k 0) b in
      record { cells = i.cells ∙ sym (length-set t k c); each = set_each (λ j x. get_or w j 0 lies_within x) t k c i.each (meet_largest (i.each k) d) }

  -- afterwards the cell lies within the set
  pub strike_within : get_or (narrowed t k b) k 0 lies_within b
  strike_within =
      let c = meet (get_or t k 0) b in
      ⊎_elim (λ l. subst (λ (x : ℕ). x lies_within b) (sym (get_or-set_same t k c 0 (ltb→lt k (length t) l))) (meet_right (get_or t k 0) b))
      (λ n. subst (λ (u : List ℕ). get_or u k 0 lies_within b) (sym (set_out t k c (nltb→le k (length t) n)))
      (subst (λ (x : ℕ). x lies_within b) (sym (get_or-eq_default t 0 (nltb→le k (length t) n))) (zero_lies b)))
      (T-decide (ltb k (length t)))

  -- a strike that changes nothing strikes nothing
  pub strike_idle : narrowed t k b ≡ t → get_or t k 0 lies_within b
  strike_idle e = subst (λ (u : List ℕ). get_or u k 0 lies_within b) e strike_within

  pub strike_total : k < length t → total (narrowed t k b) + size (get_or t k 0) ≡ total t + size (meet (get_or t k 0) b)
  strike_total h = total_set t k (meet (get_or t k 0) b) h
