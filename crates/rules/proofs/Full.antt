-- The full table is a table, and every table is inside it. Assumes nothing.
use mathlib.Core.Path.{◌≡◌, sym, ◌∙◌, subst}
use mathlib.Core.Bool.{true}
use mathlib.Core.List.{List}
use Prim.Native.Nat.{ℕ, ◌*◌, ◌≤◌, ◌<◌}
use native.Mathlib.Omega.{arith}
use lib.Pow.{pow_pos}
use lib.ListN.{length, get_or, take, replicate, length-replicate, get_or-replicate}
use lib.Seq.{ext_get_or, get_or-take, length-take-le}
use Rattle.rules.specs.Relations.{relations, set_limit, full, ◌lies_within◌}
use Rattle.rules.specs.Tables.{Table, Inside, filled}
use Rattle.rules.proofs.Sets.{set_of_small, lies_full, zero_lies}
use Rattle.rules.proofs.Members.{everywhere}

-- as many cells, each of them a set, are a table
pub cells_table : {v : ℕ} {t : List ℕ} → length t ≡ v * v → ((k : ℕ) → k < v * v → get_or t k 0 < set_limit) → Table v t
cells_table {t = t} e small =
    record { cells = e; small = everywhere (λ k x. x < set_limit) t (λ k h. small k (subst (λ (n : ℕ). k < n) e h)) (λ k. pow_pos relations) }

full_small : full < set_limit
unfolding full
full_small = set_of_small (λ r. true)

pub filled_cells : (v : ℕ) → length (filled v) ≡ v * v
filled_cells v = length-replicate (v * v) full

pub full_table : (v : ℕ) → Table v (filled v)
full_table v =
    cells_table (filled_cells v)
    (λ k h. subst (λ (n : ℕ). n < set_limit) (sym (get_or-replicate (v * v) k full 0 h)) full_small)

-- every table is inside the full one
pub inside_full : {v : ℕ} {t : List ℕ} → Table v t → Inside t (filled v)
inside_full {v} {t} h =
    record {
      cells = h.cells ∙ sym (filled_cells v);
      each = everywhere (λ k x. x lies_within get_or (filled v) k 0) t within (λ k. zero_lies (get_or (filled v) k 0));
    }
  where
    within : (k : ℕ) → k < length t → get_or t k 0 lies_within get_or (filled v) k 0
    within k l =
        subst (λ (n : ℕ). get_or t k 0 lies_within n) (sym (get_or-replicate (v * v) k full 0 (subst (λ (n : ℕ). k < n) h.cells l))) (lies_full (get_or t k 0))

-- as many full cells as v boards need, taken from room for more, are the full table
pub filled_taken : (v n : ℕ) → v * v ≤ n → take (v * v) (replicate n full) ≡ filled v
filled_taken v n h =
    let cells : length (take (v * v) (replicate n full)) ≡ v * v = length-take-le (v * v) (replicate n full) (omega (arith, length-replicate n full)) in
    ext_get_or 0 (take (v * v) (replicate n full)) (filled v) (cells ∙ sym (filled_cells v)) (λ k l.
    let below : k < v * v = subst (λ (m : ℕ). k < m) cells l in
    get_or-take (v * v) (replicate n full) k 0 below ∙ get_or-replicate n k full 0 (omega arith) ∙ sym (get_or-replicate (v * v) k full 0 below))
