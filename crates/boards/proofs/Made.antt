-- Tables by their cells: one is made from what each cell is to be, and two with the same cells are the same.
-- Assumes nothing.
use mathlib.Core.Path.{◌≡◌, sym, ap, ap₂, ◌∙◌, subst}
use mathlib.Core.List.{List}
use Prim.Native.Nat.{ℕ, ◌+◌, ◌*◌, ◌/◌, ◌%◌, ◌<◌}
use native.Mathlib.Nat.{mul_comm}
use lib.Arith.{digits_div, digits_mod}
use lib.ListN.{length, get_or}
use lib.Seq.{ext_get_or}
use Rattle.rules.specs.Relations.{set_limit}
use Rattle.rules.specs.Tables.{cell, Table}
use Rattle.rules.proofs.Entries.{values, value_at, values_length}
use Rattle.rules.proofs.Inside.{in_range_lem, place, each_place}
use Rattle.rules.proofs.Full.{cells_table}

-- the table of v boards whose cell (p, q) is f p q
unfoldable pub made : ℕ → (ℕ → ℕ → ℕ) → List ℕ
made v f = values (λ k. f (k / v) (k % v)) 0 (v * v)

row : (v p q : ℕ) → q < v → (v * p + q) / v ≡ p
row v p q h = ap (λ (n : ℕ). (n + q) / v) (mul_comm v p) ∙ digits_div p {m = v} h

column : (v p q : ℕ) → q < v → (v * p + q) % v ≡ q
column v p q h = ap (λ (n : ℕ). (n + q) % v) (mul_comm v p) ∙ digits_mod p {m = v} h

pub made_cell : (v : ℕ) (f : ℕ → ℕ → ℕ) (p q : ℕ) → p < v → q < v → cell v (made v f) p q ≡ f p q
unfolding made
made_cell v f p q h l =
    value_at (λ k. f (k / v) (k % v)) (v * v) (v * p + q) (in_range_lem v p q h l) ∙ ap₂ f (row v p q l) (column v p q l)

made_cells : (v : ℕ) (f : ℕ → ℕ → ℕ) → length (made v f) ≡ v * v
unfolding made
made_cells v f = values_length (λ k. f (k / v) (k % v)) 0 (v * v)

pub made_table : (v : ℕ) (f : ℕ → ℕ → ℕ) → ((p q : ℕ) → p < v → q < v → f p q < set_limit) → Table v (made v f)
made_table v f small = cells_table (made_cells v f) (λ k h. from k (place v k h))
  where
    from : (k : ℕ) → (p : ℕ) × (q : ℕ) × (p < v) × (q < v) × (k ≡ v * p + q) → get_or (made v f) k 0 < set_limit
    from k (p, q, hp, hq, e) =
        subst (λ (n : ℕ). n < set_limit) (sym (made_cell v f p q hp hq) ∙ ap (λ (n : ℕ). get_or (made v f) n 0) (sym e)) (small p q hp hq)

-- two tables with the same cells are the same
pub same_cells : {v : ℕ} {t u : List ℕ} → Table v t → Table v u → ((p q : ℕ) → p < v → q < v → cell v t p q ≡ cell v u p q) → t ≡ u
same_cells {v} {t} {u} h l e = ext_get_or 0 t u (h.cells ∙ sym l.cells) (each_place (λ k. get_or t k 0 ≡ get_or u k 0) h e)
