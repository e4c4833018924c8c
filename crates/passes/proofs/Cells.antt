-- A table is written cell by cell, whatever is written. Assumes nothing.
use mathlib.Core.Path.{◌≡◌, ◌∙◌}
use mathlib.Core.List.{List}
use Prim.Native.Nat.{ℕ, ◌+◌, ◌≤◌, ◌<◌}
use native.Mathlib.Omega.{arith}
use borrow.Author.Count.{below_more}
use lib.ListN.{length, get_or, set, length-set}
use lib.Seq.{ext_get_or, get_or-set_same, get_or-set_other}

-- the first i cells of w are those of u, and w has as many cells
pub record Laid (u w : List ℕ) (i : ℕ) : Type 0 where
  pub cells : length w ≡ length u
  pub within : i ≤ length u
  pub each : (k : ℕ) → k < i → get_or w k 0 ≡ get_or u k 0

pub laid_none : {u w : List ℕ} → length w ≡ length u → Laid u w 0
laid_none e = record { cells = e; within = omega arith; each = λ k h. let z : ⊥ = omega arith in absurd z }

pub laid_more : {u w : List ℕ} {i x : ℕ} → Laid u w i → i < length u → x ≡ get_or u i 0 → Laid u (set w i x) (i + 1)
laid_more {u} {w} {i} {x} l h d =
    let e : length w ≡ length u = l.cells in
    record {
      cells = length-set w i x ∙ e;
      within = omega arith;
      each =
          below_more (λ k. get_or (set w i x) k 0 ≡ get_or u k 0) i (λ k m. let o : (k ≡ i → ⊥) = λ e. omega arith in get_or-set_other w i k x 0 o ∙ l.each k m)
          (get_or-set_same w i x 0 (omega arith) ∙ d);
    }

pub laid_all : {u w : List ℕ} {i : ℕ} → Laid u w i → length u ≤ i → w ≡ u
laid_all {u} {w} l h = ext_get_or 0 w u l.cells (λ k m. let e : length w ≡ length u = l.cells in l.each k (omega arith))
