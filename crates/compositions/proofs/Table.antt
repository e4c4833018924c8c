-- The table of compositions: each entry is the union over all pairs of members, computed once for the whole table. Assumes nothing.
use mathlib.Core.Path.{◌≡◌, refl, ap, ◌∙◌}
use mathlib.Core.List.{List, [], ◌∷◌, map}
use Prim.Native.Nat.{ℕ, zero, suc, ◌+◌, ◌<◌}
use native.Mathlib.Nat.{not-suc-le-zero, le_of_suc-le-suc}
use native.Mathlib.Omega.{arith}
use lib.ListN.{get_or}
use mathlib.Core.Bool.{◌&&◌}
use Rattle.rules.specs.Relations.{relations, set_to, set_of, singles, compose, composed, has, set_limit, some_below}
use Rattle.rules.proofs.Sets.{set_of_small}
use Rattle.rules.proofs.Entries.{values, value_at}
use Rattle.compositions.specs.Composing.{Composes}
use Rattle.compositions.specs.declared.entries.TheConstants.{ENTRIES}

-- the values of a function of two numbers: from i on m rows, each of n values
abbrev pub rows : (ℕ → ℕ → ℕ) → ℕ → ℕ → ℕ → List (List ℕ)
rows f i zero n = []
rows f i (suc m) n = values (f i) 0 n ∷ rows f (suc i) m n

row_at : (f : ℕ → ℕ → ℕ) (m n i k : ℕ) → k < m → get_or (rows f i m n) k [] ≡ values (f (i + k)) 0 n
row_at f zero n i k h = absurd (not-suc-le-zero h)
row_at f (suc m) n i zero h = let z : i ≡ i + 0 = omega arith in ap (λ (j : ℕ). values (f j) 0 n) z
row_at f (suc m) n i (suc k) h =
    let z : suc i + k ≡ i + suc k = omega arith in
    row_at f m n (suc i) k (le_of_suc-le-suc h) ∙ ap (λ (j : ℕ). values (f j) 0 n) z

-- the table has what each two sets compose to
pub listed : Composes (map (λ (row : record { now : List ℕ }). row.now) ENTRIES)
unfolding relations has set_to set_of singles composed compose
listed = record {
  sets = refl;
  entry =
      λ x y h l.
      let z : 0 + x ≡ x = omega arith in
      ap (λ (r : List ℕ). get_or r y 0) (row_at compose 16 16 0 x h ∙ ap (λ (j : ℕ). values (compose j) 0 16) z) ∙ value_at (compose x) 16 y l;
}

pub entry : (x y : ℕ) → x < set_limit → y < set_limit → get_or (get_or (map (λ (row : record { now : List ℕ }). row.now) ENTRIES) x []) y 0 ≡ compose x y
entry = listed.entry

-- what is told at a place of a list is what stands there in the list of all that is told
pub told_at : {X : Type 0} (now : X → List ℕ) (xs : List X) (k : ℕ) (d : X) → now d ≡ [] → now (get_or xs k d) ≡ get_or (map now xs) k []
told_at now [] k d e = e
told_at now (x ∷ xs) zero d e = refl
told_at now (x ∷ xs) (suc k) d e = told_at now xs k d e

-- what two sets compose to is a set
pub compose_small : (x y : ℕ) → compose x y < set_limit
unfolding compose
compose_small x y = set_of_small (λ t. some_below relations (λ r. has x r && some_below relations (λ s. has y s && has (composed r s) t)))
