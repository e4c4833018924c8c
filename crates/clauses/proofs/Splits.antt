-- The row sets of a board: where sets of relations share out the single relations, the row sets share out the boards. Assumes nothing.
use mathlib.Core.Path.{◌≡◌, sym, subst}
use mathlib.Core.Bool.{Bool, not, ◌&&◌, ◌||◌}
use mathlib.Core.Logic.{⊎_elim}
use mathlib.Core.List.{List, map}
use Prim.Native.Nat.{ℕ, ◌^◌, ◌<◌}
use lib.Dec.{T, eqb, eqb→eq, T_not}
use lib.ListN.{length, get_or}
use Rattle.rules.specs.Relations.{some_below, each_below, relations, within}
use Rattle.rules.specs.Tables.{cell}
use Rattle.rules.proofs.Tests.{and_T, T-and_left, T-and_right, T-or, each_at, each_at_both, some_out}
use Rattle.rules.proofs.Arrangements.{One}
use Rattle.clauses.specs.Clauses.{Boards, Part, Disjoint, DisjointUnion}
use Rattle.clauses.proofs.Unions.{union_in}
use Rattle.clauses.proofs.Links.{leads, leading}

-- the single relation x that passes g is in one of these sets, and in no two of them; and none of them has one that does not pass
module _ (g : ℕ → Bool) (cs : List ℕ) where
  abbrev pub covers : ℕ → Bool
  covers x = leads (g x) (some_below (length cs) (λ i. within x (get_or cs i 0)))

  abbrev pub passes : ℕ → Bool
  passes x = each_below (length cs) (λ i. leads (within x (get_or cs i 0)) (g x))

  abbrev pub divides : ℕ → Bool
  divides x = each_below (length cs) (λ i. each_below (length cs) (λ j. eqb i j || not (within x (get_or cs i 0) && within x (get_or cs j 0))))

  abbrev pub splits : ℕ → Bool
  splits x = covers x && passes x && divides x

-- the boards to which board n's relation is in the set c
abbrev pub row : ℕ → List ℕ → ℕ → ℕ → Boards
row v t c n z = within (cell v t n z) c

-- the row of a board is split as the relations are
module _ (v : ℕ) (t : List ℕ) (g : ℕ → Bool) (cs : List ℕ) (n : ℕ) (o : (z : ℕ) → z < v → One (cell v t n z))
    (s : T (each_below relations (λ r. splits g cs (2 ^ r))))
  where
    pub row_split : DisjointUnion v (λ z. g (cell v t n z)) (map (λ c. row v t c n) cs)
    row_split = union_in (λ c. row v t c n) cs covered parts apart
      where
        tested : (z : ℕ) → z < v → T (splits g cs (cell v t n z))
        tested z h =
            let x = o z h in
            subst (λ (x : ℕ). T (splits g cs x)) (sym x.2) (each_at relations (λ r. splits g cs (2 ^ r)) s x.0 x.1)

        covered : (z : ℕ) → z < v → T (g (cell v t n z)) → (i : ℕ) × (i < length cs) × T (row v t (get_or cs i 0) n z)
        covered z h u =
            let x = cell v t n z in
            some_out (length cs) (λ i. within x (get_or cs i 0))
            (leading (g x) (some_below (length cs) (λ i. within x (get_or cs i 0)))
            (T-and_left (covers g cs x) (passes g cs x) (T-and_left (covers g cs x && passes g cs x) (divides g cs x) (tested z h))) u)

        parts : (i : ℕ) → i < length cs → Part v (row v t (get_or cs i 0) n) (λ z. g (cell v t n z))
        parts i l z h u =
            let x = cell v t n z in
            leading (within x (get_or cs i 0)) (g x)
            (each_at (length cs) (λ i. leads (within x (get_or cs i 0)) (g x))
            (T-and_right (covers g cs x) (passes g cs x) (T-and_left (covers g cs x && passes g cs x) (divides g cs x) (tested z h))) i l)
            u

        apart : (i j : ℕ) → i < length cs → j < length cs → (i ≡ j → ⊥) → Disjoint v (row v t (get_or cs i 0) n) (row v t (get_or cs j 0) n)
        apart i j l m d z h p q =
            let x = cell v t n z in
            ⊎_elim (λ e. d (eqb→eq i j e))
            (λ e. T_not (within x (get_or cs i 0) && within x (get_or cs j 0)) e (and_T (within x (get_or cs i 0)) (within x (get_or cs j 0)) p q))
            (T-or (eqb i j) (not (within x (get_or cs i 0) && within x (get_or cs j 0)))
            (each_at_both (length cs) (length cs) (λ i j. eqb i j || not (within x (get_or cs i 0) && within x (get_or cs j 0)))
            (T-and_right (covers g cs x && passes g cs x) (divides g cs x) (tested z h)) i j l m))
