-- Disjoint unions of sets of boards: of two sets, and over a list of boards by its places. Assumes nothing.
use mathlib.Core.Path.{◌≡◌, sym, subst}
use mathlib.Core.Bool.{false, ◌||◌}
use mathlib.Core.Logic.{⊎_elim}
use mathlib.Core.List.{List, [], ◌∷◌, map}
use Prim.Native.Nat.{ℕ, zero, suc, ◌<◌}
use native.Mathlib.Omega.{arith}
use lib.Dec.{T}
use lib.ListN.{length, get_or, length-map}
use Rattle.rules.proofs.Tests.{T-ext, or_T_left, or_T_right, T-or}
use Rattle.rules.proofs.Members.{at_map}
use Rattle.clauses.specs.Clauses.{Boards, Part, Disjoint, DisjointUnion}

-- what is in the disjoint union of two sets is in one of them
pub union_of_two : {v : ℕ} {X Y Z : Boards} → DisjointUnion v X (Y ∷ Z ∷ []) → (z : ℕ) → z < v → X z ≡ (Y z || Z z)
union_of_two {v} {X} {Y} {Z} u z h =
    T-ext (X z) (Y z || Z z) (λ t. there (u.covered z h t))
    (λ t. ⊎_elim (u.parts 0 (omega arith) z h) (u.parts 1 (omega arith) z h) (T-or (Y z) (Z z) t))
  where
    there : (i : ℕ) × (i < 2) × T (get_or (Y ∷ Z ∷ []) i (λ y. false) z) → T (Y z || Z z)
    there (zero, l, t) = or_T_left (Y z) (Z z) t
    there (suc zero, l, t) = or_T_right (Y z) (Z z) t
    there (suc (suc i), l, t) = absurd t

-- a disjoint union over a list of boards, by its places
module _ {v : ℕ} {X : Boards} (f : ℕ → Boards) (ys : List ℕ) (U : DisjointUnion v X (map f ys)) where
  placed : (i : ℕ) → i < length ys → i < length (map f ys)
  placed i h = subst (λ (n : ℕ). i < n) (sym (length-map ys f)) h

  put : (i : ℕ) → i < length ys → (z : ℕ) → T (f (get_or ys i 0) z) → T (get_or (map f ys) i (λ y. false) z)
  put i h z t = subst (λ (Y : Boards). T (Y z)) (sym (at_map f ys i 0 (λ y. false) h)) t

  pub union_covered : (z : ℕ) → z < v → T (X z) → (i : ℕ) × (i < length ys) × T (f (get_or ys i 0) z)
  union_covered z h t = from (U.covered z h t)
    where
      from : (i : ℕ) × (i < length (map f ys)) × T (get_or (map f ys) i (λ y. false) z) → (i : ℕ) × (i < length ys) × T (f (get_or ys i 0) z)
      from (i, l, s) =
          let g : i < length ys = subst (λ (n : ℕ). i < n) (length-map ys f) l in
          (i, g, subst (λ (Y : Boards). T (Y z)) (at_map f ys i 0 (λ y. false) g) s)

  pub union_part : (i : ℕ) → i < length ys → Part v (f (get_or ys i 0)) X
  union_part i h z l t = U.parts i (placed i h) z l (put i h z t)

  pub union_apart : (i j : ℕ) → i < length ys → j < length ys → (i ≡ j → ⊥) → Disjoint v (f (get_or ys i 0)) (f (get_or ys j 0))
  union_apart i j h g d z l s t = U.apart i j (placed i h) (placed j g) d z l (put i h z s) (put j g z t)

-- a disjoint union over a list, from what holds at its places
pub union_in : {v : ℕ} {X : Boards} (f : ℕ → Boards) (ys : List ℕ)
    → ((z : ℕ) → z < v → T (X z) → (i : ℕ) × (i < length ys) × T (f (get_or ys i 0) z))
    → ((i : ℕ) → i < length ys → Part v (f (get_or ys i 0)) X)
    → ((i j : ℕ) → i < length ys → j < length ys → (i ≡ j → ⊥) → Disjoint v (f (get_or ys i 0)) (f (get_or ys j 0)))
    → DisjointUnion v X (map f ys)
union_in {v} {X} f ys covered parts apart =
    record {
      covered = λ z h t.
          let c = covered z h t in
          let l : c.0 < length (map f ys) = subst (λ (n : ℕ). c.0 < n) (sym (length-map ys f)) c.1 in
          (c.0, l, subst (λ (Y : Boards). T (Y z)) (sym (place c.0 c.1)) c.2);
      parts = λ i h z l t. parts i (placed i h) z l (subst (λ (Y : Boards). T (Y z)) (place i (placed i h)) t);
      apart = λ i j h g d z l s t.
          apart i j (placed i h) (placed j g) d z l (subst (λ (Y : Boards). T (Y z)) (place i (placed i h)) s)
          (subst (λ (Y : Boards). T (Y z)) (place j (placed j g)) t);
    }
  where
    placed : (i : ℕ) → i < length (map f ys) → i < length ys
    placed i h = subst (λ (n : ℕ). i < n) (length-map ys f) h

    place : (i : ℕ) → i < length ys → get_or (map f ys) i (λ y. false) ≡ f (get_or ys i 0)
    place i h = at_map f ys i 0 (λ y. false) h
