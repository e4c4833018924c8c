-- Each rule reads the cells that its watch says and no others, and whether it reads a pair can be told. Assumes nothing.
use mathlib.Core.Path.{◌≡◌, refl, ap, ap₂, subst}
use mathlib.Core.Bool.{Bool, true, false, not, ◌&&◌, ◌||◌}
use mathlib.Core.Logic.{⊎_elim, ◌⊎◌, inl, inr}
use Prim.Native.Nat.{ℕ, zero, suc, ◌<◌}
use native.Mathlib.Omega.{arith}
use lib.Dec.{T, eqb, eqb→eq}
use Rattle.rules.specs.Relations.{some_below, same, E, A, has, complement, within, join, compose}
use Rattle.rules.specs.Descriptions.{KindLine}
use Rattle.rules.specs.Tables.{cell}
use Rattle.rules.specs.Arrangements.{way, width}
use Rattle.rules.specs.Closing.{unless, reaches, agree, bound6, bound6', bound7'}
use Rattle.rules.proofs.Tests.{T-decide, T-differ, below_suc}
use Rattle.moves.specs.Watches.{Honest, Is, through, feeds, feeds', apart, matches, matches'}

-- two tests that agree on each number below n
some_same : (n : ℕ) (f g : ℕ → Bool) → ((i : ℕ) → i < n → f i ≡ g i) → some_below n f ≡ some_below n g
some_same zero f g h = refl
some_same (suc n) f g h =
    ap₂ (λ (a b : Bool). elim a [ true ↦ true | false ↦ b ]) (h n (omega arith)) (some_same n f g (λ i l. h i (omega arith)))

pub through_honest : (v p q r : ℕ) → Honest v (through v p q r)
through_honest v p q r t u f = ap₂ compose (f p q (inl (refl, refl))) (f q r (inr (refl, refl)))

pub feeds_honest : (v : ℕ) (k : KindLine) (z : ℕ) → Honest v (feeds v k z)
unfolding bound6
feeds_honest v k z t u f =
    ap (λ (b : Bool). unless b (complement A))
    (some_same (width k) (λ i. reaches (cell v t (way k i) z)) (λ i. reaches (cell v u (way k i) z)) (λ i l. ap reaches (f (way k i) z (i, l, (refl, refl)))))

pub feeds'_honest : (v : ℕ) (k : KindLine) (i z : ℕ) → Honest v (feeds' v k i z)
unfolding bound6'
feeds'_honest v k i z t u f =
    ap₂ (λ (a b : Bool). unless (a || b) (join E A)) (ap (λ (x : ℕ). not (within x A)) (f k.p z (inl (refl, refl))))
    (some_same (width k) (λ j. not (eqb i j) && reaches (cell v t (way k j) z)) (λ j. not (eqb i j) && reaches (cell v u (way k j) z)) each)
  where
    each : (j : ℕ) → j < width k → (not (eqb i j) && reaches (cell v t (way k j) z)) ≡ (not (eqb i j) && reaches (cell v u (way k j) z))
    each j l = go (not (eqb i j)) (λ d. f (way k j) z (inr (j, l, (T-differ d, (refl, refl)))))
      where
        go : (b : Bool) → (T b → cell v t (way k j) z ≡ cell v u (way k j) z) → (b && reaches (cell v t (way k j) z)) ≡ (b && reaches (cell v u (way k j) z))
        go true e = ap reaches (e tt)
        go false e = refl

pub apart_honest : (v : ℕ) (k l : KindLine) → Honest v (apart v k l)
apart_honest v k l t u f = refl

pub matches_honest : (v : ℕ) (k l : KindLine) (i : ℕ) → Honest v (matches v k l i)
matches_honest v k l i t u f = ap (λ (x : ℕ). unless (agree k l && has x same) (complement E)) (f (way k i) (way l i) (refl, refl))

pub matches'_honest : (v : ℕ) (k l : KindLine) (i : ℕ) → Honest v (matches' v k l i)
unfolding bound7'
matches'_honest v k l i t u f = ap (λ (x : ℕ). unless (not (within x E)) E) (f k.p l.p (refl, refl))

-- ---- whether a pair is read

abbrev pub Told : Type 0 → Type 0
Told X = X ⊎ (X → ⊥)

pub is_told : (p q a b : ℕ) → Told (Is p q a b)
is_told p q a b =
    ⊎_elim
    (λ d. ⊎_elim (λ e. inl (eqb→eq a p d, eqb→eq b q e)) (λ n. inr (λ r. T-differ n r.1)) (T-decide (eqb b q)))
    (λ n. inr (λ r. T-differ n r.0)) (T-decide (eqb a p))

either_told : {X Y : Type 0} → Told X → Told Y → Told (X ⊎ Y)
either_told f g =
    ⊎_elim (λ x. inl (inl x)) (λ n. ⊎_elim (λ y. inl (inr y)) (λ m. inr (λ z. ⊎_elim n m z)) g) f

-- some number below n, of which it can be told
some_told : {X : ℕ → Type 0} (n : ℕ) → ((i : ℕ) → Told (X i)) → Told ((i : ℕ) × (i < n) × X i)
some_told zero f = inr (λ z. let e : ⊥ = omega (arith, z.1) in e)
some_told {X} (suc n) f = ⊎_elim (λ x. inl (n, omega arith, x)) (λ not-n. ⊎_elim (λ z. inl (z.0, less z.0 z.1, z.2)) (λ none. inr (rest not-n none)) (some_told n f)) (f n)
  where
    less : (i : ℕ) → i < n → i < suc n
    less i h = omega arith

    rest : (X n → ⊥) → ((i : ℕ) × (i < n) × X i → ⊥) → (i : ℕ) × (i < suc n) × X i → ⊥
    rest not-n none z = ⊎_elim (λ e. not-n (subst X e z.2)) (λ l. none (z.0, l, z.2)) (below_suc z.1)

pub through_told : (v p q r a b : ℕ) → Told ((through v p q r).Reads a b)
through_told v p q r a b = either_told (is_told p q a b) (is_told q r a b)

pub feeds_told : (v : ℕ) (k : KindLine) (z a b : ℕ) → Told ((feeds v k z).Reads a b)
feeds_told v k z a b = some_told (width k) (λ i. is_told (way k i) z a b)

pub feeds'_told : (v : ℕ) (k : KindLine) (i z a b : ℕ) → Told ((feeds' v k i z).Reads a b)
feeds'_told v k i z a b = either_told (is_told k.p z a b) (some_told (width k) (λ j. both_told j))
  where
    both_told : (j : ℕ) → Told ((i ≡ j → ⊥) × Is (way k j) z a b)
    both_told j =
        ⊎_elim (λ d. inr (λ r. r.0 (eqb→eq i j d))) (λ n. ⊎_elim (λ r. inl (T-differ n, r)) (λ o. inr (λ r. o r.1)) (is_told (way k j) z a b)) (T-decide (eqb i j))

pub matches_told : (v : ℕ) (k l : KindLine) (i a b : ℕ) → Told ((matches v k l i).Reads a b)
matches_told v k l i a b = is_told (way k i) (way l i) a b

pub matches'_told : (v : ℕ) (k l : KindLine) (i a b : ℕ) → Told ((matches' v k l i).Reads a b)
matches'_told v k l i a b = is_told k.p l.p a b
