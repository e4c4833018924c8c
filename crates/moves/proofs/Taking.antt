-- The list as code changes it: a pair put in, and the first one taken off. Assumes nothing.
use mathlib.Core.Path.{◌≡◌, sym, ap, ap₂, ◌∙◌, subst}
use mathlib.Core.List.{List}
use Prim.Native.Nat.{ℕ, ◌≤◌, ◌<◌}
use native.Mathlib.Omega.{arith}
use lib.Dec.{T}
use lib.ListN.{get_or, set}
use Rattle.std.specs.Prelude.{Some}
use Rattle.std.proofs.lemmas.List.{get_or_default}
use Rattle.rules.specs.Relations.{has}
use Rattle.rules.specs.Descriptions.{most_boards}
use Rattle.bits.specs.Sets.{added, added_at, Taken}
use Rattle.bits.proofs.Laws.{has_zero}
use Rattle.moves.specs.Moves.{Marks, PairTaken}

module _ (v : ℕ) (m : List ℕ) (few : v ≤ most_boards) (list : Marks v m) (p : ℕ) (below : p < v) (d : ℕ) where
  -- the word of a board, as code has read it
  is_word : get_or m p d ≡ get_or m p 0
  is_word = get_or_default m p d 0 (omega (arith, list.words))

  pub pair_put : (q x : ℕ) → x ≡ added (get_or m p d) q → set m p x ≡ added_at m p q
  pair_put q x e = ap (set m p) (e ∙ ap (λ (y : ℕ). added y q) is_word)

  pub pair_taken : (l : List ℕ) → l ≡ m → ((j : ℕ) → j < p → get_or l j 0 ≡ 0) → (q x : ℕ) → Taken (get_or l p d) x (Some q) → PairTaken v m (set l p x) (Some (p, q))
  pair_taken l same before q x taken =
      let word : get_or l p d ≡ get_or m p 0 = ap (λ (l : List ℕ). get_or l p d) same ∙ is_word in
      let t : Taken (get_or m p 0) x (Some q) = subst (λ (y : ℕ). Taken y x (Some q)) word taken in (
        record {
          most = omega arith;
          before = λ j h. ap (λ (l : List ℕ). get_or l j 0) (sym same) ∙ before j h;
          found = λ h e. absurd (subst T (ap (λ (y : ℕ). has y q) e ∙ has_zero q) t.1);
        },
        below,
        t.0,
        ap₂ (λ (l : List ℕ) (y : ℕ). set l p y) same t.3,
      )
