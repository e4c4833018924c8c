-- Going back from a pair whose choice has failed: at each pair that is passed nothing was left besides the choice. Assumes nothing.
use mathlib.Core.Path.{◌≡◌, sym, ap, ◌∙◌, subst}
use mathlib.Core.Logic.{⊎_elim}
use mathlib.Core.List.{List}
use Prim.Native.Nat.{ℕ, ◌+◌, ◌≤◌, ◌<◌}
use native.Mathlib.Nat.{eq-or-lt_of_le}
use native.Mathlib.Omega.{arith}
use lib.ListN.{length, get_or, set, length-set}
use lib.Seq.{get_or-set_same, get_or-set_other}
use Rattle.std.proofs.lemmas.Grind.{get_or_default_zero}
use Rattle.rules.specs.Relations.{set_limit}
use Rattle.rules.specs.Search.{Order}
use Rattle.orders.specs.Orders.{unpicked}
use Rattle.orders.proofs.Picking.{unpicked_small}
use Rattle.choosing.specs.declared.pairs.Pair.{Pair}
use Rattle.choosing.specs.Pairs.{IsPair}
use Rattle.choosing.specs.Choices.{PairSets, Back}
use Rattle.choosing.proofs.Stepping.{sets_put}
use Rattle.choosing.proofs.Walking.{pair_within}

-- From the pair i on it has come back to this one: the sets up to it are as they were, and at the pairs after it nothing was left.
pub record Backing (v : ℕ) (ord cs : List ℕ) (i : ℕ) (ds : List ℕ) (at : Pair) : Type 0 where
  pub sets : PairSets v ds
  pub cells : length ds ≡ length cs
  pub pair : IsPair v at
  pub within : at.q < v
  pub most : at.index ≤ i
  pub before : (m : ℕ) → m ≤ at.index → get_or ds m 0 ≡ get_or cs m 0
  pub failed : (m : ℕ) → at.index < m → m ≤ i → unpicked ord (get_or cs m 0) ≡ 0

module _ {v : ℕ} {ord cs : List ℕ} {i : ℕ} {ds : List ℕ} {at : Pair} (b : Backing v ord cs i ds at) where
  pub backing_room : at.index < length ds
  backing_room = omega (arith, pair_within b.pair b.within, b.sets.room)

  pub backing_length : (x : ℕ) → length (set ds at.index x) ≡ length cs
  backing_length x = length-set ds at.index x ∙ b.cells

  -- what is left at this pair
  module _ (order : Order ord) {was left : ℕ} (read : was ≡ get_or ds at.index was) (is : left ≡ unpicked ord was) where
    left_is : left ≡ unpicked ord (get_or ds at.index 0)
    left_is = is ∙ ap (unpicked ord) (read ∙ get_or_default_zero ds at.index was backing_room)

    left_was : left ≡ unpicked ord (get_or cs at.index 0)
    left_was = left_is ∙ ap (unpicked ord) (b.before at.index (omega arith))

    -- they stay sets
    pub back_sets : PairSets v (set ds at.index left)
    back_sets =
        sets_put at.index left b.sets
        (subst (λ (x : ℕ). x < set_limit) (sym left_is) (unpicked_small order (get_or ds at.index 0) (b.sets.small at.index)))

    left_here : get_or (set ds at.index left) at.index 0 ≡ left
    left_here = get_or-set_same ds at.index left 0 backing_room

    left_before : (m : ℕ) → m < at.index → get_or (set ds at.index left) m 0 ≡ get_or cs m 0
    left_before m l =
        let o : (m ≡ at.index → ⊥) = λ e. omega arith in
        let n : m ≤ at.index = omega arith in
        get_or-set_other ds at.index m left 0 o ∙ b.before m n

    -- something is
    pub back_some : (left ≡ 0 → ⊥) → Back v ord cs i (set ds at.index left) at
    back_some n =
        record {
          sets = back_sets;
          pair = b.pair;
          within = b.within;
          most = b.most;
          before = left_before;
          here = left_here ∙ left_was;
          some = λ e. n (sym left_here ∙ e);
          failed = b.failed;
        }

    module _ (none : left ≡ 0) where
      failed_here : (m : ℕ) → at.index ≤ m → m ≤ i → unpicked ord (get_or cs m 0) ≡ 0
      failed_here m l h =
          ⊎_elim (λ (e : at.index ≡ m). subst (λ (k : ℕ). unpicked ord (get_or cs k 0) ≡ 0) e (sym left_was ∙ none)) (λ n. b.failed m n h) (eq-or-lt_of_le l)

      -- nothing is, and this is the first pair
      pub back_spent : at.index ≡ 0 → (m : ℕ) → m ≤ i → unpicked ord (get_or cs m 0) ≡ 0
      back_spent z m h = failed_here m (omega arith) h

      -- nothing is, and it goes back to the pair before
      pub back_on : {to : Pair} → IsPair v to → to.q < v → to.index + 1 ≡ at.index → Backing v ord cs i (set ds at.index left) to
      back_on {to} p h e =
          record {
            sets = back_sets;
            cells = backing_length left;
            pair = p;
            within = h;
            most = let l : at.index ≤ i = b.most in omega arith;
            before = λ m l. left_before m (omega arith);
            failed = λ m l k. failed_here m (omega arith) k;
          }
