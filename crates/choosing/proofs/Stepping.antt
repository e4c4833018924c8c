-- Going on along the pairs: each pair that is passed keeps what its cell holds. Assumes nothing.
use mathlib.Core.Path.{◌≡◌, sym, ap, ◌∙◌, subst}
use mathlib.Core.Logic.{⊎_elim}
use mathlib.Core.List.{List}
use Prim.Native.Nat.{ℕ, ◌+◌, ◌*◌, ◌≤◌, ◌<◌}
use native.Mathlib.Nat.{eq-or-lt_of_le}
use native.Mathlib.Omega.{arith}
use lib.ListN.{length, get_or, set, length-set}
use lib.Seq.{get_or-set_same, get_or-set_other}
use Rattle.rules.specs.Relations.{set_limit, size}
use Rattle.rules.specs.Tables.{cell}
use Rattle.rules.specs.Search.{places}
use Rattle.rules.proofs.Strikes.{set_each}
use Rattle.passes.specs.Passes.{Ready}
use Rattle.choosing.specs.declared.pairs.Pair.{Pair}
use Rattle.choosing.specs.Pairs.{pair_cell, IsPair}
use Rattle.choosing.specs.Choices.{PairSets, Passed, Several}
use Rattle.choosing.proofs.Walking.{pair_place, pair_within, pair_end}

-- a set may be put at any pair
pub sets_put : {v : ℕ} {cs : List ℕ} (m x : ℕ) → PairSets v cs → x < set_limit → PairSets v (set cs m x)
sets_put {cs = cs} m x b h =
    record {
      room = omega (arith, length-set cs m x);
      small = set_each (λ j y. y < set_limit) cs m x b.small h;
    }

-- The walk went on from the pair i to this one.
pub record Going (v : ℕ) (t cs : List ℕ) (i : ℕ) (ds : List ℕ) (at : Pair) : Type 0 where
  pub pair : IsPair v at
  pub room : length ds ≡ length cs
  pub passed : Passed v t cs i ds at.index

module _ {v : ℕ} {t cs : List ℕ} {i : ℕ} {ds : List ℕ} {at : Pair} where
  -- past the last pair
  pub going_end : Going v t cs i ds at → v ≤ at.q → Passed v t cs i ds (length (places v))
  going_end g l = subst (Passed v t cs i ds) (pair_end g.pair (λ m. omega arith)) g.passed

  -- the pair's set is there
  pub going_room : Going v t cs i ds at → at.q < v → at.index < length ds
  going_room g l = omega (arith, pair_within g.pair l)

  -- held is what the pair's cell holds
  module _ (r : Ready v t) (g : Going v t cs i ds at) (l : at.q < v) {held : ℕ} (holds : held ≡ cell v t at.p at.q) where
    held_place : held ≡ get_or t (pair_cell v at.index) 0
    held_place = holds ∙ ap (λ (k : ℕ). get_or t k 0) (sym (pair_place g.pair l))

    abbrev sets : List ℕ
    sets = set ds at.index held

    pub going_length : length sets ≡ length cs
    going_length = length-set ds at.index held ∙ g.room

    sets_here : get_or sets at.index 0 ≡ get_or t (pair_cell v at.index) 0
    sets_here = get_or-set_same ds at.index held 0 (going_room g l) ∙ held_place

    sets_before : (m : ℕ) → m < at.index → get_or sets m 0 ≡ get_or ds m 0
    sets_before m h = let o : (m ≡ at.index → ⊥) = λ e. omega arith in get_or-set_other ds at.index m held 0 o

    -- the sets up to the pair, and the pair's
    going_passed : Passed v t cs i sets at.index
    going_passed =
        let p = g.passed in
        record {
          sets = sets_put at.index held p.sets (subst (λ (x : ℕ). x < set_limit) (sym holds) (r.table.small (v * at.p + at.q)));
          after = p.after;
          before = λ m h. sets_before m (omega arith) ∙ p.before m h;
          single = p.single;
          kept = λ m h n. sets_before m n ∙ p.kept m h n;
        }

    -- a pair with several relations
    pub going_try : 1 < size held → Passed v t cs i sets at.index × Several v t sets at
    going_try h = (
      going_passed,
      record { pair = g.pair; within = l; many = subst (λ (x : ℕ). 1 < size x) held_place h; kept = sets_here },
    )

    -- a pair with at most one
    pub going_on : size held ≤ 1 → {to : Pair} → IsPair v to → to.index ≡ at.index + 1 → Going v t cs i sets to
    going_on h {to} k e =
        record {
          pair = k;
          room = going_length;
          passed =
              let p = going_passed in
              record {
                sets = p.sets;
                after = omega arith;
                before = p.before;
                single = λ m b n. here (λ j. size (get_or t (pair_cell v j) 0) ≤ 1) p.single (subst (λ (x : ℕ). size x ≤ 1) held_place h) m b n;
                kept = λ m b n. here (λ j. get_or sets j 0 ≡ get_or t (pair_cell v j) 0) p.kept sets_here m b n;
              };
        }
      where
        here : (P : ℕ → Type 0) → ((m : ℕ) → i ≤ m → m < at.index → P m) → P at.index → (m : ℕ) → i ≤ m → m < to.index → P m
        here P f x m b n =
            let l : m ≤ at.index = omega arith in ⊎_elim (λ d. subst P (sym d) x) (λ d. f m b d) (eq-or-lt_of_le l)
