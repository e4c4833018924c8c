-- A table is narrowed choice by choice along the pairs, and the list has what that changes. Assumes nothing.
use mathlib.Core.Path.{◌≡◌, sym, ap, ◌∙◌, subst}
use mathlib.Core.Logic.{⊎_elim}
use mathlib.Core.List.{List}
use Prim.Native.Nat.{ℕ, ◌+◌, ◌≤◌, ◌<◌}
use native.Mathlib.Omega.{arith}
use Rattle.std.specs.Prelude.{Result, Ok, Err}
use Rattle.std.proofs.lemmas.Grind.{get_or_default_zero}
use lib.Dec.{T_not}
use lib.ListN.{length, get_or, replicate}
use Rattle.rules.specs.Relations.{◌lies_within◌, converse}
use Rattle.rules.specs.Descriptions.{most_boards}
use Rattle.rules.specs.Tables.{cell, emptied}
use Rattle.rules.specs.Search.{places}
use Rattle.rules.proofs.Tests.{below_suc}
use Rattle.rules.proofs.Sets.{lies_trans}
use Rattle.orders.specs.Orders.{pick}
use Rattle.moves.specs.declared.Emptied.{Emptied}
use Rattle.moves.specs.Moves.{Struck, Moved}
use Rattle.moves.proofs.Moving.{moved_then, strike_moved, strike_lost, strike_within}
use Rattle.choosing.specs.declared.pairs.Pair.{Pair}
use Rattle.choosing.specs.Pairs.{pair_cell, IsPair}
use Rattle.choosing.specs.Choices.{Chosen, Standing}
use Rattle.choosing.proofs.Walking.{pair_board, pair_place, pair_open}

-- what is picked of the set that was read
pub read_pick : (ord cs : List ℕ) (i : ℕ) {x y : ℕ} → i < length cs → y ≡ get_or cs i y → x ≡ pick ord y → x ≡ pick ord (get_or cs i 0)
read_pick ord cs i {x} {y} h read e = e ∙ ap (pick ord) (read ∙ get_or_default_zero cs i y h)

-- choices that are the same stand alike
pub standing_same : {v : ℕ} {ord cs ds t : List ℕ} {n : ℕ} → ((m : ℕ) → m < n → get_or ds m 0 ≡ get_or cs m 0) → Standing v ord cs t n → Standing v ord ds t n
standing_same {v} {ord} f s =
    record {
      x = s.x;
      table = s.table;
      filled = s.filled;
      chosen =
          record {
            inside = s.chosen.inside;
            turned = s.chosen.turned;
            picks = λ m h. subst (λ (c : ℕ). get_or s.x (pair_cell v m) 0 lies_within pick ord c) (sym (f m h)) (s.chosen.picks m h);
          };
    }

-- The choices before this pair are struck, of the n that are to be.
pub record Built (v : ℕ) (ord cs t : List ℕ) (n : ℕ) (w l : List ℕ) (at : Pair) : Type 0 where
  pub pair : IsPair v at
  pub most : at.index ≤ n
  pub moved : Moved (Chosen v ord cs t n) v t (replicate most_boards 0) w l
  pub picks : (m : ℕ) → m < at.index → get_or w (pair_cell v m) 0 lies_within pick ord (get_or cs m 0)

module _ {v : ℕ} {ord cs t : List ℕ} {n : ℕ} {w l : List ℕ} {at : Pair} (b : Built v ord cs t n w l at) where
  -- while choices are left, this is a pair
  pub built_open : n ≤ length (places v) → at.index < n → at.q < v
  built_open l m = pair_open b.pair (omega arith)

  module _ {x : ℕ} (within : at.q < v) (left : at.index < n) (e : x ≡ pick ord (get_or cs at.index 0)) where
    cell_at : (y : List ℕ) → get_or y (pair_cell v at.index) 0 ≡ cell v y at.p at.q
    cell_at y = ap (λ (k : ℕ). get_or y k 0) (pair_place b.pair within)

    below : at.p < v
    below = pair_board b.pair within

    asked : (y : List ℕ) → Chosen v ord cs t n y → (cell v y at.p at.q lies_within x) × (cell v y at.q at.p lies_within converse (cell v y at.p at.q))
    asked y c = (
      subst (λ (z : ℕ). cell v y at.p at.q lies_within z) (sym e) (subst (λ (z : ℕ). z lies_within pick ord (get_or cs at.index 0)) (cell_at y) (c.picks at.index left)),
      c.turned at.p at.q below within,
    )

    -- the strike never empties a cell: some table stands
    pub built_struck : {y k : List ℕ} (told : Result (Unit {0}) Emptied) → Standing v ord cs t n → Struck v at.p at.q x w l y k told → Struck v at.p at.q x w l y k (Ok tt)
    built_struck (Ok _) s r = r
    built_struck (Err _) s r =
        absurd (T_not (emptied s.x) s.filled (strike_lost b.moved.fit b.moved.list below within asked r s.x s.table s.chosen (b.moved.keeps s.x s.chosen s.chosen.inside)))

    pub built_more : {y k : List ℕ} {to : Pair} → Struck v at.p at.q x w l y k (Ok tt) → IsPair v to → to.index ≡ at.index + 1 → Built v ord cs t n y k to
    built_more {y} {k} {to} r h d =
        let g = strike_moved b.moved.fit b.moved.list below within asked r in
        record {
          pair = h;
          most = omega arith;
          moved = moved_then b.moved g;
          picks =
              λ m i.
              ⊎_elim (λ (f : m ≡ at.index). here g f) (λ (f : m < at.index). lies_trans (g.inside.each (pair_cell v m)) (b.picks m f)) (below_suc (omega arith));
        }
      where
        here : {m : ℕ} → Moved (Chosen v ord cs t n) v w l y k → m ≡ at.index → get_or y (pair_cell v m) 0 lies_within pick ord (get_or cs m 0)
        here {m} g f =
            subst (λ (i : ℕ). get_or y (pair_cell v i) 0 lies_within pick ord (get_or cs i 0)) (sym f)
            (subst (λ (z : ℕ). z lies_within pick ord (get_or cs at.index 0)) (sym (cell_at y))
            (subst (λ (z : ℕ). cell v y at.p at.q lies_within z) e (strike_within b.moved.fit b.moved.list below within asked r)))
