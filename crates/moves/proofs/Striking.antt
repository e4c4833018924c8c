-- A pair that is put: both cells, the list and what is told, where that changes something and where not. Assumes nothing.
use mathlib.Core.Path.{◌≡◌, refl, sym, ap, ap₂, ◌∙◌, subst}
use mathlib.Core.Bool.{Bool, true, false}
use mathlib.Core.List.{List}
use Prim.Native.Nat.{ℕ, ◌+◌, ◌*◌, ◌<◌}
use borrow.Author.Tests.{eq-eqb, ne_eqb}
use lib.Dec.{T, eqb, T_not}
use lib.ListN.{length, set, length-set}
use lib.Seq.{get_or-set_same, get_or-set_other, set-get_or}
use Rattle.rules.specs.Relations.{◌lies_within◌, converse}
use Rattle.rules.specs.Tables.{cell, Table, emptied}
use Rattle.std.specs.Prelude.{Result, Ok, Err}
use Rattle.std.proofs.lemmas.Bool.{eqb-true}
use Rattle.rules.proofs.Tests.{clash}
use Rattle.rules.proofs.Sets.{lies_zero}
use Rattle.rules.proofs.Inside.{in_range_lem, emptied_in}
use Rattle.passes.specs.Passes.{Ready}
use Rattle.passes.proofs.Passes.{ready_place}
use Rattle.moves.specs.declared.Emptied.{Emptied}
use Rattle.moves.specs.Moves.{told_of, Mutual, written_both, noted, PairPut, kept_of, Struck}

-- no cell of the table is empty
pub cell_some : {v : ℕ} {t : List ℕ} {p q : ℕ} → Mutual v t → p < v → q < v → cell v t p q ≡ 0 → ⊥
cell_some {v} {t} {p} {q} u hp hq e = T_not (emptied t) u.filled (emptied_in t (v * p + q) (ready_place u.ready hp hq) e)

-- a place of the table is one of the table with a cell written
pub place_after : {v p q : ℕ} (t : List ℕ) (k x : ℕ) → Ready v t → p < v → q < v → v * p + q < length (set t k x)
place_after {v} {p} {q} t k x r hp hq = subst (λ (n : ℕ). v * p + q < n) (sym (length-set t k x)) (ready_place r hp hq)

-- a table that has nothing in some cell
pub within_none : {v p q : ℕ} {x : List ℕ} → Table v x → p < v → q < v → cell v x p q lies_within 0 → T (emptied x)
within_none {v} {p} {q} {x} h hp hq f =
    emptied_in x (v * p + q) (subst (λ (n : ℕ). v * p + q < n) (sym h.cells) (in_range_lem v p q hp hq)) (lies_zero (h.small (v * p + q)) f)

-- ---- a pair that is put

-- the two cells, which are one for a board beside itself
module _ {v p q : ℕ} (x : ℕ) {t : List ℕ} (r : Ready v t) (hp : p < v) (hq : q < v) where
  pub written_here : (v * p + q ≡ v * q + p → ⊥) → cell v (written_both v t p q x) p q ≡ x
  written_here f =
      get_or-set_other (set t (v * p + q) x) (v * q + p) (v * p + q) (converse x) 0 f ∙ get_or-set_same t (v * p + q) x 0 (ready_place r hp hq)

  pub written_there : cell v (written_both v t p q x) q p ≡ converse x
  written_there = get_or-set_same (set t (v * p + q) x) (v * q + p) (converse x) 0 (place_after t (v * p + q) x r hq hp)

-- where both cells were so before, nothing changes
pub written_back : (v p q : ℕ) {x : ℕ} (t : List ℕ) → cell v t p q ≡ x → cell v t q p ≡ converse x → written_both v t p q x ≡ t
written_back v p q t e f =
    ap₂ (λ (u : List ℕ) (y : ℕ). set u (v * q + p) y) (ap (λ (y : ℕ). set t (v * p + q) y) (sym e) ∙ set-get_or t (v * p + q) 0) (sym f) ∙ set-get_or t (v * q + p) 0

-- what was told of an empty set, and of one that is not
told_some : (b : Bool) → Ok tt ≡ told_of b → b ≡ true → ⊥
told_some true e f = clash (cc)
told_some false e f = clash (cc)

told_none : {d : Emptied} (b : Bool) → Err d ≡ told_of b → b ≡ true
told_none true e = refl
told_none false e = clash (cc)

module _ {v p q x : ℕ} {t m : List ℕ} {idle : Bool} where
  -- what need not be put
  pub put_idle : cell v t p q ≡ x → cell v t q p ≡ converse x → (x ≡ 0 → ⊥) → idle ≡ true → PairPut idle v p q x t m t m (Ok tt)
  put_idle e f some i =
      record {
        cells = sym (written_back v p q t e f);
        list = sym (ap (λ (z : Bool). noted z m p q) i);
        told = sym (ap told_of (ne_eqb _ _ some));
      }

  -- what was put, of a pair that is not idle
  pub put_so : {is : ℕ} {w n : List ℕ} {r : Result (Unit {0}) Emptied} → is ≡ x → idle ≡ false → PairPut false v p q is t m w n r → PairPut idle v p q x t m w n r
  put_so {is} {w} {n} {r} e i s =
      subst (λ (z : Bool). PairPut z v p q x t m w n r) (sym i) (subst (λ (y : ℕ). PairPut false v p q y t m w n r) e s)

  -- what was told
  pub put_some : {w n : List ℕ} → PairPut idle v p q x t m w n (Ok tt) → x ≡ 0 → ⊥
  put_some s e = told_some (eqb x 0) s.told (eq-eqb x 0 e)

  pub put_lost : {w n y : List ℕ} {d : Emptied} → PairPut idle v p q x t m w n (Err d) → p < v → q < v → Table v y → cell v y p q lies_within x → T (emptied y)
  put_lost {y = y} s hp hq h f =
      let none : x ≡ 0 = eqb-true x 0 (told_none (eqb x 0) s.told) in
      within_none h hp hq (subst (λ (z : ℕ). cell v y p q lies_within z) none f)

-- a strike that changes nothing
pub struck_not : {v p q is : ℕ} (b : ℕ) {t m : List ℕ} → Mutual v t → p < v → q < v → is ≡ kept_of v t p q b → is ≡ cell v t p q → Struck v p q b t m t m (Ok tt)
struck_not {v} {p} {q} b {t} u hp hq e f =
    let c : kept_of v t p q b ≡ cell v t p q = sym e ∙ f in
    put_idle (sym c) (u.mirrored p q hp hq ∙ ap converse (sym c)) (λ z. cell_some u hp hq (sym c ∙ z)) (eq-eqb _ _ c)
