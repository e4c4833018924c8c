-- Well-formed tables by the tests that the code makes, and how many cells there are. Assumes nothing.
use mathlib.Core.Path.{◌≡◌, sym, ap, ◌∙◌, subst}
use mathlib.Core.Logic.{⊎_elim}
use mathlib.Core.Bool.{Bool, true, false, ◌&&◌}
use mathlib.Core.List.{List}
use Prim.Native.Nat.{ℕ, ◌+◌, ◌*◌, ◌≤◌, ◌<◌}
use native.Mathlib.Nat.{mul-le-mul_right}
use native.Mathlib.Omega.{arith}
use borrow.Author.Count.{below_more}
use borrow.Author.Tests.{eq-eqb, ne_eqb}
use Rattle.std.proofs.lemmas.Bool.{cases_lt}
use lib.Dec.{ltb, lt→ltb, ltb→lt}
use lib.ListN.{length, get_or, take, replicate, length-replicate}
use lib.Seq.{length-take-le}
use Rattle.rules.specs.Relations.{each_of, relations, set_limit}
use Rattle.rules.specs.Descriptions.{most_cells, most_boards}
use Rattle.rules.specs.Calls.{well_formed}
use Rattle.rules.proofs.Tests.{T_true, T_false}
use Rattle.rules.proofs.Members.{each_of_out, each_of_places, member_at}
use Rattle.passes.specs.Passes.{Ready}
use Rattle.tables.specs.declared.Asked.{Asked}
use Rattle.tables.specs.declared.Asked.TheVariants.{Cells, Sets}
use Rattle.tables.specs.Asks.{asks}

-- a table's number of cells is small
pub square_small : (v : ℕ) → v ≤ most_boards → v * v ≤ most_cells
square_small v h = let l : v * v ≤ most_boards * v = mul-le-mul_right v h in omega arith

-- as many cells as v boards need are in a room of as many as a table has at most
pub cells_fit : (v x : ℕ) (t : List ℕ) {r : List ℕ} → v ≤ most_boards → length t ≡ v * v → r ≡ replicate most_cells x → length t ≤ length r
cells_fit v x t few cells room = omega (arith, square_small v few, ap length room ∙ length-replicate most_cells x)

-- a table fits in the room for one, where as many cells are taken for it
module _ {v : ℕ} {t r : List ℕ} (ready : Ready v t) (room : r ≡ replicate most_cells 0) where
  pub room_fits : length t ≤ length r
  room_fits = cells_fit v 0 t ready.boards ready.table.cells room

  pub room_taken : length (take (length t) r) ≡ length t
  room_taken = length-take-le (length t) r room_fits

-- ---- each cell is a set

-- what a test of the first i cells tells: that each is a set, or that some cell is none
abbrev pub SetsTo : List ℕ → ℕ → Bool → Type 0
SetsTo t i true = (k : ℕ) → k < i → get_or t k 0 ≤ 15
SetsTo t i false = (k : ℕ) × (k < i) × (15 < get_or t k 0)

module _ (t : List ℕ) where
  pub sets_start : SetsTo t 0 true
  sets_start k h = let z : ⊥ = omega arith in absurd z

  pub sets_more : (i : ℕ) (b : Bool) → SetsTo t i b → get_or t i 0 ≤ 15 → SetsTo t (i + 1) b
  sets_more i true f h = below_more (λ k. get_or t k 0 ≤ 15) i f h
  sets_more i false f h = (f.0, omega (arith, f.1), f.2)

  pub sets_not : (i : ℕ) → 15 < get_or t i 0 → SetsTo t (i + 1) false
  sets_not i h = (i, omega arith, h)

  -- what is told after a cell more: false past the sets, and else what was told
  pub sets_next : (i : ℕ) (b d : Bool) → SetsTo t i b → (15 < get_or t i 0 → d ≡ false) → (get_or t i 0 ≤ 15 → d ≡ b) → SetsTo t (i + 1) d
  sets_next i b d f past within =
      ⊎_elim (λ l. subst (SetsTo t (i + 1)) (sym (past l)) (sets_not i l)) (λ l. subst (SetsTo t (i + 1)) (sym (within l)) (sets_more i b f l))
      (cases_lt 15 (get_or t i 0))

  pub sets_told : (i : ℕ) → i ≤ length t → length t ≤ i → (b : Bool) → SetsTo t i b → b ≡ each_of (λ x. ltb x set_limit) t
  unfolding relations
  sets_told i most least true f =
      sym (T_true {b = each_of (λ x. ltb x set_limit) t}
      (each_of_places (λ x. ltb x set_limit) t (λ k l. lt→ltb (get_or t k 0) set_limit (omega (arith, f k (omega arith))))))
  sets_told i most least false f =
      let k = f.0 in
      sym (T_false {b = each_of (λ x. ltb x set_limit) t}
      (λ a.
      let m : get_or t k 0 < set_limit = ltb→lt (get_or t k 0) set_limit (each_of_out (λ x. ltb x set_limit) t a (get_or t k 0) (member_at t k (omega (arith, f.1)))) in
      omega (arith, f.2)))

  -- ---- what is asked for

  module _ (v : ℕ) where
    by_cells : Bool → Bool
    by_cells b = b && each_of (λ x. ltb x set_limit) t

    pub cells_differ : (length t ≡ v * v → ⊥) → (a : Asked) → false ≡ asks a v t
    unfolding well_formed by_cells
    cells_differ f Cells = sym (ne_eqb (length t) (v * v) f)
    cells_differ f Sets = sym (ap by_cells (ne_eqb (length t) (v * v) f))

    module _ (cells : length t ≡ v * v) where
      pub cells_enough : true ≡ asks Cells v t
      cells_enough = sym (eq-eqb (length t) (v * v) cells)

      pub cells_agree : {b : Bool} → b ≡ each_of (λ x. ltb x set_limit) t → b ≡ asks Sets v t
      unfolding well_formed by_cells
      cells_agree f = f ∙ sym (ap by_cells (eq-eqb (length t) (v * v) cells))
