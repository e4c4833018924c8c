-- What closing and opening come to, by what closing working cells comes to. Assumes nothing.
use mathlib.Core.Path.{◌≡◌, sym, ap, ap₂, ◌∙◌, subst}
use mathlib.Core.List.{List}
use Prim.Native.Nat.{ℕ, ◌+◌, ◌*◌, ◌≤◌}
use native.Mathlib.Omega.{arith}
use lib.Dec.{T, T_not}
use lib.ListN.{length, take, replicate}
use Rattle.rules.specs.Relations.{full}
use Rattle.rules.specs.Descriptions.{most_boards, most_cells, Sheet, good, read}
use Rattle.rules.specs.Tables.{Table, filled, emptied, total}
use Rattle.rules.specs.Closed.{strikes}
use Rattle.rules.specs.Closing.{closing}
use Rattle.rules.specs.Calls.{refuse, succeed, close_into, opening, close}
use Rattle.rules.proofs.Tests.{T_true, T_false}
use Rattle.rules.proofs.Largest.{closing_largest, largest_unique}
use Rattle.rules.proofs.Full.{full_table, filled_taken}
use Rattle.rules.proofs.Called.{by_cells, opening_good, close_good}
use Rattle.answers.specs.Answers.{Answer, answered, outcome}
use Rattle.headers.specs.declared.Header.{Header}
use Rattle.sheet.proofs.Described.{described}
use Rattle.std.specs.Prelude.{Result, Ok, Err}
use Rattle.moves.specs.declared.Emptied.{Emptied}
use Rattle.tables.proofs.Shapes.{square_small, cells_fit}
use Rattle.closing.specs.Closes.{Measured, Admitted, Closes, closes, ClosesUnder, ClosedInto}

-- ---- a table closed into the lent one

module _ (lent : List ℕ) (s : Sheet) (t : List ℕ) where
  into_contradictory : T (emptied (closing s t)) → refuse 7 0 lent ≡ close_into lent s t
  into_contradictory e = sym (ap (by_cells lent s t) (T_true {b = emptied (closing s t)} e))

  into_closed : Table s.boards t → (w : List ℕ) (n : ℕ) → Closes s t w n → succeed n w ≡ close_into lent s t
  into_closed table w n k =
      let e : w ≡ closing s t = largest_unique k.largest (closing_largest s t table) in
      let c : n + total w ≡ total t = k.counted in
      let d : n ≡ strikes t w = omega arith in
      ap (λ (m : ℕ). succeed m w) d ∙ ap (λ (u : List ℕ). succeed (strikes t u) u) e
      ∙ sym (ap (by_cells lent s t) (T_false {b = emptied (closing s t)} (subst (λ (u : List ℕ). T (emptied u) → ⊥) e (T_not (emptied w) k.filled))))

-- ---- a table that was admitted

-- what the description means, and that the table is one of as many boards
pub admitted_means : {h : Header} {ws t : List ℕ} → Admitted h ws t → (s : Sheet) × (read ws ≡ good s) × Table s.boards t
admitted_means {h} {ws} {t} admitted =
    let d = described ws h admitted.header in
    (d.0, d.1.means, subst (λ (n : ℕ). Table n t) d.1.boards admitted.ready.table)

-- besides, what is known where a copy u of the table was closed to w
pub admitted_closes : {h : Header} {ws t u : List ℕ} → Admitted h ws t → u ≡ t → (w : List ℕ) (r : Result ℕ Emptied) → ClosesUnder ws u w r
    → (s : Sheet) × (read ws ≡ good s) × Table s.boards t × closes s t w r
admitted_closes admitted copy w r closed =
    let d = admitted_means admitted in
    (d.0, d.1, d.2, subst (λ (x : List ℕ). closes d.0 x w r) copy (closed d.0 d.1))

-- what closing the cells t came to, told of the lent table
module _ {h : Header} {ws t : List ℕ} (admitted : Admitted h ws t) (lent w : List ℕ) (r : Result ℕ Emptied) (closed : ClosesUnder ws t w r) where
  pub into_emptied : {d : Emptied} → r ≡ Err d → ClosedInto ws t lent lent (answered 7 0)
  into_emptied e s means = into_contradictory lent s t (subst (closes s t w) e (closed s means))

  pub into_struck : {x : List ℕ} {n : ℕ} → r ≡ Ok n → x ≡ w → ClosedInto ws t lent x (answered 0 n)
  into_struck {x} {n} e f s means =
      let d = admitted_means admitted in
      let good-one : good d.0 ≡ good s = sym d.1 ∙ means in
      let one : d.0 ≡ s = cc in
      ap (succeed n) f
      ∙ into_closed lent s t (subst (λ (u : Sheet). Table u.boards t) one d.2) w n (subst (closes s t w) e (closed s means))

-- closing a copy u of the lent table into it is closing
pub copy_closed : {h : Header} {ws t u x : List ℕ} {a : Answer} → Admitted h ws t → u ≡ t → ClosedInto ws u t x a → outcome a x ≡ close ws t
copy_closed {ws = ws} {t} admitted copy closed =
    let d = admitted_means admitted in
    closed d.0 d.1 ∙ ap (close_into t d.0) copy ∙ sym (close_good t ws d.0 d.1 d.2)

-- ---- a table of any contents

module _ {h : Header} {ws t : List ℕ} (measured : Measured h ws t) where
  few : h.boards ≤ most_boards
  few = (described ws h measured.header).1.few

  -- the full table of as many boards is admitted
  pub full_admitted : Admitted h ws (filled h.boards)
  full_admitted = record { header = measured.header; ready = record { boards = few; table = full_table h.boards } }

  -- as many cells are in a room of full ones, and those taken are the full table
  module _ {r : List ℕ} (room : r ≡ replicate most_cells full) where
    pub full_fits : length t ≤ length r
    full_fits = cells_fit h.boards full t few measured.cells room

    pub full_taken : take (length t) r ≡ filled h.boards
    full_taken =
        ap₂ take measured.cells room ∙ filled_taken h.boards most_cells (square_small h.boards few)

  -- closing the full table into the lent one is opening
  pub full_opened : {u x : List ℕ} {a : Answer} → u ≡ filled h.boards → ClosedInto ws u t x a → outcome a x ≡ opening ws t
  full_opened full closed =
      let d = described ws h measured.header in
      closed d.0 d.1.means ∙ ap (close_into t d.0) (full ∙ ap filled d.1.boards)
      ∙ sym (opening_good t ws d.0 d.1.means (measured.cells ∙ ap (λ (v : ℕ). v * v) d.1.boards))
