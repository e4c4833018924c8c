-- What the contracts of this crate's public functions determine. Assumes nothing.
use mathlib.Core.Path.{◌≡◌, refl, sym, ap, ◌∙◌, subst}
use mathlib.Core.List.{List}
use Prim.Native.Nat.{ℕ, ◌+◌}
use native.Mathlib.Omega.{arith}
use lib.Dec.{T, T_not}
use Rattle.rules.specs.Descriptions.{Sheet}
use Rattle.rules.specs.Tables.{Table, emptied, total}
use Rattle.rules.specs.Closed.{Largest}
use Rattle.rules.specs.Closing.{closing}
use Rattle.rules.proofs.Largest.{closing_largest, largest_unique}
use Rattle.contracts.specs.Promises.{OfTwo, OneResult, OneOutcome}
use Rattle.answers.proofs.Faults.{result_determined}
use Rattle.passes.specs.Passes.{Filled}
use Rattle.sheet.proofs.Described.{described}
use Rattle.by_board.proofs.Agreeing.{indexed_same}
use Rattle.moves.proofs.Ending.{SameEnd}
use Rattle.std.specs.Prelude.{Result, Ok, Err}
use Rattle.moves.specs.declared.Emptied.{Emptied}
use Rattle.rules.proofs.Tests.{clash}
use Rattle.rounds.proofs.Determined.{Fixed}
use Rattle.closing.specs.Closes.{closes, closes_listed}
use Rattle.closing.proofs.close_cells.Kinds as close_cells_kinds
use Rattle.closing.proofs.close_cells.Reads as close-cells
use Rattle.closing.proofs.close_table.Kinds as table_kinds
use Rattle.closing.proofs.close_table.Reads as table
use Rattle.closing.proofs.open_table.Kinds as open_table_kinds
use Rattle.closing.proofs.open_table.Reads as open-table
use Rattle.closing.proofs.close_listed.Kinds as listed_kinds
use Rattle.closing.proofs.close_listed.Reads as listed
use Rattle.closing.proofs.tell_kinds.Kinds as tell_kinds_kinds
use Rattle.closing.proofs.tell_kinds.Reads as tell-kinds

-- a largest closed table without an empty cell is the one that decides
decides : {s : Sheet} {t x : List ℕ} → Table s.boards t → Largest s t x → Filled x → T (emptied (closing s t)) → ⊥
decides {s} {t} {x} h l f e = T_not (emptied x) f (subst (λ (y : List ℕ). T (emptied y)) (largest_unique (closing_largest s t h) l) e)

closes_determined : (s : Sheet) (t : List ℕ) → Table s.boards t → (u w : List ℕ) (q r : Result ℕ Emptied) → closes s t u q → closes s t w r → Fixed q r u w
closes_determined s t h u w (Ok m) (Ok n) k l =
    let e : u ≡ w = largest_unique k.largest l.largest in
    let i : m + total u ≡ total t = k.counted in
    let j : n + total w ≡ total t = l.counted in
    let same : total u ≡ total w = ap total e in
    let d : m ≡ n = omega arith in
    (ap Ok d, λ z. e)
closes_determined s t h u w (Ok m) (Err _) k e = absurd (decides h k.largest k.filled e)
closes_determined s t h u w (Err _) (Ok n) e l = absurd (decides h l.largest l.filled e)
closes_determined s t h u w (Err _) (Err _) d e = (refl, λ z. clash (cc))

-- by the list of pairs
listed_determined : (s : Sheet) (t : List ℕ) → Table s.boards t → (u k w n : List ℕ) (a b : Result (Unit {0}) Emptied) → closes_listed s t u k a → closes_listed s t w n b
    → SameEnd a b u w
listed_determined s t h u k w n (Ok _) (Ok _) f g = (refl, λ e. largest_unique f.largest g.largest)
listed_determined s t h u k w n (Ok _) (Err _) f e = absurd (decides h f.largest f.fit.filled e)
listed_determined s t h u k w n (Err _) (Ok _) e g = absurd (decides h g.largest g.fit.filled e)
listed_determined s t h u k w n (Err _) (Err _) d e = (refl, λ z. absurd z)

pub close_cells_determined : OfTwo 2 close_cells_kinds.ps close_cells_kinds.r close-cells.Asked close-cells.Learnt (λ κs x y d e. Fixed x y d.1.1.0.now e.1.1.0.now)
close_cells_determined κs a asked x y d e p q =
    let m = described a.1.0.now a.0 asked.header in
    let s = m.0 in
    let means = m.1.means in
    let table = subst (λ (n : ℕ). Table n a.1.1.0.now) m.1.boards asked.ready.table in
    closes_determined s a.1.1.0.now table d.1.1.0.now e.1.1.0.now x y (p s means) (q s means)

pub close_listed_determined : OfTwo 4 listed_kinds.ps listed_kinds.r listed.Asked listed.Learnt
    (λ κs x y d e. SameEnd x y d.1.1.1.0.now e.1.1.1.0.now)
close_listed_determined κs a asked x y d e p q =
    let m = described a.1.0.now a.0 asked.0.header in
    let s = m.0 in
    let means = m.1.means in
    listed_determined s a.1.1.1.0.now (asked.1 s means).fit.ready.table d.1.1.1.0.now d.1.1.1.1.0.now e.1.1.1.0.now e.1.1.1.1.0.now x y (p s means) (q s means)

pub tell_kinds_determined : OneResult 1 tell_kinds_kinds.ps tell_kinds_kinds.r tell-kinds.Asked tell-kinds.Learnt
tell_kinds_determined κs a asked x y d e p q = indexed_same p.index q.index

pub close_table_determined : OneOutcome 2 table_kinds.ps table_kinds.r table.Asked table.Learnt (λ κs e. e.1.1.0.now)
close_table_determined κs a asked x y d e p q = result_determined x y d.1.1.0.now e.1.1.0.now (p ∙ sym q)

pub open_table_determined : OneOutcome 2 open_table_kinds.ps open_table_kinds.r open-table.Asked open-table.Learnt (λ κs e. e.1.1.0.now)
open_table_determined κs a asked x y d e p q = result_determined x y d.1.1.0.now e.1.1.0.now (p ∙ sym q)
