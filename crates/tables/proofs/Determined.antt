-- Any two answers and tables that a contract of this crate permits are equal. Assumes nothing.
use mathlib.Core.Path.{refl, sym, ◌∙◌}
use Prim.Native.Nat.{ℕ}
use mir.Syntax.{w64}
use mir.Val.{Fits}
use Rattle.contracts.specs.Promises.{OneResult, OneOutcome}
use Rattle.tables.proofs.read_cells.Kinds as read_cells_kinds
use Rattle.tables.proofs.read_cells.Reads as read_cells
use Rattle.tables.proofs.write_cells.Kinds as write_cells_kinds
use Rattle.tables.proofs.write_cells.Reads as write_cells
use Rattle.tables.proofs.as_asked.Kinds as as_asked_kinds
use Rattle.tables.proofs.as_asked.Reads as as-asked
use Rattle.tables.proofs.room.Kinds as room_kinds
use Rattle.tables.proofs.room.Reads as room
use Rattle.tables.proofs.cell.Kinds as cell_kinds
use Rattle.tables.proofs.cell.Reads as cell
use Rattle.tables.proofs.narrow.Kinds as narrow_kinds
use Rattle.tables.proofs.narrow.Reads as narrow
use Rattle.tables.proofs.members.Kinds as members_kinds
use Rattle.tables.proofs.members.Reads as members

pub read_cells_determined : OneOutcome 2 read_cells_kinds.ps read_cells_kinds.r read_cells.Asked read_cells.Learnt (λ κs e. e.1.0.now)
read_cells_determined κs a asked x y d e p q = (refl, p ∙ sym q)

pub write_cells_determined : OneOutcome 2 write_cells_kinds.ps write_cells_kinds.r write_cells.Asked write_cells.Learnt (λ κs e. e.1.0.now)
write_cells_determined κs a asked x y d e p q = (refl, p ∙ sym q)

pub as_asked_determined : OneResult 1 as_asked_kinds.ps as_asked_kinds.r as-asked.Asked as-asked.Learnt
as_asked_determined κs a asked x y d e p q = p ∙ sym q

pub room_determined : (N : ℕ) (fits : Fits w64 N) → OneResult 1 (room_kinds.ps N fits) (room_kinds.r N fits) (room.Asked N fits) (room.Learnt N fits)
room_determined N fits κs a asked x y d e p q = p ∙ sym q

pub cell_determined : OneResult 1 cell_kinds.ps cell_kinds.r cell.Asked cell.Learnt
cell_determined κs a asked x y d e p q = p ∙ sym q

pub narrow_determined : OneOutcome 1 narrow_kinds.ps narrow_kinds.r narrow.Asked narrow.Learnt (λ κs e. e.0.now)
narrow_determined κs a asked x y d e p q = (p.struck ∙ sym q.struck, p.cells ∙ sym q.cells)

pub members_determined : OneResult 1 members_kinds.ps members_kinds.r members.Asked members.Learnt
members_determined κs a asked x y d e p q = p ∙ sym q
