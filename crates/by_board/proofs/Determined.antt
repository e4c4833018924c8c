-- Any two answers and indexes that a contract of this crate permits are equal. Assumes nothing.
use mathlib.Core.Path.{sym, ◌∙◌}
use Rattle.contracts.specs.Promises.{OneResult}
use Rattle.by_board.proofs.Agreeing.{indexed_same}
use Rattle.by_board.proofs.Index.empty.Kinds as empty_kinds
use Rattle.by_board.proofs.Index.empty.Reads as empty
use Rattle.by_board.proofs.Index.new.Kinds as new_kinds
use Rattle.by_board.proofs.Index.new.Reads as new
use Rattle.by_board.proofs.Index.line_of.Kinds as line_of_kinds
use Rattle.by_board.proofs.Index.line_of.Reads as Line_of
use Rattle.by_board.proofs.Index.with_panel.Kinds as with_panel_kinds
use Rattle.by_board.proofs.Index.with_panel.Reads as with-panel
use Rattle.by_board.proofs.Index.with_way.Kinds as with_way_kinds
use Rattle.by_board.proofs.Index.with_way.Reads as with-way
use Rattle.by_board.proofs.Index.places.Kinds as places_kinds
use Rattle.by_board.proofs.Index.places.Reads as places

pub empty_determined : OneResult 0 empty_kinds.ps empty_kinds.r empty.Asked empty.Learnt
empty_determined κs a asked x y d e p q = p ∙ sym q

pub new_determined : OneResult 1 new_kinds.ps new_kinds.r new.Asked new.Learnt
new_determined κs a asked x y d e p q = indexed_same p q

pub line_of_determined : OneResult 2 line_of_kinds.ps line_of_kinds.r Line_of.Asked Line_of.Learnt
line_of_determined κs a asked x y d e p q = p ∙ sym q

pub with_panel_determined : OneResult 1 with_panel_kinds.ps with_panel_kinds.r with-panel.Asked with-panel.Learnt
with_panel_determined κs a asked x y d e p q = p ∙ sym q

pub with_way_determined : OneResult 1 with_way_kinds.ps with_way_kinds.r with-way.Asked with-way.Learnt
with_way_determined κs a asked x y d e p q = p ∙ sym q

pub places_determined : OneResult 1 places_kinds.ps places_kinds.r places.Asked places.Learnt
places_determined κs a asked x y d e p q = p ∙ sym q
