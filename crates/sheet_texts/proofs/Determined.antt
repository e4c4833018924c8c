-- Any two outcomes that a contract of this crate permits are equal: the room; the length of the text, and the text. Assumes nothing.
use mathlib.Core.Path.{sym, ◌∙◌}
use Rattle.contracts.specs.Promises.{OneResult, OneOutcome}
use Rattle.sheet_texts.proofs.text_room.Kinds as text_room_kinds
use Rattle.sheet_texts.proofs.text_room.Reads as text-room
use Rattle.sheet_texts.proofs.put_sheet.Kinds as put_sheet_kinds
use Rattle.sheet_texts.proofs.put_sheet.Reads as put-sheet

pub text_room_determined : OneResult 0 text_room_kinds.ps text_room_kinds.r text-room.Asked text-room.Learnt
text_room_determined κs a asked x y d e p q = p ∙ sym q

pub put_sheet_determined : OneOutcome 2 put_sheet_kinds.ps put_sheet_kinds.r put-sheet.Asked put-sheet.Learnt (λ κs e. e.1.0.now)
put_sheet_determined κs a asked x y d e p q = (p.length_told ∙ sym q.length_told, p.text ∙ sym q.text)
