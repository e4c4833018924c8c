-- Any two answers that a contract of this crate permits are equal. Assumes nothing.
use mathlib.Core.Path.{sym, ◌∙◌}
use Rattle.contracts.specs.Promises.{OneResult}
use Rattle.answers.proofs.refusals.Fault.at.Kinds as at_kinds
use Rattle.answers.proofs.refusals.Fault.at.Reads as at
use Rattle.answers.proofs.refusals.Refusal.refused.Kinds as refused_kinds
use Rattle.answers.proofs.refusals.Refusal.refused.Reads as refused
use Rattle.answers.proofs.refusals.Refusal.later.Kinds as later_kinds
use Rattle.answers.proofs.refusals.Refusal.later.Reads as later
use Rattle.answers.proofs.rooms.words_room.Kinds as words_room_kinds
use Rattle.answers.proofs.rooms.words_room.Reads as words_room

pub at_determined : OneResult 0 at_kinds.ps at_kinds.r at.Asked at.Learnt
at_determined κs a asked x y d e p q = p ∙ sym q

pub refused_determined : OneResult 0 refused_kinds.ps refused_kinds.r refused.Asked refused.Learnt
refused_determined κs a asked x y d e p q = p ∙ sym q

pub later_determined : OneResult 0 later_kinds.ps later_kinds.r later.Asked later.Learnt
later_determined κs a asked x y d e p q = p ∙ sym q

pub words_room_determined : OneResult 0 words_room_kinds.ps words_room_kinds.r words_room.Asked words_room.Learnt
words_room_determined κs a asked x y d e p q = p ∙ sym q
