-- Any two answers that a contract of this crate permits are equal: each contract gives the answer as a function of the order and the set. Assumes nothing.
use mathlib.Core.Path.{sym, ◌∙◌}
use Rattle.contracts.specs.Promises.{OneResult}
use Rattle.orders.proofs.pick.Kinds as pick_kinds
use Rattle.orders.proofs.pick.Reads as pick
use Rattle.orders.proofs.unpicked.Kinds as unpicked_kinds
use Rattle.orders.proofs.unpicked.Reads as unpicked

pub pick_determined : OneResult 1 pick_kinds.ps pick_kinds.r pick.Asked pick.Learnt
pick_determined κs a asked x y d e p q = p ∙ sym q

pub unpicked_determined : OneResult 1 unpicked_kinds.ps unpicked_kinds.r unpicked.Asked unpicked.Learnt
unpicked_determined κs a asked x y d e p q = p ∙ sym q
