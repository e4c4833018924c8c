-- Any two answers that a contract of this crate permits are equal: each contract gives the answer as a function of the words. Assumes nothing.
use mathlib.Core.Path.{sym, ◌∙◌}
use Rattle.contracts.specs.Promises.{OneResult}
use Rattle.kinds.proofs.kind_at.Kinds as kind_at_kinds
use Rattle.kinds.proofs.kind_at.Reads as kind_at
use Rattle.kinds.proofs.way.Kinds as way_kinds
use Rattle.kinds.proofs.way.Reads as way

pub kind_at_determined : OneResult 1 kind_at_kinds.ps kind_at_kinds.r kind_at.Asked kind_at.Learnt
kind_at_determined κs a asked x y d e p q = p ∙ sym q

pub way_determined : OneResult 1 way_kinds.ps way_kinds.r way.Asked way.Learnt
way_determined κs a asked x y d e p q = p ∙ sym q
