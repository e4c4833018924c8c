-- Any two answers that a contract of this crate permits are equal. Assumes nothing.
use mathlib.Core.Path.{sym, ◌∙◌}
use Rattle.contracts.specs.Promises.{OneResult}
use Rattle.compositions.proofs.compose.Kinds as compose_kinds
use Rattle.compositions.proofs.compose.Reads as compose

pub compose_determined : OneResult 0 compose_kinds.ps compose_kinds.r compose.Asked compose.Learnt
compose_determined κs a asked x y d e p q = p ∙ sym q
