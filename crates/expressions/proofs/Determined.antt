-- Any two answers that a contract of this crate permits are equal. Assumes nothing.
use mathlib.Core.Path.{sym, ◌∙◌}
use Rattle.contracts.specs.Promises.{OneResult}
use Rattle.expressions.proofs.evaluate.Kinds as evaluate_kinds
use Rattle.expressions.proofs.evaluate.Reads as evaluate
use Rattle.expressions.proofs.scan.Kinds as scan_kinds
use Rattle.expressions.proofs.scan.Reads as scan

pub evaluate_determined : OneResult 1 evaluate_kinds.ps evaluate_kinds.r evaluate.Asked evaluate.Learnt
evaluate_determined κs a asked x y d e p q = p ∙ sym q

pub scan_determined : OneResult 1 scan_kinds.ps scan_kinds.r scan.Asked scan.Learnt
scan_determined κs a asked x y d e p q = p ∙ sym q
