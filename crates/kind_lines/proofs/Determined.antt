-- Any two answers that the contract of `kind_line` permits are equal: it gives the answer as a function of the words. Assumes nothing.
use mathlib.Core.Path.{sym, ◌∙◌}
use Rattle.contracts.specs.Promises.{OneResult}
use Rattle.kind_lines.proofs.kind_line.Kinds as kind_line_kinds
use Rattle.kind_lines.proofs.kind_line.Reads as kind_line_lem

pub kind_line_determined : OneResult 1 kind_line_kinds.ps kind_line_kinds.r kind_line_lem.Asked kind_line_lem.Learnt
kind_line_determined κs a asked x y d e p q = p ∙ sym q
