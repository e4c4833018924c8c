-- Any two answers that a contract of this crate permits are equal. Assumes nothing.
use mathlib.Core.Path.{sym, ◌∙◌}
use Rattle.contracts.specs.Promises.{OneResult}
use Rattle.lines.proofs.relation_line.Kinds as relation_line_kinds
use Rattle.lines.proofs.relation_line.Reads as relation_line_lem
use Rattle.lines.proofs.relation_told.Kinds as relation_told_kinds
use Rattle.lines.proofs.relation_told.Reads as relation-told

pub relation_line_determined : OneResult 1 relation_line_kinds.ps relation_line_kinds.r relation_line_lem.Asked relation_line_lem.Learnt
relation_line_determined κs a (v, f, read) x y d e p q = p v f read ∙ sym (q v f read)

pub relation_told_determined : OneResult 1 relation_told_kinds.ps relation_told_kinds.r relation-told.Asked relation-told.Learnt
relation_told_determined κs a asked x y d e p q = p ∙ sym q
