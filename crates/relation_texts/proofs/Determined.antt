-- Any two answers and words that the contract of `take_relation` permits are equal. Assumes nothing.
use mathlib.Core.Path.{sym, ◌∙◌}
use Rattle.contracts.specs.Promises.{OneOutcome}
use Rattle.relation_texts.proofs.take_relation.Kinds as take_relation_kinds
use Rattle.relation_texts.proofs.take_relation.Reads as take-relation

pub take_relation_determined : OneOutcome 2 take_relation_kinds.ps take_relation_kinds.r take-relation.Asked take-relation.Learnt (λ κs e. e.1.1.1.0.now)
take_relation_determined κs a asked x y d e p q = (p.answer ∙ sym q.answer, p.words ∙ sym q.words)
