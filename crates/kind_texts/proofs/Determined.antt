-- Any two answers, with the words that are left, that the contract of this crate permits are equal. Assumes nothing.
use mathlib.Core.Path.{sym, ◌∙◌}
use Rattle.contracts.specs.Promises.{OneOutcome}
use Rattle.kind_texts.proofs.take_kind.Kinds as take_kind_kinds
use Rattle.kind_texts.proofs.take_kind.Reads as take-kind

pub take_kind_determined : OneOutcome 2 take_kind_kinds.ps take_kind_kinds.r take-kind.Asked take-kind.Learnt (λ κs e. e.1.1.1.0.now)
take_kind_determined κs a asked x y d e p q = (p.answer ∙ sym q.answer, p.words ∙ sym q.words)
