-- Any two runs of words that the contract of `take_words` permits are equal. Assumes nothing.
use mathlib.Core.Path.{refl, sym, ◌∙◌}
use Rattle.contracts.specs.Promises.{OneOutcome}
use Rattle.words.proofs.take_words.Kinds as take_words_kinds
use Rattle.words.proofs.take_words.Reads as take_words

pub take_words_determined : OneOutcome 2 take_words_kinds.ps take_words_kinds.r take_words.Asked take_words.Learnt (λ κs e. e.1.0.now)
take_words_determined κs a asked x y d e p q = (refl, p ∙ sym q)
