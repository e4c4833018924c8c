-- Any two places and words that a contract of this crate permits are equal. Assumes nothing.
use mathlib.Core.Path.{refl, sym, ◌∙◌}
use Rattle.contracts.specs.Promises.{OneOutcome}
use Rattle.taken.proofs.put_words.Kinds as put_words_kinds
use Rattle.taken.proofs.put_words.Reads as put-words
use Rattle.taken.proofs.put_start.Kinds as put_start_kinds
use Rattle.taken.proofs.put_start.Reads as put-start

pub put_start_determined : OneOutcome 1 put_start_kinds.ps put_start_kinds.r put-start.Asked put-start.Learnt (λ κs e. e.0.now)
put_start_determined κs a asked x y d e p q = (p.place ∙ sym q.place, p.words ∙ sym q.words)

pub put_words_determined : OneOutcome 2 put_words_kinds.ps put_words_kinds.r put-words.Asked put-words.Learnt (λ κs e. e.0.now)
put_words_determined κs a asked x y d e p q = (refl, p ∙ sym q)
