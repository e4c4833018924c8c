-- `to_text` takes whatever it is lent, and any two outcomes that its contract permits are equal. Assumes nothing.
use mathlib.Core.Path.{sym, ◌∙◌}
use Rattle.contracts.specs.Promises.{AsksNothing, OneOutcome}
use Rattle.answers.proofs.Faults.{result_determined}
use Rattle.writing.proofs.to_text.Kinds as to_text_kinds
use Rattle.writing.proofs.to_text.Reads as to-text

pub to_text_asks_nothing : AsksNothing 2 to_text_kinds.ps to-text.Asked
to_text_asks_nothing κs a = tt

pub to_text_determined : OneOutcome 2 to_text_kinds.ps to_text_kinds.r to-text.Asked to-text.Learnt (λ κs e. e.1.0.now)
to_text_determined κs a asked x y d e p q = result_determined x y d.1.0.now e.1.0.now (p ∙ sym q)
