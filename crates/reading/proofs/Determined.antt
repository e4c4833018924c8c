-- `from_text` takes whatever it is lent, and any two outcomes that its contract permits are equal. Assumes nothing.
use mathlib.Core.Path.{sym, ◌∙◌}
use Rattle.contracts.specs.Promises.{AsksNothing, OneOutcome}
use Rattle.answers.proofs.Faults.{result_determined}
use Rattle.reading.proofs.from_text.Kinds as from_text_kinds
use Rattle.reading.proofs.from_text.Reads as from-text

pub from_text_asks_nothing : AsksNothing 2 from_text_kinds.ps from-text.Asked
from_text_asks_nothing κs a = tt

pub from_text_determined : OneOutcome 2 from_text_kinds.ps from_text_kinds.r from-text.Asked from-text.Learnt (λ κs e. e.1.0.now)
from_text_determined κs a asked x y d e p q = result_determined x y d.1.0.now e.1.0.now (p ∙ sym q)
