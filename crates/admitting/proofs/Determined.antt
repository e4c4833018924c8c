-- `admit` takes whatever it is lent, and any two results that its contract permits are equal. Assumes nothing.
use mathlib.Core.Path.{sym, ◌∙◌}
use Rattle.contracts.specs.Promises.{AsksNothing, OneResult}
use Rattle.admitting.proofs.admit.Kinds as admit_kinds
use Rattle.admitting.proofs.admit.Reads as admit

pub admit_asks_nothing : AsksNothing 2 admit_kinds.ps admit.Asked
admit_asks_nothing κs a = tt

pub admit_determined : OneResult 2 admit_kinds.ps admit_kinds.r admit.Asked admit.Learnt
admit_determined κs a asked x y d e p q = p ∙ sym q
