-- `description` takes whatever it is lent, and any two answers that its contract permits are equal. Assumes nothing.
use mathlib.Core.Path.{sym, ◌∙◌}
use Rattle.contracts.specs.Promises.{AsksNothing, OneResult}
use Rattle.sheet.proofs.description.Kinds as description_kinds
use Rattle.sheet.proofs.description.Reads as description

pub description_asks_nothing : AsksNothing 1 description_kinds.ps description.Asked
description_asks_nothing κs a = tt

pub description_determined : OneResult 1 description_kinds.ps description_kinds.r description.Asked description.Learnt
description_determined κs a asked x y d e p q = p ∙ sym q
