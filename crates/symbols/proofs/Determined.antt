-- Any two tokens that the contract of `symbol_at` permits are equal. Assumes nothing.
use mathlib.Core.Path.{sym, ◌∙◌}
use Rattle.contracts.specs.Promises.{OneResult}
use Rattle.symbols.proofs.symbol_at.Kinds as symbol_at_kinds
use Rattle.symbols.proofs.symbol_at.Reads as symbol-at

pub symbol_at_determined : OneResult 1 symbol_at_kinds.ps symbol_at_kinds.r symbol-at.Asked symbol-at.Learnt
symbol_at_determined κs a asked x y d e p q = p ∙ sym q
