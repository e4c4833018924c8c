-- Any two answers that the contract of `read_header` permits are equal. Assumes nothing.
use mathlib.Core.Path.{sym, ◌∙◌}
use Rattle.contracts.specs.Promises.{OneResult}
use Rattle.headers.proofs.read_header.Kinds as read_header_kinds
use Rattle.headers.proofs.read_header.Reads as read-header

pub read_header_determined : OneResult 1 read_header_kinds.ps read_header_kinds.r read-header.Asked read-header.Learnt
read_header_determined κs a asked x y d e p q = p ∙ sym q
