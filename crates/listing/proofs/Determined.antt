-- `listing` and `unread` take whatever they are lent, and any two pages that a contract permits are equal. Assumes nothing.
use mathlib.Core.Path.{sym, ◌∙◌}
use Rattle.contracts.specs.Promises.{AsksNothing, OneResult}
use Rattle.listing.proofs.listing.Kinds as listing_kinds
use Rattle.listing.proofs.listing.Reads as listing
use Rattle.listing.proofs.unread.Kinds as unread_kinds
use Rattle.listing.proofs.unread.Reads as unread

pub listing_asks_nothing : AsksNothing 1 listing_kinds.ps listing.Asked
listing_asks_nothing κs a = tt

pub listing_determined : OneResult 1 listing_kinds.ps listing_kinds.r listing.Asked listing.Learnt
listing_determined κs a asked x y d e p q = p ∙ sym q

pub unread_asks_nothing : AsksNothing 0 unread_kinds.ps unread.Asked
unread_asks_nothing κs a = tt

pub unread_determined : OneResult 0 unread_kinds.ps unread_kinds.r unread.Asked unread.Learnt
unread_determined κs a asked x y d e p q = p ∙ sym q
