-- Any two answers that a contract of this crate permits are equal. Assumes nothing.
use mathlib.Core.Path.{sym, ◌∙◌}
use Rattle.contracts.specs.Promises.{OneResult}
use Rattle.relations.proofs.full_room.Kinds as full_room_kinds
use Rattle.relations.proofs.full_room.Reads as full_room
use Rattle.relations.proofs.RelationSet.new.Kinds as new_kinds
use Rattle.relations.proofs.RelationSet.new.Reads as new
use Rattle.relations.proofs.U8FromRelationSet.from.Kinds as bits_kinds
use Rattle.relations.proofs.U8FromRelationSet.from.Reads as bits
use Rattle.relations.proofs.RelationSet.is_empty.Kinds as is_empty_kinds
use Rattle.relations.proofs.RelationSet.is_empty.Reads as is_empty
use Rattle.relations.proofs.RelationSet.len.Kinds as size_kinds
use Rattle.relations.proofs.RelationSet.len.Reads as size
use Rattle.relations.proofs.RelationSet.converse.Kinds as converse_kinds
use Rattle.relations.proofs.RelationSet.converse.Reads as converse
use Rattle.relations.proofs.RelationSetBitAnd.bitand.Kinds as meet_kinds
use Rattle.relations.proofs.RelationSetBitAnd.bitand.Reads as meet
use Rattle.relations.proofs.RelationSetBitOr.bitor.Kinds as join_kinds
use Rattle.relations.proofs.RelationSetBitOr.bitor.Reads as join
use Rattle.relations.proofs.RelationSetNot.not.Kinds as complement_kinds
use Rattle.relations.proofs.RelationSetNot.not.Reads as complement
use Rattle.relations.proofs.RelationSetFromRelation.from.Kinds as single_kinds
use Rattle.relations.proofs.RelationSetFromRelation.from.Reads as single

pub full_room_determined : OneResult 0 full_room_kinds.ps full_room_kinds.r full_room.Asked full_room.Learnt
full_room_determined κs a asked x y d e p q = p ∙ sym q

pub new_determined : OneResult 0 new_kinds.ps new_kinds.r new.Asked new.Learnt
new_determined κs a asked x y d e p q = p ∙ sym q

pub bits_determined : OneResult 0 bits_kinds.ps bits_kinds.r bits.Asked bits.Learnt
bits_determined κs a asked x y d e p q = p.0 ∙ sym q.0

pub is_empty_determined : OneResult 0 is_empty_kinds.ps is_empty_kinds.r is_empty.Asked is_empty.Learnt
is_empty_determined κs a asked x y d e p q = p ∙ sym q

pub meet_determined : OneResult 0 meet_kinds.ps meet_kinds.r meet.Asked meet.Learnt
meet_determined κs a asked x y d e p q = p ∙ sym q

pub join_determined : OneResult 0 join_kinds.ps join_kinds.r join.Asked join.Learnt
join_determined κs a asked x y d e p q = p ∙ sym q

pub complement_determined : OneResult 0 complement_kinds.ps complement_kinds.r complement.Asked complement.Learnt
complement_determined κs a asked x y d e p q = p ∙ sym q

pub converse_determined : OneResult 0 converse_kinds.ps converse_kinds.r converse.Asked converse.Learnt
converse_determined κs a asked x y d e p q = p ∙ sym q

pub size_determined : OneResult 0 size_kinds.ps size_kinds.r size.Asked size.Learnt
size_determined κs a asked x y d e p q = p ∙ sym q

pub single_determined : OneResult 0 single_kinds.ps single_kinds.r single.Asked single.Learnt
single_determined κs a asked x y d e p q = p ∙ sym q
