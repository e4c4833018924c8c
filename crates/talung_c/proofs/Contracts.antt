-- What the contracts of the calls for C ask and teach, by the kit's own record of them: each asks nothing, ends and does nothing undefined, and what is
-- learnt of a call is what the demands are said of (`Entries` of the demands), with number and count unpacked. Assumes nothing.
use Rattle.rules.specs.Search.{plain_order}
use Rattle.contracts.specs.Promises.{AsksNothing, Teaches}
use Rattle.talung.specs.Packed.{unpack}
use Rattle.talung.proofs.Packing.{unpacks}
use Rattle.talung.proofs.Numbers.{reading_numbered, opening_numbered, close_numbered, searching_numbered, check_numbered}
use Rattle.talung_c.proofs.Determined.{talung_read_asks_nothing, talung_open_asks_nothing, talung_close_asks_nothing, talung_search_asks_nothing, talung_check_asks_nothing, talung_from_text_asks_nothing, talung_to_text_asks_nothing}
use Rattle.talung_c.proofs.talung_read.Kinds as c_read_kinds
use Rattle.talung_c.proofs.talung_read.Reads as c_read
use Rattle.talung_c.proofs.talung_read.Statement as c_read_stated
use Rattle.talung_c.proofs.talung_read.Met as c_read_met
use Rattle.talung_c.proofs.talung_open.Kinds as c_open_kinds
use Rattle.talung_c.proofs.talung_open.Reads as c_open
use Rattle.talung_c.proofs.talung_open.Statement as c_open_stated
use Rattle.talung_c.proofs.talung_open.Met as c_open_met
use Rattle.talung_c.proofs.talung_close.Kinds as c_close_kinds
use Rattle.talung_c.proofs.talung_close.Reads as c_close
use Rattle.talung_c.proofs.talung_close.Statement as c_close_stated
use Rattle.talung_c.proofs.talung_close.Met as c_close_met
use Rattle.talung_c.proofs.talung_search.Kinds as c_search_kinds
use Rattle.talung_c.proofs.talung_search.Reads as c_search
use Rattle.talung_c.proofs.talung_search.Statement as c_search_stated
use Rattle.talung_c.proofs.talung_search.Met as c_search_met
use Rattle.talung_c.proofs.talung_check.Kinds as c_check_kinds
use Rattle.talung_c.proofs.talung_check.Reads as c_check
use Rattle.talung_c.proofs.talung_check.Statement as c_check_stated
use Rattle.talung_c.proofs.talung_check.Met as c_check_met
use Rattle.talung_c.proofs.talung_from_text.Kinds as c_from_text_kinds
use Rattle.talung_c.proofs.talung_from_text.Reads as c_from_text
use Rattle.talung_c.proofs.talung_from_text.Statement as c_from_text_stated
use Rattle.talung_c.proofs.talung_from_text.Met as c_from_text_met
use Rattle.talung_c.proofs.talung_to_text.Kinds as c_to_text_kinds
use Rattle.talung_c.proofs.talung_to_text.Reads as c_to_text
use Rattle.talung_c.proofs.talung_to_text.Statement as c_to_text_stated
use Rattle.talung_c.proofs.talung_to_text.Met as c_to_text_met
use Rattle.demands.specs.Entries.{Reads, Opening, Closing, Searching, Checking, ReadingText, WritingText}
use Rattle.demands.proofs.Rooms.{from_text_few, to_text_few}

-- ---- whatever is lent

-- Every call for C takes whatever it is lent, ends, and does nothing undefined: its contract asks nothing of the caller, and its code meets it.
pub every_call_for_c : {M : Type 1}
    → (AsksNothing 1 c_read_kinds.ps c_read.Asked × c_read_stated.statement M)
    × (AsksNothing 2 c_open_kinds.ps c_open.Asked × c_open_stated.statement M)
    × (AsksNothing 2 c_close_kinds.ps c_close.Asked × c_close_stated.statement M)
    × (AsksNothing 2 c_search_kinds.ps c_search.Asked × c_search_stated.statement M)
    × (AsksNothing 2 c_check_kinds.ps c_check.Asked × c_check_stated.statement M)
    × (AsksNothing 2 c_from_text_kinds.ps c_from_text.Asked × c_from_text_stated.statement M)
    × (AsksNothing 2 c_to_text_kinds.ps c_to_text.Asked × c_to_text_stated.statement M)
every_call_for_c = (
  (talung_read_asks_nothing, c_read_met.met),
  (talung_open_asks_nothing, c_open_met.met),
  (talung_close_asks_nothing, c_close_met.met),
  (talung_search_asks_nothing, c_search_met.met),
  (talung_check_asks_nothing, c_check_met.met),
  (talung_from_text_asks_nothing, c_from_text_met.met),
  (talung_to_text_asks_nothing, c_to_text_met.met),
)

-- ---- what is learnt of a call

-- Of a call for C it is what is learnt of the call in Rattle, of the number and the count that its answer is unpacked to.
pub c_read_learnt : Teaches 1 c_read_kinds.ps c_read_kinds.r c_read.Learnt (λ κs a x e. Reads a.0.now (unpack x))
c_read_learnt κs a x e h = unpacks (reading_numbered a.0.now) h

pub c_open_learnt : Teaches 2 c_open_kinds.ps c_open_kinds.r c_open.Learnt (λ κs a x e. Opening a.0.now a.1.0.now (unpack x) e.1.0.now)
c_open_learnt κs a x e h = unpacks (opening_numbered a.0.now a.1.0.now) h

pub c_close_learnt : Teaches 2 c_close_kinds.ps c_close_kinds.r c_close.Learnt (λ κs a x e. Closing a.0.now a.1.0.now (unpack x) e.1.0.now)
c_close_learnt κs a x e h = unpacks (close_numbered a.0.now a.1.0.now) h

pub c_search_learnt : Teaches 2 c_search_kinds.ps c_search_kinds.r c_search.Learnt (λ κs a x e. Searching plain_order a.0.now a.1.0.now a.1.1.0 (unpack x) e.1.0.now)
c_search_learnt κs a x e h = unpacks (searching_numbered plain_order a.0.now a.1.0.now a.1.1.0) h

pub c_check_learnt : Teaches 2 c_check_kinds.ps c_check_kinds.r c_check.Learnt (λ κs a x e. Checking a.0.now a.1.0.now (unpack x))
c_check_learnt κs a x e h = unpacks (check_numbered a.0.now a.1.0.now) h

pub c_from_text_learnt : Teaches 2 c_from_text_kinds.ps c_from_text_kinds.r c_from_text.Learnt (λ κs a x e. ReadingText a.0.now a.1.0.now (unpack x) e.1.0.now)
c_from_text_learnt κs a x e h = unpacks (from_text_few a.0.now a.1.0.now) h

pub c_to_text_learnt : Teaches 2 c_to_text_kinds.ps c_to_text_kinds.r c_to_text.Learnt (λ κs a x e. WritingText a.0.now a.1.0.now (unpack x) e.1.0.now)
c_to_text_learnt κs a x e h = unpacks (to_text_few a.0.now a.1.0.now) h
