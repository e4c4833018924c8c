-- What the code's contracts ask and teach, by the kit's own record of them: each function that is called from outside asks nothing, ends and does nothing
-- undefined, and what is learnt of a call is what the demands are said of (`Entries`). The calls for C have the same in `talung_c`. Assumes nothing.
use mathlib.Core.Path.{◌≡◌}
use Rattle.rules.specs.Search.{plain_order}
use Rattle.contracts.specs.Promises.{AsksNothing, Teaches}
use Rattle.listing.specs.Listings.{input_line, listing as prints}
use Rattle.listing.specs.Pages.{page}
use Rattle.solver.proofs.Determined.{read_asks_nothing, open_asks_nothing, close_asks_nothing, search_asks_nothing, check_asks_nothing}
use Rattle.reading.proofs.Determined.{from_text_asks_nothing}
use Rattle.writing.proofs.Determined.{to_text_asks_nothing}
use Rattle.listing.proofs.Determined.{listing_asks_nothing, unread_asks_nothing}
use Rattle.solver.proofs.read.Kinds as read_kinds
use Rattle.solver.proofs.read.Reads as read
use Rattle.solver.proofs.read.Statement as read_stated
use Rattle.solver.proofs.read.Met as read_met
use Rattle.solver.proofs.«open».Kinds as open_kinds
use Rattle.solver.proofs.«open».Reads as opens
use Rattle.solver.proofs.«open».Statement as open_stated
use Rattle.solver.proofs.«open».Met as open_met
use Rattle.solver.proofs.close.Kinds as close_kinds
use Rattle.solver.proofs.close.Reads as close
use Rattle.solver.proofs.close.Statement as close_stated
use Rattle.solver.proofs.close.Met as close_met
use Rattle.solver.proofs.search.Kinds as search_kinds
use Rattle.solver.proofs.search.Reads as search
use Rattle.solver.proofs.search.Statement as search_stated
use Rattle.solver.proofs.search.Met as search_met
use Rattle.solver.proofs.check.Kinds as check_kinds
use Rattle.solver.proofs.check.Reads as check
use Rattle.solver.proofs.check.Statement as check_stated
use Rattle.solver.proofs.check.Met as check_met
use Rattle.reading.proofs.from_text.Kinds as from_text_kinds
use Rattle.reading.proofs.from_text.Reads as from-text
use Rattle.reading.proofs.from_text.Statement as from_text_stated
use Rattle.reading.proofs.from_text.Met as from_text_met
use Rattle.writing.proofs.to_text.Kinds as to_text_kinds
use Rattle.writing.proofs.to_text.Reads as to-text
use Rattle.writing.proofs.to_text.Statement as to_text_stated
use Rattle.writing.proofs.to_text.Met as to_text_met
use Rattle.listing.proofs.listing.Kinds as listing_kinds
use Rattle.listing.proofs.listing.Reads as listing
use Rattle.listing.proofs.listing.Statement as listing_stated
use Rattle.listing.proofs.listing.Met as listing_met
use Rattle.listing.proofs.unread.Kinds as unread_kinds
use Rattle.listing.proofs.unread.Reads as unread
use Rattle.listing.proofs.unread.Statement as unread_stated
use Rattle.listing.proofs.unread.Met as unread_met
use Rattle.answers.specs.Answers.{told}
use Rattle.demands.specs.Entries.{Reads, Opening, Closing, Searching, Checking, ReadingText, WritingText}

-- ---- whatever is lent

-- Every entry point takes whatever it is lent, ends, and does nothing undefined: its contract asks nothing of the caller, and its code meets it.
pub every_entry_point : {M : Type 1}
    → (AsksNothing 1 read_kinds.ps read.Asked × read_stated.statement M)
    × (AsksNothing 2 open_kinds.ps opens.Asked × open_stated.statement M)
    × (AsksNothing 2 close_kinds.ps close.Asked × close_stated.statement M)
    × (AsksNothing 2 search_kinds.ps search.Asked × search_stated.statement M)
    × (AsksNothing 2 check_kinds.ps check.Asked × check_stated.statement M)
    × (AsksNothing 2 from_text_kinds.ps from-text.Asked × from_text_stated.statement M)
    × (AsksNothing 2 to_text_kinds.ps to-text.Asked × to_text_stated.statement M)
every_entry_point = (
  (read_asks_nothing, read_met.met),
  (open_asks_nothing, open_met.met),
  (close_asks_nothing, close_met.met),
  (search_asks_nothing, search_met.met),
  (check_asks_nothing, check_met.met),
  (from_text_asks_nothing, from_text_met.met),
  (to_text_asks_nothing, to_text_met.met),
)

-- So do the two functions that decide what the program prints.
pub every_page : {M : Type 1}
    → (AsksNothing 1 listing_kinds.ps listing.Asked × listing_stated.statement M)
    × (AsksNothing 0 unread_kinds.ps unread.Asked × unread_stated.statement M)
every_page = (
  (listing_asks_nothing, listing_met.met),
  (unread_asks_nothing, unread_met.met),
)

-- ---- what is learnt of a call

pub read_learnt : Teaches 1 read_kinds.ps read_kinds.r read.Learnt (λ κs a x e. Reads a.0.now (told x))
read_learnt κs a x e h = h

pub open_learnt : Teaches 2 open_kinds.ps open_kinds.r opens.Learnt (λ κs a x e. Opening a.0.now a.1.0.now (told x) e.1.0.now)
open_learnt κs a x e h = h

pub close_learnt : Teaches 2 close_kinds.ps close_kinds.r close.Learnt (λ κs a x e. Closing a.0.now a.1.0.now (told x) e.1.0.now)
close_learnt κs a x e h = h

pub search_learnt : Teaches 2 search_kinds.ps search_kinds.r search.Learnt (λ κs a x e. Searching plain_order a.0.now a.1.0.now a.1.1.0 (told x) e.1.0.now)
search_learnt κs a x e h = h

pub check_learnt : Teaches 2 check_kinds.ps check_kinds.r check.Learnt (λ κs a x e. Checking a.0.now a.1.0.now (told x))
check_learnt κs a x e h = h

pub from_text_learnt : Teaches 2 from_text_kinds.ps from_text_kinds.r from-text.Learnt (λ κs a x e. ReadingText a.0.now a.1.0.now (told x) e.1.0.now)
from_text_learnt κs a x e h = h

pub to_text_learnt : Teaches 2 to_text_kinds.ps to_text_kinds.r to-text.Learnt (λ κs a x e. WritingText a.0.now a.1.0.now (told x) e.1.0.now)
to_text_learnt κs a x e h = h

-- Of the program's page: it is the one that 01 says, of the bytes that were read, or where none could be.
pub listing_learnt : Teaches 1 listing_kinds.ps listing_kinds.r listing.Learnt (λ κs a x e. x ≡ page (prints a.0.now))
listing_learnt κs a x e h = h

pub unread_learnt : Teaches 0 unread_kinds.ps unread_kinds.r unread.Learnt (λ κs a x e. x ≡ page input_line)
unread_learnt κs a x e h = h
