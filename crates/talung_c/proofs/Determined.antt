-- The calls as C has them take whatever they are lent, and any two numbers, and tables or rooms, that a contract permits are equal. Assumes nothing.
use Rattle.contracts.specs.Promises.{AsksNothing, OneResult, OneOutcome}
use Rattle.talung.proofs.Packing.{packed_determined}
use Rattle.talung_c.proofs.talung_read.Kinds as talung_read_kinds
use Rattle.talung_c.proofs.talung_read.Reads as talung-read
use Rattle.talung_c.proofs.talung_open.Kinds as talung_open_kinds
use Rattle.talung_c.proofs.talung_open.Reads as talung-open
use Rattle.talung_c.proofs.talung_close.Kinds as talung_close_kinds
use Rattle.talung_c.proofs.talung_close.Reads as talung-close
use Rattle.talung_c.proofs.talung_search.Kinds as talung_search_kinds
use Rattle.talung_c.proofs.talung_search.Reads as talung-search
use Rattle.talung_c.proofs.talung_from_text.Kinds as talung_from_text_kinds
use Rattle.talung_c.proofs.talung_from_text.Reads as talung-from-text
use Rattle.talung_c.proofs.talung_to_text.Kinds as talung_to_text_kinds
use Rattle.talung_c.proofs.talung_to_text.Reads as talung-to-text
use Rattle.talung_c.proofs.talung_check.Kinds as talung_check_kinds
use Rattle.talung_c.proofs.talung_check.Reads as talung-check

pub talung_read_asks_nothing : AsksNothing 1 talung_read_kinds.ps talung-read.Asked
talung_read_asks_nothing κs a = tt

pub talung_read_determined : OneResult 1 talung_read_kinds.ps talung_read_kinds.r talung-read.Asked talung-read.Learnt
talung_read_determined κs a asked x y d e p q = (packed_determined p q).0

pub talung_open_asks_nothing : AsksNothing 2 talung_open_kinds.ps talung-open.Asked
talung_open_asks_nothing κs a = tt

pub talung_open_determined : OneOutcome 2 talung_open_kinds.ps talung_open_kinds.r talung-open.Asked talung-open.Learnt (λ κs e. e.1.0.now)
talung_open_determined κs a asked x y d e p q = packed_determined p q

pub talung_close_asks_nothing : AsksNothing 2 talung_close_kinds.ps talung-close.Asked
talung_close_asks_nothing κs a = tt

pub talung_close_determined : OneOutcome 2 talung_close_kinds.ps talung_close_kinds.r talung-close.Asked talung-close.Learnt (λ κs e. e.1.0.now)
talung_close_determined κs a asked x y d e p q = packed_determined p q

pub talung_search_asks_nothing : AsksNothing 2 talung_search_kinds.ps talung-search.Asked
talung_search_asks_nothing κs a = tt

pub talung_search_determined : OneOutcome 2 talung_search_kinds.ps talung_search_kinds.r talung-search.Asked talung-search.Learnt (λ κs e. e.1.0.now)
talung_search_determined κs a asked x y d e p q = packed_determined p q

pub talung_check_asks_nothing : AsksNothing 2 talung_check_kinds.ps talung-check.Asked
talung_check_asks_nothing κs a = tt

pub talung_check_determined : OneResult 2 talung_check_kinds.ps talung_check_kinds.r talung-check.Asked talung-check.Learnt
talung_check_determined κs a asked x y d e p q = (packed_determined p q).0

pub talung_from_text_asks_nothing : AsksNothing 2 talung_from_text_kinds.ps talung-from-text.Asked
talung_from_text_asks_nothing κs a = tt

pub talung_from_text_determined : OneOutcome 2 talung_from_text_kinds.ps talung_from_text_kinds.r talung-from-text.Asked talung-from-text.Learnt (λ κs e. e.1.0.now)
talung_from_text_determined κs a asked x y d e p q = packed_determined p q

pub talung_to_text_asks_nothing : AsksNothing 2 talung_to_text_kinds.ps talung-to-text.Asked
talung_to_text_asks_nothing κs a = tt

pub talung_to_text_determined : OneOutcome 2 talung_to_text_kinds.ps talung_to_text_kinds.r talung-to-text.Asked talung-to-text.Learnt (λ κs e. e.1.0.now)
talung_to_text_determined κs a asked x y d e p q = packed_determined p q
