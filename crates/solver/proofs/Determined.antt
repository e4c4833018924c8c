-- Each call takes whatever it is lent, and any two answers and tables that its contract permits are equal. Assumes nothing.
use mathlib.Core.Path.{sym, ◌∙◌}
use Rattle.contracts.specs.Promises.{AsksNothing, OneResult, OneOutcome}
use Rattle.answers.proofs.Faults.{result_determined}
use Rattle.solver.proofs.read.Kinds as read_kinds
use Rattle.solver.proofs.read.Reads as read
use Rattle.solver.proofs.«open».Kinds as open_kinds
use Rattle.solver.proofs.«open».Reads as opens
use Rattle.solver.proofs.close.Kinds as close_kinds
use Rattle.solver.proofs.close.Reads as close
use Rattle.solver.proofs.search.Kinds as search_kinds
use Rattle.solver.proofs.search.Reads as search
use Rattle.solver.proofs.check.Kinds as check_kinds
use Rattle.solver.proofs.check.Reads as check

pub read_asks_nothing : AsksNothing 1 read_kinds.ps read.Asked
read_asks_nothing κs a = tt

pub read_determined : OneResult 1 read_kinds.ps read_kinds.r read.Asked read.Learnt
read_determined κs a asked x y d e p q = (result_determined x y tt tt (p ∙ sym q)).0

pub open_asks_nothing : AsksNothing 2 open_kinds.ps opens.Asked
open_asks_nothing κs a = tt

pub open_determined : OneOutcome 2 open_kinds.ps open_kinds.r opens.Asked opens.Learnt (λ κs e. e.1.0.now)
open_determined κs a asked x y d e p q = result_determined x y d.1.0.now e.1.0.now (p ∙ sym q)

pub close_asks_nothing : AsksNothing 2 close_kinds.ps close.Asked
close_asks_nothing κs a = tt

pub close_determined : OneOutcome 2 close_kinds.ps close_kinds.r close.Asked close.Learnt (λ κs e. e.1.0.now)
close_determined κs a asked x y d e p q = result_determined x y d.1.0.now e.1.0.now (p ∙ sym q)

pub search_asks_nothing : AsksNothing 2 search_kinds.ps search.Asked
search_asks_nothing κs a = tt

pub search_determined : OneOutcome 2 search_kinds.ps search_kinds.r search.Asked search.Learnt (λ κs e. e.1.0.now)
search_determined κs a asked x y d e p q = result_determined x y d.1.0.now e.1.0.now (p ∙ sym q)

pub check_asks_nothing : AsksNothing 2 check_kinds.ps check.Asked
check_asks_nothing κs a = tt

pub check_determined : OneResult 2 check_kinds.ps check_kinds.r check.Asked check.Learnt
check_determined κs a asked x y d e p q = (result_determined x y a.1.0.now a.1.0.now (p ∙ sym q)).0
