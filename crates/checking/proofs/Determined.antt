-- Any two answers that the contract of `check_table` permits are equal. Assumes nothing.
use mathlib.Core.Path.{sym, ◌∙◌}
use Rattle.contracts.specs.Promises.{OneResult}
use Rattle.answers.proofs.Faults.{result_determined}
use Rattle.checking.proofs.check_table.Kinds as table_kinds
use Rattle.checking.proofs.check_table.Reads as table

pub check_table_determined : OneResult 2 table_kinds.ps table_kinds.r table.Asked table.Learnt
check_table_determined κs a asked x y d e p q = (result_determined x y a.1.1.0.now a.1.1.0.now (p ∙ sym q)).0
