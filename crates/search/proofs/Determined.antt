-- Any two answers and tables that the contract of `search_table` permits are equal. Assumes nothing.
use mathlib.Core.Path.{sym, ◌∙◌}
use Rattle.contracts.specs.Promises.{OneOutcome}
use Rattle.answers.proofs.Faults.{result_determined}
use Rattle.search.proofs.search_table.Kinds as table_kinds
use Rattle.search.proofs.search_table.Reads as table

pub search_table_determined : OneOutcome 3 table_kinds.ps table_kinds.r table.Asked table.Learnt (λ κs e. e.1.1.1.1.0.now)
search_table_determined κs a asked x y d e p q = result_determined x y d.1.1.1.1.0.now e.1.1.1.1.0.now (p ∙ sym q)
