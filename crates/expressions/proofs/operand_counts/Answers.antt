-- `operand_counts` meets its contract: what each code takes, computed once for the whole table. Assumes nothing.
use mathlib.Core.Path.{refl}
use lib.ListN.{length}
use Rattle.rules.specs.Expressions.{codes, code}
use Rattle.rules.proofs.Entries.{value_at}
use Rattle.expressions.specs.Codes.{operands}
use Rattle.expressions.proofs.operand_counts.Goals as goal

pub returns : goal.returns
unfolding codes code
returns c = record { cells = refl; entry = value_at (λ w. operands (code w)) (length codes) }
