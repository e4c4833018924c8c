-- `operands_of` meets its contract: it reads what stands at the code. Assumes nothing.
use native.Mathlib.Omega.{arith}
use Rattle.rules.specs.Expressions.{codes}
use Rattle.expressions.proofs.operands_of.Goals as goal

pub bounds-counts-word : goal.bounds-counts-word
unfolding codes
bounds-counts-word c = omega (arith, c.requires.0.cells, c.requires.1)

pub returns : goal.returns
returns c = c.requires.0.entry c.args.word c.requires.1
