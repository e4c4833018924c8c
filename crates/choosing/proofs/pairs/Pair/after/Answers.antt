-- `after` meets its contract: the next pair is one of the same board, or the first of the next. Assumes nothing.
use mathlib.Core.Path.{refl}
use native.Mathlib.Omega.{arith}
use Rattle.choosing.proofs.Walking.{pair_within, pairs_most, next_first}
use Rattle.choosing.proofs.pairs.Pair.after.Goals as goal

pub overflow_add-index : goal.overflow_add-index
overflow_add-index c =
    omega (arith, pair_within c.requires.1 c.requires.2, pairs_most c.args.v c.requires.0)

pub returns : goal.returns
returns c =
    (next_first c.requires.1 c.requires.2 c.if-self-v.false, refl)
