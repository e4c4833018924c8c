-- `plain_order` meets its contract: it is the order. Assumes nothing.
use mathlib.Core.Path.{refl}
use Rattle.solver.proofs.plain_order.Goals as goal

pub returns : goal.returns
returns c = refl
