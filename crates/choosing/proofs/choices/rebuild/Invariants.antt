use Prim.Native.Nat.{◌-◌}
use lib.ListN.{length}
use Rattle.rules.specs.Search.{places}
use Rattle.choosing.proofs.Rebuilding.{Built}
use Rattle.choosing.proofs.choices.rebuild.Given as goal

abbrev pub invariant-loop-at : goal.invariant-loop-at
invariant-loop-at l = Built l.v l.order l.choices l.first l.count l.cells l.marks l.at

abbrev pub decreases-loop-at : goal.decreases-loop-at
decreases-loop-at l = length (places l.v) - l.at.index
