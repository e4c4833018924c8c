use Prim.Native.Nat.{◌-◌}
use lib.ListN.{length}
use Rattle.rules.specs.Search.{places}
use Rattle.choosing.proofs.Stepping.{Going}
use Rattle.choosing.proofs.choices.next_open.Given as goal

abbrev pub invariant-loop-at : goal.invariant-loop-at
invariant-loop-at l = Going l.v l.cells l.initial.choices l.initial.at.index l.choices l.at

abbrev pub decreases-loop-at : goal.decreases-loop-at
decreases-loop-at l = length (places l.v) - l.at.index
