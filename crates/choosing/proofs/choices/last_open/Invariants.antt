use Rattle.choosing.proofs.Backing.{Backing}
use Rattle.choosing.proofs.choices.last_open.Given as goal

abbrev pub invariant-loop-at : goal.invariant-loop-at
invariant-loop-at l = Backing l.v l.order l.initial.choices l.initial.at.index l.choices l.at

abbrev pub decreases-loop-at : goal.decreases-loop-at
decreases-loop-at l = l.at.index
