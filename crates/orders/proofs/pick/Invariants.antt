use Rattle.orders.proofs.Picking.{From}
use Rattle.orders.proofs.pick.Given as goal

abbrev pub invariant-loop-relation : goal.invariant-loop-relation
invariant-loop-relation l = From l.order l.set l.relation-index
