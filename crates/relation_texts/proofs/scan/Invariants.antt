use Prim.Native.Nat.{◌-◌}
use lib.ListN.{length}
use Rattle.relation_texts.proofs.Going.{Going}
use Rattle.relation_texts.proofs.scan.Given as goal

abbrev pub invariant-loop-symbol : goal.invariant-loop-symbol
invariant-loop-symbol l = Going l.line l.at l.expression l.next l.state

abbrev pub decreases-loop-symbol : goal.decreases-loop-symbol
decreases-loop-symbol l = length l.line - l.next
