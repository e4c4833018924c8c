use Prim.Native.Nat.{◌-◌, ◌≤◌}
use lib.ListN.{length}
use Rattle.kind_texts.proofs.Passing.{Passed}
use Rattle.kind_texts.proofs.Ways.list.Given as goal

abbrev pub invariant-loop-way : goal.invariant-loop-way
invariant-loop-way l = (l.next ≤ length l.line) × Passed l.line l.at l.next l.ways.kept l.ways.count

abbrev pub decreases-loop-way : goal.decreases-loop-way
decreases-loop-way l = length l.line - l.next
