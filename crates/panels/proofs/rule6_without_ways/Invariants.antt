use Prim.Native.Nat.{◌-◌}
use Rattle.rules.specs.Closing.{rules6}
use Rattle.by_board.specs.Found.{numbered}
use Rattle.moves.specs.Visits.{Keeping}
use Rattle.moves.proofs.Passing.{Counting}
use Rattle.panels.specs.Visits.{FedBare}
use Rattle.panels.proofs.rule6_without_ways.Given as goal

abbrev pub invariant-loop-n : goal.invariant-loop-n
invariant-loop-n l = Counting (Keeping rules6 l.lines.boards) l.lines.boards l.lines.count l.lines.words.now l.lines.index.now (λ i. FedBare l.lines.boards (numbered l.lines.words.now i)) l.n l.initial.cells l.initial.marks l.cells l.marks

abbrev pub decreases-loop-n : goal.decreases-loop-n
decreases-loop-n l = l.lines.count - l.n
