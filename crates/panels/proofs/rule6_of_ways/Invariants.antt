use Rattle.rules.specs.Closing.{rules6}
use Rattle.by_board.specs.Found.{with_way, places_of}
use Rattle.moves.specs.Visits.{Keeping}
use Rattle.moves.proofs.Passing.{Passing}
use Rattle.panels.specs.Visits.{FedEach}
use Rattle.panels.proofs.rule6_of_ways.Given as goal

abbrev pub invariant-loop-i : goal.invariant-loop-i
invariant-loop-i l = Passing (Keeping rules6 l.lines.boards) l.lines.boards l.lines.count l.lines.words.now l.lines.index.now (λ i. FedEach l.lines.boards l.lines.words.now (with_way l.lines.index.now l.a i) l.b) (places_of l.lines.index.now l.a) l.left l.initial.cells l.initial.marks l.cells l.marks

abbrev pub decreases-loop-i : goal.decreases-loop-i
decreases-loop-i l = l.left
