use Rattle.rules.specs.Closing.{rules6}
use Rattle.by_board.specs.Found.{numbered}
use Rattle.moves.specs.Moves.{Fed}
use Rattle.moves.specs.Visits.{Keeping}
use Rattle.moves.proofs.Passing.{Passing}
use Rattle.panels.proofs.rule6_each.Given as goal

abbrev pub invariant-loop-n : goal.invariant-loop-n
invariant-loop-n l = Passing (Keeping rules6 l.lines.boards) l.lines.boards l.lines.count l.lines.words.now l.lines.index.now (λ n. Fed l.lines.boards (numbered l.lines.words.now n) l.z) l.fn.numbers l.left l.initial.cells l.initial.marks l.cells l.marks

abbrev pub decreases-loop-n : goal.decreases-loop-n
decreases-loop-n l = l.left
