use Rattle.rules.specs.Closing.{rules7}
use Rattle.moves.specs.Visits.{Keeping}
use Rattle.moves.proofs.Passing.{Passing}
use Rattle.same_panels.specs.Visits.{Beside}
use Rattle.same_panels.proofs.rule7_each.Given as goal

abbrev pub invariant-loop-n : goal.invariant-loop-n
invariant-loop-n l = Passing (Keeping rules7 l.lines.boards) l.lines.boards l.lines.count l.lines.words.now l.lines.index.now (λ n. Beside l.lines.boards l.lines.words.now n l.fn.others) l.fn.numbers l.left l.initial.cells l.initial.marks l.cells l.marks

abbrev pub decreases-loop-n : goal.decreases-loop-n
decreases-loop-n l = l.left
