use Prim.Native.Nat.{◌-◌}
use Rattle.rules.specs.Closing.{rules7}
use Rattle.by_board.specs.Found.{numbered}
use Rattle.moves.specs.Visits.{Keeping}
use Rattle.moves.proofs.Passing.{Counting}
use Rattle.same_panels.specs.Visits.{Unlisted}
use Rattle.same_panels.proofs.rule7_first_beside.Given as goal

abbrev pub invariant-loop-o : goal.invariant-loop-o
invariant-loop-o l = Counting (Keeping rules7 l.lines.boards) l.lines.boards l.lines.count l.lines.words.now l.lines.index.now (λ o. Unlisted l.lines.boards (numbered l.lines.words.now l.n) (numbered l.lines.words.now o)) l.o l.initial.cells l.initial.marks l.cells l.marks

abbrev pub decreases-loop-o : goal.decreases-loop-o
decreases-loop-o l = l.lines.count - l.o
