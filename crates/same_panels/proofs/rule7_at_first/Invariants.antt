use Prim.Native.Nat.{◌-◌}
use Rattle.rules.specs.Closing.{rules7}
use Rattle.moves.specs.Visits.{Keeping}
use Rattle.moves.proofs.Passing.{Counting}
use Rattle.same_panels.specs.Visits.{FirstBeside}
use Rattle.same_panels.proofs.rule7_at_first.Given as goal

abbrev pub invariant-loop-n : goal.invariant-loop-n
invariant-loop-n l = Counting (Keeping rules7 l.lines.boards) l.lines.boards l.lines.count l.lines.words.now l.lines.index.now (FirstBeside l.lines.boards l.lines.count l.lines.words.now) l.n l.initial.cells l.initial.marks l.cells l.marks

abbrev pub decreases-loop-n : goal.decreases-loop-n
decreases-loop-n l = l.lines.count - l.n
