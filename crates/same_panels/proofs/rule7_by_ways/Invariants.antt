use Rattle.rules.specs.Closing.{rules7}
use Rattle.moves.specs.Visits.{Keeping}
use Rattle.moves.proofs.Passing.{Passing}
use Rattle.same_panels.specs.Visits.{InPlace}
use Rattle.same_panels.proofs.Finding.{shared}
use Rattle.same_panels.proofs.rule7_by_ways.Given as goal

abbrev pub invariant-loop-i : goal.invariant-loop-i
invariant-loop-i l = Passing (Keeping rules7 l.lines.boards) l.lines.boards l.lines.count l.lines.words.now l.lines.index.now (InPlace l.lines.boards l.lines.words.now l.lines.index.now l.a l.b) (shared l.lines.index.now l.a l.b) l.left l.initial.cells l.initial.marks l.cells l.marks

abbrev pub decreases-loop-i : goal.decreases-loop-i
decreases-loop-i l = l.left
