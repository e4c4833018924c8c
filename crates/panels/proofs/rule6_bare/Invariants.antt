use Prim.Native.Nat.{◌-◌}
use Rattle.rules.specs.Closing.{rules6}
use Rattle.by_board.specs.Found.{numbered}
use Rattle.moves.specs.Moves.{Fed}
use Rattle.moves.specs.Visits.{Keeping}
use Rattle.moves.proofs.Passing.{Counting}
use Rattle.panels.proofs.rule6_bare.Given as goal

abbrev pub invariant-loop-z : goal.invariant-loop-z
invariant-loop-z l = Counting (Keeping rules6 l.lines.boards) l.lines.boards l.lines.count l.lines.words.now l.lines.index.now (Fed l.lines.boards (numbered l.lines.words.now l.n)) l.z l.initial.cells l.initial.marks l.cells l.marks

abbrev pub decreases-loop-z : goal.decreases-loop-z
decreases-loop-z l = l.lines.boards - l.z
