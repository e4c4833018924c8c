use Prim.Native.Nat.{◌+◌, ◌*◌}
use Rattle.rules.specs.Tables.{total}
use Rattle.kinds.specs.Sections.{WithKinds}
use Rattle.moves.specs.Moves.{marks}
use Rattle.rounds.proofs.Draining.{Draining}
use Rattle.rounds.proofs.drain.Given as goal

abbrev pub invariant-loop-p : goal.invariant-loop-p
invariant-loop-p l = WithKinds l.lines.boards l.lines.count l.lines.words.now (λ ks. Draining l.lines.boards ks l.initial.cells l.initial.marks l.cells l.marks)

abbrev pub decreases-loop-p : goal.decreases-loop-p
decreases-loop-p l = 2 * total l.cells + marks l.marks
