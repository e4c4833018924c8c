use Rattle.by_board.specs.contracts.Index.{the_view, the_invariant}
use Rattle.by_board.proofs.Placing.{Turn}
use Rattle.by_board.proofs.Index.put_line.Given as goal

abbrev pub invariant-loop-i : goal.invariant-loop-i
invariant-loop-i l = the_invariant l.self-inside × Turn l.words l.n l.i (the_view l.self-inside)
