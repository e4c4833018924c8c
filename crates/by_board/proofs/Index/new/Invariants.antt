use mathlib.Core.Path.{◌≡◌}
use Rattle.by_board.specs.Found.{start_of, Indexed}
use Rattle.by_board.proofs.Index.new.Given as goal

abbrev pub invariant-loop-n : goal.invariant-loop-n
invariant-loop-n l = (l.at ≡ start_of l.words l.n) × Indexed l.n l.words l.index
