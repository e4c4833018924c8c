use Prim.Native.Nat.{ℕ, ◌<◌}
use lib.ListN.{get_or}
use Rattle.rules.specs.Relations.{E, ◌lies_within◌}
use Rattle.rules.specs.Tables.{cell}
use Rattle.passes.specs.Passes.{Idles}
use Rattle.moves.specs.Moves.{Moved}
use Rattle.same_panels.specs.Pairs.{joined}
use Rattle.same_panels.proofs.match_ways.Given as goal

abbrev pub invariant-loop-i : goal.invariant-loop-i
invariant-loop-i l =
    Moved (Idles l.v (joined l.v l.ways l.others)) l.v l.initial.cells l.initial.marks l.cells l.marks
    × ((j : ℕ) → j < l.i → cell l.v l.cells (get_or l.ways j 0) (get_or l.others j 0) lies_within E)
