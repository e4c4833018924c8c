use mathlib.Core.List.{flat_map}
use Prim.Native.Nat.{◌≤◌}
use lib.ListN.{length}
use Rattle.rules.specs.Tables.{up_to}
use Rattle.passes.specs.Passes.{Once}
use Rattle.kinds.specs.Lines.{line_at}
use Rattle.ways.proofs.Spreading.{beside, around}
use Rattle.ways.proofs.rule5.Given as goal

abbrev pub invariant-loop-j : goal.invariant-loop-j
invariant-loop-j l = (l.j ≤ length l.ways) × Once l.v (flat_map (beside (line_at l.words l.line) l.i) (up_to l.j)) l.initial.cells l.initial.struck l.cells l.struck

abbrev pub invariant-loop-i : goal.invariant-loop-i
invariant-loop-i l = (l.i ≤ length l.ways) × Once l.v (flat_map (around (line_at l.words l.line)) (up_to l.i)) l.initial.cells l.initial.struck l.cells l.struck
