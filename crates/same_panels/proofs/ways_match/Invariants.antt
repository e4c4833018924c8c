use Prim.Native.Nat.{ℕ, ◌<◌}
use Rattle.same_panels.proofs.Matching.{Pairs}
use Rattle.same_panels.proofs.ways_match.Given as goal

abbrev pub invariant-loop-i : goal.invariant-loop-i
invariant-loop-i l = (k : ℕ) → k < l.i → Pairs l.v l.cells l.ways l.others k
