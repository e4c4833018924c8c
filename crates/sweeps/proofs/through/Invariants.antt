use Prim.Native.Nat.{ℕ, ◌-◌, ◌≤◌, ◌<◌}
use Rattle.moves.specs.Watches.{through}
use Rattle.moves.specs.Moves.{Moved, Tended}
use Rattle.sweeps.specs.Sweeps.{Evenly}
use Rattle.sweeps.proofs.through.Given as goal

abbrev pub invariant-loop-r : goal.invariant-loop-r
invariant-loop-r l = (l.r ≤ l.v) × Moved (Evenly l.v) l.v l.initial.cells l.initial.marks l.cells l.marks × ((j : ℕ) → j < l.r → Tended l.v l.marks l.cells (through l.v l.p l.q j)) × ((j : ℕ) → j < l.r → Tended l.v l.marks l.cells (through l.v l.q l.p j))

abbrev pub decreases-loop-r : goal.decreases-loop-r
decreases-loop-r l = l.v - l.r
