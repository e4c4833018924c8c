use mathlib.Core.Path.{◌≡◌}
use Prim.Native.Nat.{◌-◌, ◌≤◌, ◌<◌}
use Rattle.sweeps.specs.Sweeps.{Sides}
use Rattle.sweeps.proofs.level_row.Given as goal

abbrev pub invariant-loop-q : goal.invariant-loop-q
invariant-loop-q l = (l.p < l.q) × (l.q ≤ l.v) × Sides l.v (λ a b. (a ≡ l.p) × (b < l.q)) l.initial.cells l.initial.marks l.cells l.marks

abbrev pub decreases-loop-q : goal.decreases-loop-q
decreases-loop-q l = l.v - l.q
