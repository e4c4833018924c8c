use mathlib.Core.Path.{◌≡◌}
use Prim.Native.Nat.{ℕ, ◌-◌, ◌≤◌, ◌<◌}
use Rattle.rules.specs.Tables.{cell}
use Rattle.sweeps.specs.Sweeps.{Sides}
use Rattle.sweeps.proofs.level_all.Given as goal

abbrev pub invariant-loop-p : goal.invariant-loop-p
invariant-loop-p l = (l.p ≤ l.v) × Sides l.v (λ a b. a < l.p) l.initial.cells l.initial.marks l.cells l.marks × ((a : ℕ) → a < l.p → cell l.v l.initial.cells a a ≡ 0 → ⊥)

abbrev pub decreases-loop-p : goal.decreases-loop-p
decreases-loop-p l = l.v - l.p
