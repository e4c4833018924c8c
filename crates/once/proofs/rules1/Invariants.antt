use mathlib.Core.List.{flat_map}
use Prim.Native.Nat.{◌-◌, ◌≤◌}
use Rattle.rules.specs.Tables.{up_to}
use Rattle.passes.specs.Passes.{Once}
use Rattle.once.proofs.Selves.{itself}
use Rattle.once.proofs.rules1.Given as goal

abbrev pub invariant-loop-p : goal.invariant-loop-p
invariant-loop-p l = (l.p ≤ l.v) × Once l.v (flat_map itself (up_to l.p)) l.initial.cells l.initial.struck l.cells l.struck

abbrev pub decreases-loop-p : goal.decreases-loop-p
decreases-loop-p l = l.v - l.p
