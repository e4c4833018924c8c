use mathlib.Core.Path.{◌≡◌}
use Prim.Native.Nat.{◌-◌, ◌≤◌}
use lib.ListN.{length}
use Rattle.closing.specs.Closes.{Under}
use Rattle.choosing.specs.Tries.{relists}
use Rattle.choosing.proofs.Midway.{Midway}
use Rattle.choosing.proofs.choose.Given as goal

abbrev pub invariant-loop-next : goal.invariant-loop-next
invariant-loop-next l =
    Under l.words (λ s. Midway s l.order l.first l.tries l.choices l.cells l.next × relists s l.cells l.marks l.next) × (l.tries ≤ l.budget) × (length l.choices ≡ length l.initial.choices) × (length l.cells ≡ length l.initial.cells)
    × (length l.marks ≡ length l.initial.marks)

abbrev pub decreases-loop-next : goal.decreases-loop-next
decreases-loop-next l = l.budget - l.tries
