use mathlib.Core.Path.{◌≡◌}
use Prim.Native.Nat.{ℕ, ◌<◌}
use lib.ListN.{get_or}
use Rattle.moves.proofs.take_pair.Given as goal

abbrev pub invariant-loop-p : goal.invariant-loop-p
invariant-loop-p l = (l.marks ≡ l.initial.marks) × ((j : ℕ) → j < l.p → get_or l.marks j 0 ≡ 0)
