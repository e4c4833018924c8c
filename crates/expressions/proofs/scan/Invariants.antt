use mathlib.Core.Path.{◌≡◌}
use Prim.Native.Nat.{◌+◌, ◌≤◌}
use lib.ListN.{length, drop}
use Rattle.rules.specs.Expressions.{expression}
use Rattle.expressions.specs.Found.{scan_found}
use Rattle.expressions.proofs.Scanning.{needing}
use Rattle.expressions.proofs.scan.Given as goal

abbrev pub invariant-loop-i : goal.invariant-loop-i
invariant-loop-i l = (needing l.needed (drop l.i l.words) ≡ scan_found (expression l.words)) × (l.needed ≤ 1 + l.i) × (l.i ≤ length l.words)
