use mathlib.Core.Path.{◌≡◌}
use Prim.Native.Nat.{◌<◌}
use lib.ListN.{length}
use Rattle.typed.specs.Scanning.{chief}
use Rattle.prefixes.proofs.Chiefs.{chief_of}
use Rattle.prefixes.proofs.chief.Given as goal

abbrev pub invariant-loop-i : goal.invariant-loop-i
invariant-loop-i l = (l.best < length l.items) × (chief l.items ≡ chief_of l.items l.best l.i)
