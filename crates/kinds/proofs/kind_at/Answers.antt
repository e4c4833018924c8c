-- `kind_at` meets its contract: it reads the three words that the line begins with, and a word is too small for the end to be too large. Assumes nothing.
use mathlib.Core.Path.{refl}
use Prim.Native.Nat.{◌+◌}
use native.Mathlib.Omega.{arith}
use Rattle.kinds.proofs.kind_at.Goals as goal

pub overflow_add-result-2 : goal.overflow_add-result-2
overflow_add-result-2 c =
    let at = c.args.at in
    omega (arith, c.from-2.ensures, c.type_inv.words (at + 2))

pub returns : goal.returns
returns c = rw (c.from.ensures, c.from-2.ensures) refl
