-- `level_all` meets its contract: the boards that were passed are the same from both sides as each board after them. Assumes nothing.
use native.Mathlib.Omega.{arith}
use Rattle.sweeps.proofs.Leveling.{sides_as, sides_noted}
use Rattle.sweeps.proofs.level_all.Goals as goal

pub returns : goal.returns
returns c =
    let pre = c.requires in
    let inv = c.loop-p.invariant in
    sides_noted pre.0 pre.2 (sides_as (λ a b h hb e. omega arith) inv.1) (λ a h. inv.2 a (omega arith))
