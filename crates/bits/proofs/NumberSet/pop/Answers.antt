-- `pop` meets its contract: the least number is counted by the zeros below its bit, which is taken off. Assumes nothing.
use mathlib.Core.Path.{refl}
use Rattle.bits.proofs.Laws.{taken_fits, taken_least}
use Rattle.bits.proofs.NumberSet.pop.Goals as goal

pub overflow_sub-self : goal.overflow_sub-self
overflow_sub-self c = taken_fits c.self.inside.bits _ c.self.invariant c.if-self-eq0.false refl

pub returns : goal.returns
returns c =
    rw (← c.self.view_is) (taken_least c.self.inside.bits _ c.self.invariant c.if-self-eq0.false refl)
