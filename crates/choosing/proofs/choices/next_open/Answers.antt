-- `next_open` meets its contract: each pair passed has at most one relation, which its set keeps. The measure is the pairs left. Assumes nothing.
use native.Mathlib.Omega.{arith}
use Rattle.choosing.proofs.Walking.{pair_within}
use Rattle.choosing.proofs.Stepping.{going_room, going_try, going_on, going_end}
use Rattle.choosing.proofs.choices.next_open.Goals as goal

pub bounds-choices-at : goal.bounds-choices-at
bounds-choices-at c = going_room c.loop-at.invariant c.loop-at-test.true

pub returns-then-several : goal.returns-then-several
returns-then-several c =
    going_try c.requires.0 c.loop-at.invariant c.loop-at-test.true c.cell-set.ensures (omega (arith, c.len-several.ensures, c.if-several.true))

pub loop-at-smaller : goal.loop-at-smaller
loop-at-smaller c = omega (arith, c.after-at.ensures.1, pair_within c.loop-at.invariant.pair c.loop-at-test.true)

pub loop-at-preserved : goal.loop-at-preserved
loop-at-preserved c =
    going_on c.requires.0 c.loop-at.invariant c.loop-at-test.true c.cell-set.ensures (omega (arith, c.len-several.ensures, c.if-several.false))
    c.after-at.ensures.0 c.after-at.ensures.1

pub returns : goal.returns
returns c = going_end c.loop-at.invariant c.loop-at-test.false
