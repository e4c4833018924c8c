-- `rules1` meets its contract: each turn is one strike by a bound that stays. The measure is the boards left. Assumes nothing.
use native.Mathlib.Omega.{arith}
use Rattle.rules.specs.Closing.{rules1}
use Rattle.passes.proofs.Passes.{once_start, once_whole, place_few, ready_place, ready_kept, kept_few}
use Rattle.once.proofs.Selves.{itself, itself_turn}
use Rattle.once.proofs.rules1.Goals as goal

pub loop-p-init : goal.loop-p-init
loop-p-init c = (omega arith, once_start itself c.requires.table)

pub overflow_mul-k : goal.overflow_mul-k
overflow_mul-k c = record { fits = omega (arith, place_few c.requires.boards c.loop-p-test.true c.loop-p-test.true) }

pub overflow_add-k : goal.overflow_add-k
overflow_add-k c = record { fits = omega (arith, place_few c.requires.boards c.loop-p-test.true c.loop-p-test.true) }

pub narrow-struck-requires : goal.narrow-struck-requires
narrow-struck-requires c = ready_place (ready_kept c.requires c.loop-p.invariant.1.kept) c.loop-p-test.true c.loop-p-test.true

pub loop-p-smaller : goal.loop-p-smaller
loop-p-smaller c = omega arith

pub loop-p-preserved : goal.loop-p-preserved
loop-p-preserved c =
    (omega arith, itself_turn c.requires c.loop-p-test.true c.loop-p.invariant.1 c.narrow-struck.ensures)

pub overflow_add-struck : goal.overflow_add-struck
overflow_add-struck c = record { fits = omega (arith, kept_few c.requires (loop-p-preserved c).1.kept) }

pub returns : goal.returns
unfolding rules1
returns c = once_whole itself c.args.v c.loop-p.invariant.0 c.loop-p-test.false c.loop-p.invariant.1
