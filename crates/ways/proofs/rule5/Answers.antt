-- `rule5` meets its contract: the ways that were passed lie below the panel and beside all ways, and the way at hand beside those that were
-- passed. Assumes nothing.
use native.Mathlib.Omega.{arith}
use Rattle.passes.proofs.Passes.{once_start}
use Rattle.kinds.specs.Lines.{line_at}
use Rattle.ways.proofs.Spreading.{around, around_all, below_few, beside_none, beside_place, beside_next, walk_few, around_next}
use Rattle.ways.proofs.rule5.Goals as goal

pub loop-i-init : goal.loop-i-init
loop-i-init c = (omega arith, once_start (around (line_at c.args.words.now c.args.line)) c.requires.0.table)

pub overflow_add-struck : goal.overflow_add-struck
overflow_add-struck c =
    let few =
    below_few c.requires.0 c.requires.1 c.loop-i.i c.loop-i-test.true c.loop-i.invariant.1 c.from-y.ensures c.narrow-struck.ensures in
    record { fits = omega (arith, few) }

pub loop-j-init : goal.loop-j-init
loop-j-init c =
    (omega arith, beside_none c.requires.0 c.requires.1 c.loop-i.i c.loop-i-test.true c.loop-i.invariant.1 c.from-y.ensures c.narrow-struck.ensures)

pub narrow-struck-requires-in-loop-j : goal.narrow-struck-requires-in-loop-j
narrow-struck-requires-in-loop-j c =
    beside_place c.requires.0 c.requires.1 c.loop-i.i c.loop-i-test.true c.loop-i.invariant.1 c.from-y.ensures c.narrow-struck.ensures
    c.loop-j.invariant.1 c.loop-j-test.true c.from.ensures

pub loop-j-preserved : goal.loop-j-preserved
loop-j-preserved c = (
  omega arith,
  beside_next c.requires.0 c.requires.1 c.loop-i.i c.loop-i-test.true c.loop-i.invariant.1 c.from-y.ensures c.narrow-struck.ensures
      c.loop-j.invariant.1 c.loop-j-test.true c.from.ensures c.apart.ensures c.narrow-struck-in-loop-j.ensures,
)

pub overflow_add-struck-in-loop-j : goal.overflow_add-struck-in-loop-j
overflow_add-struck-in-loop-j c =
    let few =
    walk_few c.requires.0 c.requires.1 c.loop-i.i c.loop-i-test.true c.loop-i.invariant.1 c.from-y.ensures c.narrow-struck.ensures
    (loop-j-preserved c).1 in
    record { fits = omega (arith, few) }

pub loop-i-preserved : goal.loop-i-preserved
loop-i-preserved c = (
  omega arith,
  around_next c.requires.0 c.requires.1 c.loop-i.i c.loop-i-test.true c.loop-i.invariant.1 c.from-y.ensures c.narrow-struck.ensures
      c.loop-j.invariant.1 c.loop-j.invariant.0 c.loop-j-test.false,
)

pub returns : goal.returns
returns c = around_all (line_at c.args.words.now c.args.line) c.loop-i.invariant.0 c.loop-i-test.false c.loop-i.invariant.1
