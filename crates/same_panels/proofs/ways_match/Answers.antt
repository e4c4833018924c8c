-- `ways_match` meets its contract: each pair of ways that was passed has E. Assumes nothing.
use native.Mathlib.Omega.{arith}
use borrow.Author.Count.{below_more}
use Rattle.same_panels.proofs.Matching.{paired_not, paired_all, pairs}
use Rattle.same_panels.proofs.ways_match.Goals as goal

pub returns-then-is_empty : goal.returns-then-is_empty
returns-then-is_empty c =
    paired_not c.requires.1 c.loop-i-test.true c.args.cells.now c.from.ensures c.from-in-loop-i.ensures c.cell.ensures c.bitand.ensures c.is_empty.ensures
    c.if-is_empty.true

pub loop-i-preserved : goal.loop-i-preserved
loop-i-preserved c =
    below_more _ _ c.loop-i.invariant (pairs c.requires.1 c.loop-i-test.true c.args.cells.now c.from.ensures c.from-in-loop-i.ensures c.cell.ensures c.bitand.ensures
    c.is_empty.ensures c.if-is_empty.false)

pub returns : goal.returns
returns c =
    paired_all c.args.v c.args.cells.now c.args.ways.now c.args.others.now (λ i h. c.loop-i.invariant i (omega (arith, c.loop-i-test.false, h)))
