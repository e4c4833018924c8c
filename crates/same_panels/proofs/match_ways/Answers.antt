-- `match_ways` meets its contract: the pairs of ways passed are the same, and no table is lost that is to be kept. Assumes nothing.
use Rattle.passes.specs.Passes.{Idles}
use Rattle.moves.proofs.Passing.{went_err}
use Rattle.same_panels.specs.Pairs.{joined, Joined}
use Rattle.same_panels.proofs.Matching.{joined_more, joined_lost}
use Rattle.same_panels.proofs.match_ways.Goals as goal

pub returns-in_err-strike : goal.returns-in_err-strike
returns-in_err-strike c =
    went_err (Idles c.args.v (joined c.args.v c.args.ways.now c.args.others.now)) c.args.v (λ n w. Joined c.args.v c.args.ways.now c.args.others.now w) _ c.args.marks.now _ _
    c.from_residual.result c.from_residual.ensures.0
    (joined_lost c.requires.2 c.loop-i-test.true c.from-p.ensures c.from-q.ensures c.loop-i.invariant.0 c.in_err-strike.ensures)

pub loop-i-preserved : goal.loop-i-preserved
loop-i-preserved c =
    let (moved, each) = c.loop-i.invariant in
    joined_more c.requires.2 c.loop-i-test.true c.from-p.ensures c.from-q.ensures moved c.in_ok-strike.ensures each
