-- `disagrees_before` meets its contract: what was found is whether the line disagrees with one passed. Assumes nothing.
use Rattle.arities.proofs.Comparing.{compared_start, compared_there, compared_within, compared_next, compared_end}
use Rattle.arities.proofs.disagrees_before.Goals as goal

pub loop-i-init : goal.loop-i-init
loop-i-init c = compared_start c.args.passed c.args.words.now c.args.line

pub kind_at-other-requires : goal.kind_at-other-requires
kind_at-other-requires c = compared_there c.loop-i.invariant c.loop-i-test.true c.requires.1

pub disagree-found-requires : goal.disagree-found-requires
disagree-found-requires c =
    (c.requires.0.0, (compared_within c.loop-i.invariant c.loop-i-test.true c.requires.1 c.kind_at-other.ensures).0)

pub loop-i-preserved : goal.loop-i-preserved
loop-i-preserved c =
    compared_next c.loop-i.invariant c.loop-i-test.true c.requires.1 c.kind_at-other.ensures c.requires.0 c.disagree-found.ensures

pub returns : goal.returns
returns c = compared_end c.loop-i.invariant c.loop-i-test.false
