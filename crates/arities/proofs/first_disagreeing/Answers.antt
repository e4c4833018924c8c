-- `first_disagreeing` meets its contract: the lines passed are of one arity, until one disagrees with one of them. Assumes nothing.
use Rattle.arities.proofs.Comparing.{sought_start, sought_there, sought_within, sought_before, sought_found, sought_next, sought_end}
use Rattle.arities.proofs.first_disagreeing.Goals as goal

pub loop-passed-init : goal.loop-passed-init
loop-passed-init c = sought_start c.args.count c.args.words.now

pub kind_at-line-requires : goal.kind_at-line-requires
kind_at-line-requires c = sought_there c.loop-passed.invariant c.loop-passed-test.true c.requires

pub disagrees_before-requires : goal.disagrees_before-requires
disagrees_before-requires c =
    let more = c.loop-passed-test.true in
    (sought_within c.loop-passed.invariant more c.requires c.kind_at-line.ensures, sought_before c.loop-passed.invariant more c.requires)

pub returns-then-disagrees_before : goal.returns-then-disagrees_before
returns-then-disagrees_before c =
    sought_found c.loop-passed.invariant c.loop-passed-test.true c.kind_at-line.ensures c.disagrees_before.ensures c.if-disagrees_before.true

pub loop-passed-preserved : goal.loop-passed-preserved
loop-passed-preserved c =
    sought_next c.loop-passed.invariant c.loop-passed-test.true c.kind_at-line.ensures c.disagrees_before.ensures c.if-disagrees_before.false

pub returns : goal.returns
returns c = sought_end c.loop-passed.invariant c.loop-passed-test.false
