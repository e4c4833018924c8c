-- `take_pair` meets its contract: the boards passed have no pair. Assumes nothing.
use Rattle.moves.proofs.Taking.{pair_taken}
use Rattle.moves.proofs.take_pair.Goals as goal

pub returns-in-Some : goal.returns-in-Some
returns-in-Some c =
    let pre = c.requires in
    pair_taken c.args.v c.args.marks.now pre.0 pre.1 c.loop-p.p c.loop-p-test.true _ c.loop-p.marks c.loop-p.invariant.0 c.loop-p.invariant.1 c.in-Some.q _ c.in-Some.ensures
