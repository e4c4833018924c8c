-- `drain` meets its contract: what is owed is owed by the list, until nothing is on it. The measure is the relations left, twice, and the marks.
-- Assumes nothing.
use Rattle.rounds.proofs.Draining.{on_boards, draining_start, draining_end, first_other, first_list, draining_more, draining_less, draining_apart, draining_lost, drained_err}
use Rattle.rounds.proofs.drain.Goals as goal

pub loop-p-init : goal.loop-p-init
loop-p-init c = λ ks e. let pre = c.requires in draining_start pre.0.table pre.0.list (pre.1 ks e)

pub take_pair-requires : goal.take_pair-requires
take_pair-requires c =
    let pre = c.requires in
    let has = pre.0.listed.lines.0 in
    (pre.0.table.ready.boards, (c.loop-p.invariant has.0 has.1).list)

pub revisit-requires : goal.revisit-requires
revisit-requires c =
    let pre = c.requires in
    let has = pre.0.listed.lines.0 in
    let inv = c.loop-p.invariant has.0 has.1 in
    let few = pre.0.table.ready.boards in
    let off = c.in-Some.ensures in (
      record { table = inv.fit; list = first_list inv few off; listed = pre.0.listed },
      off.1,
      first_other inv few off,
      λ ks e a i b j. draining_apart (c.loop-p.invariant ks e) _ a i b j,
    )

pub returns-in_err-revisit : goal.returns-in_err-revisit
returns-in_err-revisit c =
    λ ks e.
    drained_err c.args.lines.now.boards ks _ _ _ c.from_residual.result c.from_residual.ensures.0
    (draining_lost (c.loop-p.invariant ks e) (c.in_err-revisit.ensures ks e))

pub loop-p-smaller : goal.loop-p-smaller
loop-p-smaller c =
    let pre = c.requires in
    let has = pre.0.listed.lines.0 in
    draining_less (c.loop-p.invariant has.0 has.1) pre.0.table.ready.boards c.in-Some.ensures (c.in_ok-revisit.ensures has.0 has.1).0

pub loop-p-preserved : goal.loop-p-preserved
loop-p-preserved c =
    λ ks e.
    let went = c.in_ok-revisit.ensures ks e in
    draining_more (c.loop-p.invariant ks e) c.requires.0.table.ready.boards c.in-Some.ensures went.0
    (on_boards c.args.lines.now.boards c.args.lines.now.count c.args.lines.now.words.now ks e) went.1

pub returns : goal.returns
returns c =
    λ ks e.
    let none = c.in_default.ensures in
    rw none.1 (draining_end (c.loop-p.invariant ks e) (on_boards c.args.lines.now.boards c.args.lines.now.count c.args.lines.now.words.now ks e) none.0)
