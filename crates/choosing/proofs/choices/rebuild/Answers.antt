-- `rebuild` meets its contract: the choices at the pairs passed are struck in the first table. The measure is the pairs left. Assumes nothing.
use native.Mathlib.Omega.{arith}
use Rattle.choosing.proofs.Walking.{pair_board}
use Rattle.choosing.proofs.Rebuilding.{read_pick, built_open, built_struck, built_more}
use Rattle.choosing.proofs.choices.rebuild.Goals as goal

pub strike-requires : goal.strike-requires
strike-requires c =
    let built = c.loop-at.invariant in
    let within = built_open built c.requires.4 c.loop-at-test.true in
    (built.moved.fit, built.moved.list, pair_board built.pair within, within)

pub after-at-requires : goal.after-at-requires
after-at-requires c =
    let built = c.loop-at.invariant in
    (c.requires.0.ready.boards, built.pair, built_open built c.requires.4 c.loop-at-test.true)

pub loop-at-preserved : goal.loop-at-preserved
loop-at-preserved c =
    let built = c.loop-at.invariant in
    let left = c.loop-at-test.true in
    let within = built_open built c.requires.4 left in
    let picks = read_pick c.args.order.now c.args.choices.now c.loop-at.at.index (omega (arith, c.requires.3.room, c.requires.4, left)) c.index-choices-at.is c.pick-bound.ensures in
    built_more built within left picks (built_struck built within left picks c.strike.result c.requires.7 c.strike.ensures) c.after-at.ensures.0 c.after-at.ensures.1
