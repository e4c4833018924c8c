-- `sets_only` meets its contract: what it tells is true of the cells passed. Assumes nothing.
use Rattle.tables.proofs.Shapes.{sets_told}
use Rattle.tables.proofs.sets_only.Goals as goal

pub returns : goal.returns
returns c =
    let loop = c.loop-byte in
    sets_told c.args.table.now loop.byte-index loop.auto.byte-index-end c.loop-byte-test.false loop.sets loop.invariant
