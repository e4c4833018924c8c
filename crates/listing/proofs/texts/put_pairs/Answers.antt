-- `put_pairs` meets its contract: the lines of the boards passed are put. Assumes nothing.
use native.Mathlib.Omega.{arith}
use Rattle.listing.specs.Listings.{pairs_of}
use Rattle.listing.proofs.Rows.{lines_none, lines_fit, lines_more, lines_all}
use Rattle.listing.proofs.texts.put_pairs.Goals as goal

pub loop-p-init : goal.loop-p-init
loop-p-init c = lines_none (pairs_of c.args.v c.args.table.now) 0 {q = 0} c.args.out.now (omega arith)

pub put_pairs_of-requires : goal.put_pairs_of-requires
put_pairs_of-requires c =
    let loop = c.loop-p in
    let v = c.args.v in (
      c.requires.0,
      c.loop-p-test.true,
      c.requires.1,
      lines_fit (pairs_of v c.args.table.now) 0 {q = loop.p} (omega arith) loop.invariant v (omega arith) c.requires.2,
    )

pub loop-p-preserved : goal.loop-p-preserved
loop-p-preserved c =
    let loop = c.loop-p in lines_more (pairs_of c.args.v c.args.table.now) 0 {q = loop.p} (omega arith) loop.invariant c.put_pairs_of.ensures

pub returns : goal.returns
returns c =
    let loop = c.loop-p in
    lines_all (pairs_of c.args.v c.args.table.now) 0 {q = loop.p} (omega arith) loop.invariant c.args.v (omega arith) (omega arith)
