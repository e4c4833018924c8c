-- `put_pairs_of` meets its contract: the lines of the pairs passed are put. Assumes nothing.
use Prim.Native.Nat.{suc, ◌+◌, ◌-◌}
use native.Mathlib.Omega.{arith}
use Rattle.listing.specs.Listings.{pair_line}
use Rattle.listing.proofs.Rows.{lines_none, lines_fit, lines_more, lines_all}
use Rattle.listing.proofs.texts.put_pairs_of.Goals as goal

pub loop-q-init : goal.loop-q-init
loop-q-init c = lines_none (pair_line c.args.v c.args.table.now c.args.p) (suc c.args.p) {q = c.args.p + 1} c.args.out.now (omega arith)

pub put_pair-requires : goal.put_pair-requires
unfolding pair_line
put_pair-requires c =
    let v = c.args.v in
    let p = c.args.p in
    let loop = c.loop-q in
    lines_fit (pair_line v c.args.table.now p) (suc p) {q = loop.q} (omega arith) loop.invariant (v - suc p) (omega arith) c.requires.3

pub loop-q-preserved : goal.loop-q-preserved
unfolding pair_line
loop-q-preserved c =
    let loop = c.loop-q in
    lines_more (pair_line c.args.v c.args.table.now c.args.p) (suc c.args.p) {q = loop.q} (omega arith) loop.invariant c.put_pair.ensures

pub returns : goal.returns
returns c =
    let p = c.args.p in
    let loop = c.loop-q in
    lines_all (pair_line c.args.v c.args.table.now p) (suc p) {q = loop.q} (omega arith) loop.invariant (c.args.v - suc p) (omega arith) (omega arith)
