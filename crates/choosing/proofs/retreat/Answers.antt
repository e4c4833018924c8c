-- `retreat` meets its contract: it goes back, and rebuilds the cells where a relation is left. Assumes nothing.
use Prim.Native.Nat.{◌≤◌, ◌<◌}
use native.Mathlib.Omega.{arith}
use lib.ListN.{length}
use Rattle.rules.specs.Search.{places}
use Rattle.choosing.proofs.Walking.{pair_within}
use Rattle.choosing.proofs.Rebuilding.{standing_same}
use Rattle.choosing.proofs.retreat.Goals as goal

pub rebuild-requires : goal.rebuild-requires
rebuild-requires c =
    let b = c.in_ok-to.ensures in
    let l : c.args.at.index < length (places c.args.v) = pair_within c.requires.pair c.requires.within in
    let before : c.in_ok-to.to.index ≤ c.args.at.index = b.most in
    let m : c.args.at.q < c.args.v = c.requires.within in (
      c.requires.fit,
      omega arith,
      c.requires.order,
      b.sets,
      omega arith,
      c.requires.cells,
      c.requires.list,
      standing_same b.before (c.requires.standing c.in_ok-to.to.index before),
    )
