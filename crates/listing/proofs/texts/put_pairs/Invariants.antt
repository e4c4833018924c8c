use mathlib.Core.List.{flat_map}
use Prim.Native.Nat.{◌-◌}
use Rattle.rules.specs.Tables.{range}
use Rattle.puts.specs.Texts.{Put}
use Rattle.listing.specs.Listings.{pairs_of}
use Rattle.listing.proofs.texts.put_pairs.Given as goal

abbrev pub invariant-loop-p : goal.invariant-loop-p
invariant-loop-p l = Put l.initial.out (flat_map (pairs_of l.v l.table) (range 0 (l.p - 0))) l.out
