use mathlib.Core.List.{flat_map}
use Prim.Native.Nat.{suc, ◌-◌}
use Rattle.rules.specs.Tables.{range}
use Rattle.puts.specs.Texts.{Put}
use Rattle.listing.specs.Listings.{pair_line}
use Rattle.listing.proofs.texts.put_pairs_of.Given as goal

abbrev pub invariant-loop-q : goal.invariant-loop-q
invariant-loop-q l = Put l.initial.out (flat_map (pair_line l.v l.table l.p) (range (suc l.p) (l.q - suc l.p))) l.out
