-- `composed` meets its contract: its table, read by row and column, is that of the definition. Assumes nothing.
use mathlib.Core.Path.{refl}
use native.Mathlib.Omega.{arith}
use Rattle.rules.specs.Relations.{relations, singles, composed}
use Rattle.compositions.proofs.composed.Goals as goal

pub offset_bounds-r : goal.offset_bounds-r
unfolding relations
offset_bounds-r c = record { fits = omega arith }

pub bounds-r : goal.bounds-r
unfolding relations
bounds-r c = omega arith

pub bounds-s : goal.bounds-s
unfolding relations
bounds-s c = omega arith

pub returns : goal.returns
unfolding relations singles composed
returns c = refl
