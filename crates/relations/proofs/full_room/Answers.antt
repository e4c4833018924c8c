-- `full_room` meets its contract: 15 is the set of all relations. Assumes nothing.
use mathlib.Core.Path.{refl}
use Rattle.rules.specs.Relations.{relations, set_to, set_of, full}
use Rattle.relations.proofs.full_room.Goals as goal

pub returns : goal.returns
unfolding relations set_to set_of full
returns c = refl
