-- `first` meets its contract. Assumes nothing.
use mathlib.Core.Path.{refl}
use Rattle.choosing.proofs.Walking.{first_pair}
use Rattle.choosing.proofs.pairs.Pair.first.Goals as goal

pub returns : goal.returns
returns c = (first_pair c.requires, refl)
