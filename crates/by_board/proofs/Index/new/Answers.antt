-- `new` meets its contract: at first no line is told. Assumes nothing.
use mathlib.Core.Path.{refl}
use Rattle.by_board.specs.Found.{start_of}
use Rattle.by_board.proofs.Telling.{indexed_none}
use Rattle.by_board.proofs.Index.new.Goals as goal

pub loop-n-init : goal.loop-n-init
unfolding start_of
loop-n-init c = (refl, indexed_none c.args.words.now c.empty-index.ensures)
