-- `close_by_copy` meets its contract: a copy of the table is closed into it. Assumes nothing.
use mathlib.Core.Path.{sym, ◌∙◌, subst}
use Rattle.closing.specs.Closes.{Admitted}
use Rattle.closing.proofs.Calling.{copy_closed}
use Rattle.closing.proofs.close_by_copy.Goals as goal

pub close_into-requires : goal.close_into-requires
close_into-requires c =
    let read = c.read_cells in
    (subst (Admitted c.args.h c.args.words.now) (sym read.ensures) c.requires.0, sym (read.auto.cells ∙ c.requires.1))

pub returns : goal.returns
returns c =
    copy_closed c.requires.0 c.read_cells.ensures c.close_into.ensures

pub read_cells-requires : goal.read_cells-requires
read_cells-requires c = (c.requires.0.ready.table.small, c.requires.1)
