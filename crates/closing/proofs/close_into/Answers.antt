-- `close_into` meets its contract: each of its ends is one of the laws of a table closed into another. Assumes nothing.
use Rattle.closing.proofs.Calling.{into_emptied, into_struck}
use Rattle.closing.proofs.close_into.Goals as goal

pub returns-in_default : goal.returns-in_default
returns-in_default c =
    into_emptied c.requires.0 c.args.table.now _ _ c.close_cells.ensures c.in_default.is

pub returns : goal.returns
returns c =
    into_struck c.requires.0 c.args.table.now _ _ c.close_cells.ensures
    c.in-Ok.is c.write_cells.ensures
