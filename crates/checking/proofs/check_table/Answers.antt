-- `check_table` meets its contract: it is what the work on a copy comes to. Assumes nothing.
use mathlib.Core.Path.{sym}
use native.Mathlib.Omega.{arith}
use Rattle.tables.proofs.Shapes.{square_small, room_taken}
use Rattle.checking.proofs.check_table.Goals as goal

pub whole_as_front-check_by_copy : goal.whole_as_front-check_by_copy
whole_as_front-check_by_copy c =
    let few = square_small c.args.h.boards c.requires.ready.boards in
    (omega (arith, few, c.requires.ready.table.cells), omega arith)

pub slice_bounds-check_by_copy-end : goal.slice_bounds-check_by_copy-end
slice_bounds-check_by_copy-end c = sym (room_taken c.requires.ready c.room-cells.ensures)

pub check_by_copy-requires : goal.check_by_copy-requires
check_by_copy-requires c = (c.requires, room_taken c.requires.ready c.room-cells.ensures)
