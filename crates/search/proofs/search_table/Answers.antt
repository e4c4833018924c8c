-- `search_table` meets its contract: what the search in the room comes to. Assumes nothing.
use mathlib.Core.Path.{sym}
use native.Mathlib.Omega.{arith}
use Rattle.tables.proofs.Shapes.{square_small, room_taken}
use Rattle.search.proofs.Searching.{room_sets}
use Rattle.search.proofs.search_table.Goals as goal

pub whole_as_front-search_in_room : goal.whole_as_front-search_in_room
whole_as_front-search_in_room c =
    let few = square_small c.args.h.boards c.requires.0.ready.boards in
    (omega (arith, few, c.requires.0.ready.table.cells), omega arith)

pub slice_bounds-search_in_room-end : goal.slice_bounds-search_in_room-end
slice_bounds-search_in_room-end c = sym (room_taken c.requires.0.ready c.room-first.ensures)

pub whole_as_front-search_in_room-2 : goal.whole_as_front-search_in_room-2
whole_as_front-search_in_room-2 c =
    let few = square_small c.args.h.boards c.requires.0.ready.boards in
    (omega (arith, few, c.requires.0.ready.table.cells), omega arith)

pub slice_bounds-search_in_room-end-3 : goal.slice_bounds-search_in_room-end-3
slice_bounds-search_in_room-end-3 c = sym (room_taken c.requires.0.ready c.room-cells.ensures)

pub search_in_room-requires : goal.search_in_room-requires
search_in_room-requires c =
    let pre = c.requires in
    record {
      admitted = pre.0;
      order = pre.1;
      start = room_taken pre.0.ready c.room-first.ensures;
      sets = room_sets pre.0.ready.boards c.room-choices.ensures;
      cells = room_taken pre.0.ready c.room-cells.ensures;
      list = c.marks_room-marks.ensures;
    }
