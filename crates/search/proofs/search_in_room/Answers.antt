-- `search_in_room` meets its contract: each of its ends is one of the laws of a search. Assumes nothing.
use mathlib.Core.Path.{sym, ◌∙◌, subst}
use Rattle.closing.specs.Closes.{Admitted}
use Rattle.rounds.proofs.Draining.{empty_list}
use Rattle.search.proofs.Searching.{first_whole, search_emptied, search_struck}
use Rattle.search.proofs.search_in_room.Goals as goal

pub close_cells-requires : goal.close_cells-requires
close_cells-requires c = subst (Admitted c.args.h c.args.words.now) (sym c.read_cells.ensures) c.requires.admitted

pub conclude-requires : goal.conclude-requires
conclude-requires c = sym c.requires.cells

pub returns-in_default : goal.returns-in_default
returns-in_default c =
    c.conclude.ensures ∙ search_emptied c.requires.admitted c.read_cells.ensures _ _ c.close_cells.ensures c.args.order.now c.args.budget c.in_default.is

pub tell_kinds-found-requires : goal.tell_kinds-found-requires
tell_kinds-found-requires c = c.requires.admitted.header

pub choose-ended-requires : goal.choose-ended-requires
choose-ended-requires c =
    record {
      told = c.tell_kinds-found.ensures;
      list = empty_list c.args.marks.now c.requires.list;
      order = c.requires.order;
      sets = c.requires.sets;
      whole = λ s e. first_whole s _ _ c.in-Ok.is (c.close_cells.ensures s e);
      cells = c.copy_from_slice.ensures.after;
    }

pub conclude-requires-2 : goal.conclude-requires-2
conclude-requires-2 c = sym (c.choose-ended.auto.cells ∙ c.copy_from_slice.auto.self ∙ c.requires.cells)

pub returns : goal.returns
returns c =
    let choose = c.choose-ended in
    c.conclude-2.ensures
    ∙ search_struck c.requires.admitted c.read_cells.ensures _ _ c.close_cells.ensures c.args.order.now c.args.budget c.in-Ok.is
    choose.new.cells choose.result choose.ensures

pub read_cells-requires : goal.read_cells-requires
read_cells-requires c = (c.requires.admitted.ready.table.small, c.requires.start)
