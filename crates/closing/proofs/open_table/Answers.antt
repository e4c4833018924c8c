-- `open_table` meets its contract: as many full cells are the full table, which is closed into the lent one. Assumes nothing.
use mathlib.Core.Path.{sym, ap, ◌∙◌, subst}
use native.Mathlib.Omega.{arith}
use lib.ListN.{length, replicate, length-replicate}
use Rattle.rules.specs.Relations.{full}
use Rattle.rules.specs.Descriptions.{most_cells}
use Rattle.sweeps.proofs.Leveling.{full_is}
use Rattle.rules.proofs.Full.{filled_cells}
use Rattle.closing.specs.Closes.{Admitted}
use Rattle.closing.proofs.Calling.{full_admitted, full_fits, full_taken, full_opened}
use Rattle.closing.proofs.open_table.Goals as goal

pub whole_as_front-close_into : goal.whole_as_front-close_into
whole_as_front-close_into c =
    let e = c.room-full.ensures ∙ ap (replicate most_cells) (sym full_is) in
    (omega (arith, full_fits c.requires e, ap length e ∙ length-replicate most_cells full), omega arith)

pub slice_bounds-close_into-end : goal.slice_bounds-close_into-end
slice_bounds-close_into-end c =
    sym (ap length (full_taken c.requires (c.room-full.ensures ∙ ap (replicate most_cells) (sym full_is))) ∙ filled_cells c.args.h.boards ∙ sym c.requires.cells)

pub close_into-requires : goal.close_into-requires
close_into-requires c =
    let taken = full_taken c.requires (c.room-full.ensures ∙ ap (replicate most_cells) (sym full_is)) in (
      subst (Admitted c.args.h c.args.words.now) (sym taken) (full_admitted c.requires),
      c.requires.cells ∙ sym (ap length taken ∙ filled_cells c.args.h.boards),
    )

pub returns : goal.returns
returns c =
    full_opened c.requires (full_taken c.requires (c.room-full.ensures ∙ ap (replicate most_cells) (sym full_is))) c.close_into.ensures
