-- `check_by_copy` meets its contract: a cell is not decided, or closing empties one, or the table is an arrangement. Assumes nothing.
use mathlib.Core.Path.{◌≡◌, sym, ap, ◌∙◌, subst}
use mathlib.Core.Bool.{true}
use Rattle.closing.specs.Closes.{Admitted}
use Rattle.checking.proofs.Checking.{all_single, check_several, check_emptied, check_closed}
use Rattle.checking.proofs.check_by_copy.Goals as goal

pub read_cells-requires : goal.read_cells-requires
read_cells-requires c = (c.requires.0.ready.table.small, c.requires.1)

pub returns-then-not-decided : goal.returns-then-not-decided
returns-then-not-decided c = check_several c.requires.0 c.read_cells.ensures c.decided.ensures c.if-not-decided.true

pub close_cells-requires : goal.close_cells-requires
close_cells-requires c = subst (Admitted c.args.h c.args.words.now) (sym c.read_cells.ensures) c.requires.0

pub returns-in_default : goal.returns-in_default
returns-in_default c =
    let single : true ≡ all_single c.args.table.now = sym c.if-not-decided.false ∙ c.decided.ensures ∙ ap all_single c.read_cells.ensures in
    check_emptied c.requires.0 c.read_cells.ensures single _ _ c.close_cells.ensures c.in_default.is

pub returns : goal.returns
returns c =
    let single : true ≡ all_single c.args.table.now = sym c.if-not-decided.false ∙ c.decided.ensures ∙ ap all_single c.read_cells.ensures in
    check_closed c.requires.0 c.read_cells.ensures single _ _ c.close_cells.ensures c.in-Ok.is
