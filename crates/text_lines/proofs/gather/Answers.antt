-- `gather` meets its contract: the first line opens the sheet, and those after it are gathered. Assumes nothing.
use mathlib.Core.Path.{sym, ◌∙◌}
use borrow.Author.Rules.{rules}
use Rattle.text_lines.proofs.Firsts.{first_fault, first_rest}
use Rattle.text_lines.proofs.gather.Goals as goal

pub returns-in_err-boards : goal.returns-in_err-boards
returns-in_err-boards c = first_fault c.split_line.ensures _ c.open_line.ensures (sym c.ok_or.ensures.value ∙ c.in_err-boards.was) _ _ (search rules)

pub returns : goal.returns
returns c = first_rest c.split_line.ensures _ c.open_line.ensures (sym c.ok_or.ensures.value ∙ c.in_ok-boards.was) _ _ _ c.gather_from.ensures
