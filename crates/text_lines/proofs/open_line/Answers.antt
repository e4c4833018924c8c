-- `open_line` meets its contract: the word `boards`, a number, and nothing after it. Assumes nothing.
use borrow.Author.Rules.{rules}
use Rattle.text_lines.proofs.Opening.{opens_nothing, number_inside, opens_other, opens_number}
use Rattle.text_lines.proofs.open_line.Goals as goal

pub returns-in_err-boards : goal.returns-in_err-boards
returns-in_err-boards c = opens_nothing _ c.after_boards.ensures c.in_ok-at.was c.symbol_at-number.ensures c.in_err-boards.was (search rules)

pub returns-in_default : goal.returns-in_default
returns-in_default c = opens_other _ c.after_boards.ensures c.in_ok-at.was c.symbol_at-number.ensures c.in_ok-boards.was c.in_default.not-Number

pub symbol_at-requires : goal.symbol_at-requires
symbol_at-requires c = number_inside _ c.after_boards.ensures c.in_ok-at.was c.symbol_at-number.ensures c.in_ok-boards.was

pub returns : goal.returns
returns c =
    opens_number _ c.after_boards.ensures c.in_ok-at.was c.symbol_at-number.ensures c.in_ok-boards.was c.in-Number.is c.symbol_at.ensures _ c.is_none.ensures
    c.then_some.ensures
