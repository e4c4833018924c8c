-- `take_line` meets its contract: a board comes first, and a colon after it makes a kind line. Assumes nothing.
use borrow.Author.Rules.{rules}
use Rattle.text_lines.proofs.Sorting.{took_nothing, took_other, board_inside, colon_inside, line_kind, line_relation, kind_took, relation_took}
use Rattle.text_lines.proofs.take_line.Goals as goal

pub returns-in_err-number : goal.returns-in_err-number
returns-in_err-number c = took_nothing _ c.symbol_at-board.ensures c.in_err-number.was _ _ _ _ (search rules)

pub returns-in_default : goal.returns-in_default
returns-in_default c = took_other _ c.symbol_at-board.ensures c.in_ok-number.was c.in_default.not-Number _ _ _ _

pub symbol_at-mark-requires : goal.symbol_at-mark-requires
symbol_at-mark-requires c = board_inside _ c.symbol_at-board.ensures c.in_ok-number.was

-- ---- a kind line

pub take_kind-requires : goal.take_kind-requires
take_kind-requires c =
    (colon_inside _ c.symbol_at-board.ensures c.in_ok-number.was c.in-Number.is c.symbol_at-mark.ensures (search rules), search rules)

pub returns-then-eq : goal.returns-then-eq
returns-then-eq c =
    kind_took _ _ (line_kind _ c.symbol_at-board.ensures c.in_ok-number.was c.in-Number.is c.symbol_at-mark.ensures (search rules)) _ _ c.take_kind.ensures (search rules)

-- ---- a relation line

pub take_relation-requires : goal.take_relation-requires
take_relation-requires c = (board_inside _ c.symbol_at-board.ensures c.in_ok-number.was, search rules)

pub returns : goal.returns
returns c =
    relation_took _ _ (line_relation _ c.symbol_at-board.ensures c.in_ok-number.was c.in-Number.is c.symbol_at-mark.ensures (λ e. search rules)) _ _ c.take_relation.ensures
    (search rules)
