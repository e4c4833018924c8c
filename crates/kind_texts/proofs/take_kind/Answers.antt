-- `take_kind` meets its contract: a number, the code, and a left parenthesis come before the ways. Assumes nothing.
use mathlib.Core.Path.{refl}
use borrow.Author.Rules.{rules}
use Rattle.symbols.proofs.Steps.{next_symbol, none_left}
use Rattle.kind_texts.proofs.Moves.{code_other, code_none}
use Rattle.kind_texts.proofs.Taking.{took_same, took_none, came_none, came_all, left_ended, left_wrong, left_right}
use Rattle.kind_texts.proofs.take_kind.Goals as goal

pub returns-in_err-code : goal.returns-in_err-code
returns-in_err-code c = took_none _ _ (code_none (none_left _ _ c.requires.0 c.symbol_at-first.ensures c.in_err-code.was) c.args.board) (search rules)

pub returns-in_default : goal.returns-in_default
returns-in_default c =
    let code = next_symbol _ _ c.requires.0 c.symbol_at-first.ensures _ c.in_ok-code.was in
    took_none _ _ (code_other code c.in_default.not-Number c.args.board) refl

pub symbol_at-left-requires : goal.symbol_at-left-requires
symbol_at-left-requires c = (next_symbol _ _ c.requires.0 c.symbol_at-first.ensures _ c.in_ok-code.was).inside

pub returns-in_err-left : goal.returns-in_err-left
returns-in_err-left c =
    let code = next_symbol _ _ c.requires.0 c.symbol_at-first.ensures _ c.in_ok-code.was in
    took_none _ _ (left_ended code c.in-Number.is c.args.board (none_left _ _ code.inside c.symbol_at-left.ensures c.in_err-left.was)) (search rules)

pub returns-in_default-2 : goal.returns-in_default-2
returns-in_default-2 c =
    let code = next_symbol _ _ c.requires.0 c.symbol_at-first.ensures _ c.in_ok-code.was in
    let left = next_symbol _ _ code.inside c.symbol_at-left.ensures _ c.in_ok-left.was in
    took_none _ _ (left_wrong code c.in-Number.is c.args.board left c.in_default-2.not-LeftParen) refl

pub list-requires : goal.list-requires
list-requires c =
    let code = next_symbol _ _ c.requires.0 c.symbol_at-first.ensures _ c.in_ok-code.was in
    (next_symbol _ _ code.inside c.symbol_at-left.ensures _ c.in_ok-left.was).inside

pub returns-in_err-ways : goal.returns-in_err-ways
returns-in_err-ways c =
    let code = next_symbol _ _ c.requires.0 c.symbol_at-first.ensures _ c.in_ok-code.was in
    let left = next_symbol _ _ code.inside c.symbol_at-left.ensures _ c.in_ok-left.was in
    took_same (left_right code c.in-Number.is c.args.board left c.in-LeftParen.is) (took_none _ _ (came_none _ c.list.ensures _ _ c.in_err-ways.was) (search rules))

pub returns : goal.returns
returns c =
    let code = next_symbol _ _ c.requires.0 c.symbol_at-first.ensures _ c.in_ok-code.was in
    let left = next_symbol _ _ code.inside c.symbol_at-left.ensures _ c.in_ok-left.was in
    took_same (left_right code c.in-Number.is c.args.board left c.in-LeftParen.is) (came_all _ c.list.ensures _ _ c.in_ok-ways.was c.put.ensures)
