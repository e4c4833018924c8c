-- `list` meets its contract: the ways passed are kept and counted. Assumes nothing.
use mathlib.Core.Path.{refl}
use borrow.Author.Rules.{rules}
use native.Mathlib.Omega.{arith}
use Rattle.symbols.proofs.Steps.{next_symbol, none_left}
use Rattle.kind_texts.proofs.Passing.{passed_none, passed_none_left, passed_bad, passed_more, passed_end}
use Rattle.kind_texts.proofs.Ways.list.Goals as goal

pub loop-way-init : goal.loop-way-init
loop-way-init c = (c.requires, passed_none _ _ _)

pub returns-in_err-way : goal.returns-in_err-way
returns-in_err-way c = passed_none_left c.loop-way.invariant.1 (none_left _ _ c.loop-way.invariant.0 c.symbol_at-token.ensures c.in_err-way.was) (search rules)

pub ends-requires : goal.ends-requires
ends-requires c = (next_symbol _ _ c.loop-way.invariant.0 c.symbol_at-token.ensures _ c.in_ok-way.was).inside

pub returns-in-RightParen : goal.returns-in-RightParen
returns-in-RightParen c =
    passed_end c.loop-way.invariant.1 (next_symbol _ _ c.loop-way.invariant.0 c.symbol_at-token.ensures _ c.in_ok-way.was) c.in-RightParen.is _ refl refl c.ends.ensures c.then_some.ensures

pub returns-in_default : goal.returns-in_default
returns-in_default c =
    passed_bad c.loop-way.invariant.1 (next_symbol _ _ c.loop-way.invariant.0 c.symbol_at-token.ensures _ c.in_ok-way.was) c.in_default.not-Number c.in_default.not-RightParen

pub loop-way-smaller : goal.loop-way-smaller
loop-way-smaller c =
    let l = next_symbol _ _ c.loop-way.invariant.0 c.symbol_at-token.ensures _ c.in_ok-way.was in
    omega (arith, l.later, l.inside)

pub loop-way-preserved : goal.loop-way-preserved
loop-way-preserved c = (
  (next_symbol _ _ c.loop-way.invariant.0 c.symbol_at-token.ensures _ c.in_ok-way.was).inside,
  passed_more c.loop-way.invariant.1 (next_symbol _ _ c.loop-way.invariant.0 c.symbol_at-token.ensures _ c.in_ok-way.was) c.in-Number.is _ _ c.keep.ensures,
)
