-- `scan` meets its contract: what each symbol does is passed on, and what is left says what the line comes to. Assumes nothing.
use mathlib.Core.Path.{sym, ap, ◌∙◌}
use native.Mathlib.Omega.{arith}
use Rattle.std.specs.Prelude.{Some}
use Rattle.rules.proofs.Tests.{clash}
use Rattle.symbols.specs.Tokens.{told}
use Rattle.symbols.proofs.Steps.{next_symbol, none_left}
use Rattle.relation_texts.proofs.Going.{held_word, held_still, going_none, going_last, going_stopped, going_on}
use Rattle.relation_texts.proofs.scan.Goals as goal
use Rattle.relation_texts.proofs.scan.Goals.{in-Word, in_default}

pub returns-in_err-symbol : goal.returns-in_err-symbol
returns-in_err-symbol c =
    let g = c.loop-symbol.invariant in
    going_none g (none_left _ _ g.inside c.symbol_at-token.ensures c.in_err-symbol.was) _ _ c.from_residual.ensures

pub ends-requires : goal.ends-requires
ends-requires c = (next_symbol _ _ c.loop-symbol.invariant.inside c.symbol_at-token.ensures c.in_ok-symbol.symbol c.in_ok-symbol.was).inside

pub returns-in-Number : goal.returns-in-Number
returns-in-Number c =
    let g = c.loop-symbol.invariant in
    let n = next_symbol _ _ g.inside c.symbol_at-token.ensures c.in_ok-symbol.symbol c.in_ok-symbol.was in
    going_last g _ _ n c.in-Number.board (ap told c.in-Number.is) c.ends.result c.ends.ensures _ c.then_some.ensures

pub returns-in_err-state : goal.returns-in_err-state
returns-in_err-state c =
    let g = c.loop-symbol.invariant in
    let m = c.match-symbol.symbol in
    let next = next_symbol c.args.line.now c.loop-symbol.next g.inside c.symbol_at-token.ensures m in
    elim c.match-symbol.branch [
      | in-Word w ↦ going_stopped g _ m (next (c.in_ok-symbol.was ∙ ap Some (w.in-Word.is ∙ sym w.symbol-is)))
          (λ q h. let e = w.symbol-is in clash (cc)) c.in_err-state.ensures _ _ c.from_residual-in_err-state.ensures
      | in_default w ↦ going_stopped g _ m (next (c.in_ok-symbol.was ∙ ap Some (sym w.symbol-is)))
          (λ q h. w.in_default.not-Number q (sym w.symbol-is ∙ h)) c.in_err-state.ensures _ _ c.from_residual-in_err-state.ensures
    ]

pub loop-symbol-smaller : goal.loop-symbol-smaller
loop-symbol-smaller c =
    let n = next_symbol _ _ c.loop-symbol.invariant.inside c.symbol_at-token.ensures c.in_ok-symbol.symbol c.in_ok-symbol.was in
    omega (arith, n.later, n.inside)

pub loop-symbol-preserved : goal.loop-symbol-preserved
loop-symbol-preserved c =
    let g = c.loop-symbol.invariant in
    let m = c.match-symbol.symbol in
    let d = c.loop-symbol.state.depth in
    let next = next_symbol c.args.line.now c.loop-symbol.next g.inside c.symbol_at-token.ensures m in
    elim c.match-symbol.branch [
      | in-Word w ↦ going_on g _ m (next (c.in_ok-symbol.was ∙ ap Some (w.in-Word.is ∙ sym w.symbol-is)))
          (held_word g.words _ _ m w.in-Word.code d w.symbol-is w.expression-is (w.keep.ensures g.words g.held)) c.in_ok-state.ensures
      | in_default w ↦ going_on g _ m (next (c.in_ok-symbol.was ∙ ap Some (sym w.symbol-is)))
          (held_still g.words _ _ m d (λ k h. w.in_default.not-Word k (sym w.symbol-is ∙ h)) w.expression-is g.held) c.in_ok-state.ensures
    ]
