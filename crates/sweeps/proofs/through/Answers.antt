-- `through` meets its contract: each third board that was passed is tended, from both sides. Assumes nothing.
use mathlib.Core.Path.{ap, ◌∙◌}
use native.Mathlib.Omega.{arith}
use Rattle.rules.specs.Relations.{compose}
use Rattle.moves.specs.Watches.{through}
use Rattle.moves.proofs.Moving.{moved_then, tended_moved}
use Rattle.moves.proofs.Passing.{went_err}
use Rattle.moves.proofs.Reading.{through_honest}
use Rattle.sweeps.specs.Sweeps.{Evenly, ThroughBoth}
use Rattle.sweeps.proofs.Sweeping.{through_lost, through_went, through_turn}
use Rattle.sweeps.proofs.through.Goals as goal

pub returns-in_err-strike : goal.returns-in_err-strike
returns-in_err-strike c =
    let pre = c.requires in
    went_err (Evenly c.args.v) c.args.v (ThroughBoth c.args.v c.args.p c.args.q) _ c.args.marks.now _ _ c.from_residual.result c.from_residual.ensures.0
    (through_lost pre.2 pre.3 c.loop-r-test.true c.cell-x.ensures (c.compose-bound.ensures ∙ ap (compose c.cell-x.result) c.cell.ensures) c.loop-r.invariant.1 c.in_err-strike.ensures)

pub cell-requires-in-loop-r : goal.cell-requires-in-loop-r
cell-requires-in-loop-r c =
    let pre = c.requires in
    let went = through_went pre.2 pre.3 c.loop-r-test.true c.cell-x.ensures (c.compose-bound.ensures ∙ ap (compose c.cell-x.result) c.cell.ensures) c.loop-r.invariant.1 c.in_ok-strike.ensures in
    (went.fit.ready, pre.2, c.loop-r-test.true)

pub strike-requires-in-loop-r : goal.strike-requires-in-loop-r
strike-requires-in-loop-r c =
    let pre = c.requires in
    let went = through_went pre.2 pre.3 c.loop-r-test.true c.cell-x.ensures (c.compose-bound.ensures ∙ ap (compose c.cell-x.result) c.cell.ensures) c.loop-r.invariant.1 c.in_ok-strike.ensures in
    (went.fit, went.list, pre.3, c.loop-r-test.true)

pub returns-in_err-strike-2 : goal.returns-in_err-strike-2
returns-in_err-strike-2 c =
    let pre = c.requires in
    let went = through_went pre.2 pre.3 c.loop-r-test.true c.cell-x.ensures (c.compose-bound.ensures ∙ ap (compose c.cell-x.result) c.cell.ensures) c.loop-r.invariant.1 c.in_ok-strike.ensures in
    went_err (Evenly c.args.v) c.args.v (ThroughBoth c.args.v c.args.p c.args.q) _ c.args.marks.now _ _ c.from_residual-in_err-strike-2.result c.from_residual-in_err-strike-2.ensures.0
    (through_lost pre.3 pre.2 c.loop-r-test.true c.cell-y.ensures (c.compose-other.ensures ∙ ap (compose c.cell-y.result) c.cell-in-loop-r.ensures) (moved_then c.loop-r.invariant.1 went) c.in_err-strike-2.ensures)

pub loop-r-preserved : goal.loop-r-preserved
loop-r-preserved c =
    let pre = c.requires in
    let inv = c.loop-r.invariant in
    let v = c.args.v in
    let p = c.args.p in
    let q = c.args.q in
    let bound = (c.compose-bound.ensures ∙ ap (compose c.cell-x.result) c.cell.ensures) in
    let went = through_went pre.2 pre.3 c.loop-r-test.true c.cell-x.ensures (c.compose-bound.ensures ∙ ap (compose c.cell-x.result) c.cell.ensures) c.loop-r.invariant.1 c.in_ok-strike.ensures in
    let turn = through_turn pre.2 pre.3 c.loop-r-test.true c.cell-x.ensures bound inv.1 c.in_ok-strike.ensures inv.2 in
    let rest = (c.compose-other.ensures ∙ ap (compose c.cell-y.result) c.cell-in-loop-r.ensures) in
    let again = through_went pre.3 pre.2 c.loop-r-test.true c.cell-y.ensures rest turn.0 c.in_ok-strike-2.ensures in
    let other =
    through_turn pre.3 pre.2 c.loop-r-test.true c.cell-y.ensures rest turn.0 c.in_ok-strike-2.ensures
    (λ j h. tended_moved went (through v q p j) (through_honest v q p j) (inv.3 j h)) in
    (omega arith, other.0, λ j h. tended_moved again (through v p q j) (through_honest v p q j) (turn.1 j h), other.1)

pub returns : goal.returns
returns c = let inv = c.loop-r.invariant in (inv.1, (λ r h. inv.2 r (omega arith), λ r h. inv.3 r (omega arith)))
