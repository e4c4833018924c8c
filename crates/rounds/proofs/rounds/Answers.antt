-- `rounds` meets its contract: what the list leaves is settled, and as many relations are struck as there are fewer. Assumes nothing.
use native.Mathlib.Omega.{arith}
use Rattle.rules.proofs.Inside.{total_mono}
use Rattle.rounds.specs.Rounds.{rules_again}
use Rattle.rounds.proofs.Draining.{drained_settled, empty_list, cells_few, rounds_err}
use Rattle.rounds.proofs.rounds.Goals as goal

pub members-before-requires : goal.members-before-requires
members-before-requires c = cells_few c.requires.0

pub new-index-requires : goal.new-index-requires
new-index-requires c = (c.requires.2, (c.args.v, c.requires.0.boards, c.requires.1.0))

pub settle-requires : goal.settle-requires
settle-requires c =
    let pre = c.requires in
    (pre.0, pre.3, empty_list _ c.marks_room-marks.ensures, record { lines = pre.1; few = pre.2; told = c.new-index.ensures })

pub returns-in_err-settle : goal.returns-in_err-settle
returns-in_err-settle c =
    λ ks e.
    rounds_err c.args.v (rules_again c.args.v ks) _ _ c.from_residual.result c.from_residual.ensures.0 (λ x h i d. c.in_err-settle.ensures ks e x h d i)

pub members-requires : goal.members-requires
members-requires c =
    let has = c.requires.1.0 in
    cells_few (c.in_ok-settle.ensures has.0 has.1).fit.ready

pub overflow_sub-result : goal.overflow_sub-result
overflow_sub-result c =
    let has = c.requires.1.0 in
    let left = c.in_ok-settle.ensures has.0 has.1 in
    omega (arith, total_mono left.inside, c.members.ensures, c.members-before.ensures)

pub returns : goal.returns
returns c = λ ks e. drained_settled (c.in_ok-settle.ensures ks e) c.members-before.ensures c.members.ensures
