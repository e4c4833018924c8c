-- `rule6_of_ways` meets its contract: rule 6 is seen to of the lines that have the board in each place that is not left. The measure is the set of those
-- left, as a number. Assumes nothing.
use native.Mathlib.Omega.{arith}
use Rattle.rules.specs.Descriptions.{most_ways}
use Rattle.bits.proofs.Laws.{has_small}
use Rattle.by_board.proofs.Asking.{found_numbers, place_told}
use Rattle.moves.proofs.Passing.{board_few, passing_next, passing_end, passing_less}
use Rattle.panels.proofs.Visiting.{steady_each}
use Rattle.panels.proofs.rule6_of_ways.Goals as goal

pub with_way-requires : goal.with_way-requires
with_way-requires c =
    let pre = c.requires in
    let board = board_few pre.0.table pre.1 in
    (board, has_small most_ways _ c.in-Some.i (pre.0.listed.told.few _ board) (c.loop-i.invariant.among c.in-Some.i c.in-Some.ensures.1))

pub rule6_each-requires : goal.rule6_each-requires
rule6_each-requires c =
    let pre = c.requires in
    let board = board_few pre.0.table pre.1 in
    let few = has_small most_ways _ c.in-Some.i (pre.0.listed.told.few _ board) (c.loop-i.invariant.among c.in-Some.i c.in-Some.ensures.1) in
    (c.loop-i.invariant.going.site, found_numbers pre.0.listed _ c.with_way.ensures (omega (arith, board, few)), pre.2)

pub loop-i-smaller : goal.loop-i-smaller
loop-i-smaller c = let taken = c.in-Some.ensures in passing_less c.loop-i.invariant c.in-Some.i taken.1 taken.3

pub loop-i-preserved : goal.loop-i-preserved
loop-i-preserved c =
    let taken = c.in-Some.ensures in
    passing_next c.loop-i.invariant c.in-Some.i _ _ (rw c.with_way.ensures at c.in_ok-rule6_each.ensures) taken.1 taken.3 (λ i. steady_each _ _ _ _)

pub returns : goal.returns
returns c =
    let pre = c.requires in
    let p = c.loop-i.invariant in
    λ ks fill. (
      p.going.gone ks fill,
      λ i h n d. passing_end p c.in_default.ensures.0 i (place_told pre.0.listed (board_few pre.0.table pre.1) h n d) n d,
    )
