-- `rule7_by_ways` meets its contract: rule 7 is seen to of the lines that share each place that is not left. The measure is the set of those left, as a
-- number. Assumes nothing.
use native.Mathlib.Omega.{arith}
use Rattle.rules.specs.Descriptions.{most_ways}
use Rattle.bits.proofs.Laws.{has_small}
use Rattle.by_board.proofs.Asking.{found_numbers}
use Rattle.moves.proofs.Passing.{passing_next, passing_end, passing_less}
use Rattle.same_panels.proofs.Visiting.{steady_each}
use Rattle.same_panels.proofs.Finding.{shared_small, by_ways}
use Rattle.same_panels.proofs.rule7_by_ways.Goals as goal

pub with_way-numbers-requires : goal.with_way-numbers-requires
with_way-numbers-requires c =
    let pre = c.requires in
    (pre.1, has_small most_ways _ c.in-Some.i (shared_small pre.0.listed pre.1 pre.2) (c.loop-i.invariant.among c.in-Some.i c.in-Some.ensures.1))

pub with_way-others-requires : goal.with_way-others-requires
with_way-others-requires c =
    let pre = c.requires in
    (pre.2, has_small most_ways _ c.in-Some.i (shared_small pre.0.listed pre.1 pre.2) (c.loop-i.invariant.among c.in-Some.i c.in-Some.ensures.1))

pub rule7_each-requires : goal.rule7_each-requires
rule7_each-requires c =
    let pre = c.requires in
    let few = has_small most_ways _ c.in-Some.i (shared_small pre.0.listed pre.1 pre.2) (c.loop-i.invariant.among c.in-Some.i c.in-Some.ensures.1) in
    let first = found_numbers pre.0.listed _ c.with_way-numbers.ensures (omega (arith, pre.1, few)) in
    let second = found_numbers pre.0.listed _ c.with_way-others.ensures (omega (arith, pre.2, few)) in
    (c.loop-i.invariant.going.site, first, second)

pub loop-i-smaller : goal.loop-i-smaller
loop-i-smaller c = let taken = c.in-Some.ensures in passing_less c.loop-i.invariant c.in-Some.i taken.1 taken.3

pub loop-i-preserved : goal.loop-i-preserved
loop-i-preserved c =
    let taken = c.in-Some.ensures in
    passing_next c.loop-i.invariant c.in-Some.i _ _
    (simp (c.with_way-numbers.ensures, c.with_way-others.ensures) at c.in_ok-rule7_each.ensures) taken.1 taken.3 (λ i. steady_each _ _ _ _)

pub returns : goal.returns
returns c =
    let pre = c.requires in
    let p = c.loop-i.invariant in
    λ ks fill. (p.going.gone ks fill, by_ways pre.0.listed pre.1 pre.2 (passing_end p c.in_default.ensures.0))
