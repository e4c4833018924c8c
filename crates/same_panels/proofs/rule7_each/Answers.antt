-- `rule7_each` meets its contract: rule 7 is seen to of each line that is not left. The measure is the set of those left, as a number. Assumes nothing.
use Rattle.moves.proofs.Passing.{passing_next, passing_end, passing_less}
use Rattle.same_panels.proofs.Visiting.{steady_beside}
use Rattle.same_panels.proofs.rule7_each.Goals as goal

pub loop-n-smaller : goal.loop-n-smaller
loop-n-smaller c = let taken = c.in-Some.ensures in passing_less c.loop-n.invariant c.in-Some.n taken.1 taken.3

pub loop-n-preserved : goal.loop-n-preserved
loop-n-preserved c =
    let taken = c.in-Some.ensures in
    passing_next c.loop-n.invariant c.in-Some.n _ _ c.in_ok-rule7_beside.ensures taken.1 taken.3 (λ n. steady_beside _ _ _ _)

pub returns : goal.returns
returns c = let p = c.loop-n.invariant in λ ks fill. (p.going.gone ks fill, passing_end p c.in_default.ensures.0)
