-- `rule6_each` meets its contract: rule 6 is seen to of each line that is not left. The measure is the set of those left, as a number. Assumes nothing.
use Rattle.rules.specs.Closing.{rules6}
use Rattle.by_board.proofs.Asking.{line_located, located_stands}
use Rattle.moves.specs.Moves.{emptied_cell}
use Rattle.moves.specs.Visits.{Keeping}
use Rattle.moves.proofs.Passing.{visited_err, passing_lost, passing_next, passing_end, passing_less}
use Rattle.panels.specs.Visits.{FedEach}
use Rattle.panels.proofs.Visiting.{steady_line, line_visited, line_lost}
use Rattle.panels.proofs.rule6_each.Goals as goal

pub line-requires : goal.line-requires
line-requires c = line_located c.requires.0.listed (c.requires.1 c.in-Some.n (c.loop-n.invariant.among c.in-Some.n c.in-Some.ensures.1))

pub rule6_at-requires : goal.rule6_at-requires
rule6_at-requires c =
    let site = c.loop-n.invariant.going.site in
    let below = c.requires.1 c.in-Some.n (c.loop-n.invariant.among c.in-Some.n c.in-Some.ensures.1) in
    (site.table, site.list, located_stands site.listed below c.line.ensures, c.requires.2)

pub returns-in_err-rule6_at : goal.returns-in_err-rule6_at
returns-in_err-rule6_at c =
    let l = c.args.lines.now in
    let below = c.requires.1 c.in-Some.n (c.loop-n.invariant.among c.in-Some.n c.in-Some.ensures.1) in
    visited_err (Keeping rules6 l.boards) l.boards l.count l.words.now (λ ks. FedEach l.boards l.words.now c.args.numbers c.args.z) _ c.args.marks.now _ _
    c.from_residual.result c.from_residual.ensures.0
    (passing_lost c.loop-n.invariant c.in-Some.n c.rule6_at.new.cells c.rule6_at.new.marks {d = emptied_cell}
    (line_lost _ _ _ below c.line.ensures c.requires.2 c.in_err-rule6_at.ensures))

pub loop-n-smaller : goal.loop-n-smaller
loop-n-smaller c = let taken = c.in-Some.ensures in passing_less c.loop-n.invariant c.in-Some.n taken.1 taken.3

pub loop-n-preserved : goal.loop-n-preserved
loop-n-preserved c =
    let taken = c.in-Some.ensures in
    let below = c.requires.1 c.in-Some.n (c.loop-n.invariant.among c.in-Some.n taken.1) in
    passing_next c.loop-n.invariant c.in-Some.n _ _ (line_visited _ _ _ below c.line.ensures c.requires.2 c.in_ok-rule6_at.ensures)
    taken.1 taken.3 (λ n. steady_line _ _ _)

pub returns : goal.returns
returns c = let p = c.loop-n.invariant in λ ks fill. (p.going.gone ks fill, passing_end p c.in_default.ensures.0)
