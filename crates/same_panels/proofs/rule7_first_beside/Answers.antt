-- `rule7_first_beside` meets its contract: rule 7 is seen to of the line beside each line passed. The measure is the lines left. Assumes nothing.
use native.Mathlib.Omega.{arith}
use Rattle.std.specs.Prelude.{Ok, Err}
use Rattle.rules.specs.Closing.{rules7}
use Rattle.by_board.proofs.Asking.{line_located}
use Rattle.moves.specs.Visits.{Keeping}
use Rattle.moves.proofs.Passing.{visited_err, counting_lost, counting_next}
use Rattle.same_panels.specs.Visits.{Unlisted, FirstBeside}
use Rattle.same_panels.proofs.Visiting.{steady_unlisted, two_stand, two_visited}
use Rattle.same_panels.proofs.rule7_first_beside.Goals as goal

pub line-line-requires : goal.line-line-requires
line-line-requires c = let pre = c.requires in line_located pre.0.listed pre.1

pub line-requires : goal.line-requires
line-requires c = line_located c.requires.0.listed c.loop-o-test.true

pub rule7_unlisted-requires : goal.rule7_unlisted-requires
rule7_unlisted-requires c =
    let site = c.loop-o.invariant.going.site in
    let stand = two_stand site.listed c.requires.1 c.loop-o-test.true c.line-line.ensures c.line.ensures in
    (site.table, site.list, stand.0, stand.1, stand.2)

pub returns-in_err-rule7_unlisted : goal.returns-in_err-rule7_unlisted
returns-in_err-rule7_unlisted c =
    let v = c.args.lines.now.boards in
    let count = c.args.lines.now.count in
    let words = c.args.lines.now.words.now in
    visited_err (Keeping rules7 v) v count words (λ ks. FirstBeside v count words c.args.n) _ c.args.marks.now c.rule7_unlisted.new.cells
    c.rule7_unlisted.new.marks c.from_residual.result c.from_residual.ensures.0
    (counting_lost c.loop-o.invariant c.rule7_unlisted.new.cells c.rule7_unlisted.new.marks
    (two_visited c.requires.0.listed c.requires.1 c.loop-o-test.true c.line-line.ensures c.line.ensures (Unlisted v) c.loop-o.cells c.loop-o.marks
    c.rule7_unlisted.new.cells c.rule7_unlisted.new.marks (Err c.in_err-rule7_unlisted.field-0.0) c.in_err-rule7_unlisted.ensures))

pub loop-o-preserved : goal.loop-o-preserved
loop-o-preserved c =
    counting_next c.loop-o.invariant c.rule7_unlisted.new.cells c.rule7_unlisted.new.marks
    (two_visited c.requires.0.listed c.requires.1 c.loop-o-test.true c.line-line.ensures c.line.ensures (Unlisted c.args.lines.now.boards) c.loop-o.cells
    c.loop-o.marks c.rule7_unlisted.new.cells c.rule7_unlisted.new.marks (Ok c.in_ok-rule7_unlisted.field-0) c.in_ok-rule7_unlisted.ensures)
    (λ o. steady_unlisted _ _ _)

pub returns : goal.returns
returns c =
    let p = c.loop-o.invariant in
    λ ks fill. (p.going.gone ks fill, λ o h. p.done o (omega (arith, c.loop-o-test.false)))
