-- `rule7_beside` meets its contract: rule 7 is seen to of the line beside each that is not left. The measure is the set of those left, as a number.
-- Assumes nothing.
use Rattle.std.specs.Prelude.{Ok, Err}
use Rattle.rules.specs.Closing.{rules7}
use Rattle.by_board.proofs.Asking.{line_located}
use Rattle.moves.specs.Moves.{Matched}
use Rattle.moves.specs.Visits.{Keeping}
use Rattle.moves.proofs.Passing.{visited_err, passing_lost, passing_next, passing_end, passing_less}
use Rattle.same_panels.specs.Visits.{Beside}
use Rattle.same_panels.proofs.Visiting.{steady_two, two_stand, two_visited}
use Rattle.same_panels.proofs.rule7_beside.Goals as goal

pub line-line-requires : goal.line-line-requires
line-line-requires c = let pre = c.requires in line_located pre.0.listed pre.1

pub line-requires : goal.line-requires
line-requires c = line_located c.requires.0.listed (c.requires.2 c.in-Some.o (c.loop-o.invariant.among c.in-Some.o c.in-Some.ensures.1))

pub rule7-requires : goal.rule7-requires
rule7-requires c =
    let site = c.loop-o.invariant.going.site in
    let below = c.requires.2 c.in-Some.o (c.loop-o.invariant.among c.in-Some.o c.in-Some.ensures.1) in
    let stand = two_stand site.listed c.requires.1 below c.line-line.ensures c.line.ensures in
    (site.table, site.list, stand.0, stand.1, stand.2)

pub returns-in_err-rule7 : goal.returns-in_err-rule7
returns-in_err-rule7 c =
    let below = c.requires.2 c.in-Some.o (c.loop-o.invariant.among c.in-Some.o c.in-Some.ensures.1) in
    let v = c.args.lines.now.boards in
    let words = c.args.lines.now.words.now in
    visited_err (Keeping rules7 v) v c.args.lines.now.count words (λ ks. Beside v words c.args.n c.args.others) _ c.args.marks.now c.rule7.new.cells
    c.rule7.new.marks c.from_residual.result c.from_residual.ensures.0
    (passing_lost c.loop-o.invariant c.in-Some.o c.rule7.new.cells c.rule7.new.marks
    (two_visited c.requires.0.listed c.requires.1 below c.line-line.ensures c.line.ensures (Matched v) c.loop-o.cells c.loop-o.marks c.rule7.new.cells c.rule7.new.marks
    (Err c.in_err-rule7.field-0.0) c.in_err-rule7.ensures))

pub loop-o-smaller : goal.loop-o-smaller
loop-o-smaller c = let taken = c.in-Some.ensures in passing_less c.loop-o.invariant c.in-Some.o taken.1 taken.3

pub loop-o-preserved : goal.loop-o-preserved
loop-o-preserved c =
    let taken = c.in-Some.ensures in
    let below = c.requires.2 c.in-Some.o (c.loop-o.invariant.among c.in-Some.o taken.1) in
    passing_next c.loop-o.invariant c.in-Some.o _ _
    (two_visited c.requires.0.listed c.requires.1 below c.line-line.ensures c.line.ensures (Matched c.args.lines.now.boards) c.loop-o.cells c.loop-o.marks
    c.rule7.new.cells c.rule7.new.marks (Ok c.in_ok-rule7.field-0) c.in_ok-rule7.ensures)
    taken.1 taken.3 (λ o. steady_two _ _ _)

pub returns : goal.returns
returns c = let p = c.loop-o.invariant in λ ks fill. (p.going.gone ks fill, passing_end p c.in_default.ensures.0)
