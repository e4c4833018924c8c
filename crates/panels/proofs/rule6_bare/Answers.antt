-- `rule6_bare` meets its contract: the rule is seen to towards the boards that were passed. The measure is the boards left. Assumes nothing.
use mathlib.Core.Path.{◌≡◌, subst}
use native.Mathlib.Omega.{arith}
use Rattle.rules.specs.Descriptions.{KindLine}
use Rattle.rules.specs.Arrangements.{width}
use Rattle.rules.specs.Closing.{rules6}
use Rattle.by_board.specs.Found.{numbered}
use Rattle.by_board.proofs.Asking.{line_located, located_stands, located_line}
use Rattle.moves.specs.Moves.{emptied_cell}
use Rattle.moves.specs.Visits.{Keeping}
use Rattle.moves.proofs.Moving.{moved_none}
use Rattle.moves.proofs.Passing.{visited_err, counting_lost, counting_next}
use Rattle.panels.specs.Visits.{FedBare}
use Rattle.panels.proofs.Visiting.{steady_line, line_visited, line_lost, line_some}
use Rattle.panels.proofs.rule6_bare.Goals as goal

pub line-line-requires : goal.line-line-requires
line-line-requires c = let pre = c.requires in line_located pre.0.listed pre.1

pub returns-then-line : goal.returns-then-line
returns-then-line c =
    let is = c.line-line.ensures in
    let some = line_some (located_stands c.requires.0.listed c.requires.1 is) c.if-line.true in
    λ ks fill. (
      moved_none c.requires.0.table c.requires.0.list,
      λ e. absurd (some (subst (λ (k : KindLine). width k ≡ 0) (located_line c.args.lines.now.words.now c.args.n is) e)),
    )

pub rule6_at-requires : goal.rule6_at-requires
rule6_at-requires c =
    let site = c.loop-z.invariant.going.site in
    (site.table, site.list, located_stands site.listed c.requires.1 c.line-line.ensures, c.loop-z-test.true)

pub returns-in_err-rule6_at : goal.returns-in_err-rule6_at
returns-in_err-rule6_at c =
    let l = c.args.lines.now in
    visited_err (Keeping rules6 l.boards) l.boards l.count l.words.now (λ ks. FedBare l.boards (numbered l.words.now c.args.n)) _ c.args.marks.now _ _
    c.from_residual.result c.from_residual.ensures.0
    (counting_lost c.loop-z.invariant c.rule6_at.new.cells c.rule6_at.new.marks {d = emptied_cell}
    (line_lost _ _ _ c.requires.1 c.line-line.ensures c.loop-z-test.true c.in_err-rule6_at.ensures))

pub loop-z-preserved : goal.loop-z-preserved
loop-z-preserved c =
    counting_next c.loop-z.invariant _ _ (line_visited _ _ _ c.requires.1 c.line-line.ensures c.loop-z-test.true c.in_ok-rule6_at.ensures)
    (λ z. steady_line _ _ _)

pub returns : goal.returns
returns c =
    let p = c.loop-z.invariant in
    λ ks fill. (p.going.gone ks fill, λ e z h. p.done z (omega (arith, c.loop-z-test.false)))
