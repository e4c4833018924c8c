-- `rule7` meets its contract: each of its ends is one of the laws of two kind lines. Assumes nothing.
use mathlib.Core.Path.{sym, ◌∙◌}
use native.Mathlib.Omega.{arith}
use Rattle.rules.specs.Relations.{relations, has, set_to, set_of, complement}
use Rattle.rules.proofs.Tests.{clash, unequal, equal}
use Rattle.kinds.specs.Lines.{line_at}
use Rattle.same_panels.proofs.Matching.{rule7_apart, rule7_struck, rule7_open, rule7_joined}
use Rattle.same_panels.proofs.rule7.Goals as goal
use Rattle.same_panels.proofs.rule7.Goals.{then-line-other-via-else-line-other+then-not-ways_match, then-line-other-via-then-line-other}

pub returns-then-is_empty : goal.returns-then-is_empty
returns-then-is_empty c =
    let one = line_at c.args.words.now c.args.line in
    let two = line_at c.args.words.now c.args.other in
    let (table, marks, line, other, same) = c.requires in
    rule7_apart c.args.v one two table marks line.board other.board c.cell-x.ensures c.bitand.ensures c.is_empty.ensures c.if-is_empty.true

pub returns-then-line-other : goal.returns-then-line-other
unfolding relations has set_to set_of complement
returns-then-line-other c =
    let one = line_at c.args.words.now c.args.line in
    let two = line_at c.args.words.now c.args.other in
    let (table, marks, line, other, same) = c.requires in
    rule7_struck c.args.v one two c.args.cells.now c.args.marks.now _ _ table marks line.board other.board
    (λ alike each. (elim c.then-line-other.branch [ then-line-other-via-then-line-other w ↦ omega (arith, w.if-line-other.true, alike.0) | then-line-other-via-else-line-other+then-not-ways_match w ↦ clash (cc (w.if-not-ways_match.true, w.ways_match.ensures)) ])) _ c.strike.ensures

pub returns-then-ne : goal.returns-then-ne
returns-then-ne c =
    let one = line_at c.args.words.now c.args.line in
    let two = line_at c.args.words.now c.args.other in
    let (table, marks, line, other, same) = c.requires in
    let codes = c.if-line-other.false in
    rule7_open c.args.v one two table marks line.board other.board (codes, same codes) c.ways_match.ensures c.if-not-ways_match.false
    (λ e. unequal _ _ (sym c.ne.ensures ∙ c.if-ne.true) (c.cell-x.ensures ∙ e))

pub returns : goal.returns
returns c =
    let one = line_at c.args.words.now c.args.line in
    let two = line_at c.args.words.now c.args.other in
    let (table, marks, line, other, same) = c.requires in
    let codes = c.if-line-other.false in
    rule7_joined c.args.v one two c.args.cells.now c.args.marks.now _ _ table marks line.board other.board (codes, same codes)
    (record { ways = line.boards; others = other.boards; same = same codes })
    (sym c.cell-x.ensures ∙ equal _ _ (sym c.ne.ensures ∙ c.if-ne.false)) c.match_ways.result c.match_ways.ensures
