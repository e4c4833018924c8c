-- `put_lines` meets its contract: the lines passed are put, and those left make the rest. Assumes nothing.
use native.Mathlib.Omega.{arith}
use borrow.Author.Rules.{rules}
use Rattle.sheet_texts.proofs.Going.{going_start, going_end, next_line, next_room, going_next}
use Rattle.sheet_texts.proofs.put_lines.Goals as goal

pub loop-init : goal.loop-init
loop-init c = going_start _ _ _ _ _ c.requires.0

pub put_line-after-requires : goal.put_line-after-requires
put_line-after-requires c =
    let some = c.loop-test.true in
    (next_line _ _ _ _ _ c.loop.invariant some, next_room _ _ _ _ _ c.loop.invariant some c.requires.1)

pub loop-preserved : goal.loop-preserved
loop-preserved c = going_next _ _ _ _ _ c.loop.invariant c.loop-test.true c.put_line-after.ensures.after c.put_line-after.ensures.put

pub returns : goal.returns
returns c = going_end _ _ _ _ _ c.loop.invariant c.loop-test.false

pub offset_bounds-rest-after : goal.offset_bounds-rest-after
offset_bounds-rest-after c =
    let few = c.loop.invariant.within in
    let inside = (next_line _ _ _ _ _ c.loop.invariant c.loop-test.true).inside in
    let e = c.put_line-after.ensures.after in
    search rules

pub slice_bounds-rest-count : goal.slice_bounds-rest-count
slice_bounds-rest-count c = omega (arith, (next_line _ _ _ _ _ c.loop.invariant c.loop-test.true).inside, c.put_line-after.ensures.after)

pub slice_bounds-rest-start : goal.slice_bounds-rest-start
slice_bounds-rest-start c =
    let inside = (next_line _ _ _ _ _ c.loop.invariant c.loop-test.true).inside in let e = c.put_line-after.ensures.after in search rules
