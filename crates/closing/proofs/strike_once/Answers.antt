-- `strike_once` meets its contract: rules 1, 4 and 5, one after the other. Assumes nothing.
use mathlib.Core.Path.{subst}
use Prim.Native.Nat.{ℕ}
use native.Mathlib.Omega.{arith}
use Rattle.passes.specs.Passes.{Ready}
use Rattle.passes.proofs.Passes.{kept_few, ready_kept}
use Rattle.sheet.proofs.Described.{described, described_one}
use Rattle.closing.proofs.Closings.{once_whole, once_under}
use Rattle.closing.proofs.strike_once.Goals as goal

pub slice_bounds-rules4-count : goal.slice_bounds-rules4-count
slice_bounds-rules4-count c = let d = described c.args.words.now c.args.h c.requires.header in d.1.after

pub slice_bounds-rules4-start : goal.slice_bounds-rules4-start
slice_bounds-rules4-start c = let d = described c.args.words.now c.args.h c.requires.header in d.1.after

pub slice_bounds-rules4-end : goal.slice_bounds-rules4-end
slice_bounds-rules4-end c = let d = described c.args.words.now c.args.h c.requires.header in d.1.within

pub rules4-by_lines-requires : goal.rules4-by_lines-requires
rules4-by_lines-requires c =
    let d = described c.args.words.now c.args.h c.requires.header in
    (ready_kept c.requires.ready c.rules1-by_boards.ensures.kept, (d.0.lines, d.1.lines))

pub offset_bounds-words-kinds_at : goal.offset_bounds-words-kinds_at
offset_bounds-words-kinds_at c =
    let d = described c.args.words.now c.args.h c.requires.header in
    record { fits = omega (arith, d.1.within, c.well_formed.1.0.1) }

pub slice_bounds-rules5-count : goal.slice_bounds-rules5-count
slice_bounds-rules5-count c = let d = described c.args.words.now c.args.h c.requires.header in d.1.within

pub slice_bounds-rules5-start : goal.slice_bounds-rules5-start
slice_bounds-rules5-start c = let d = described c.args.words.now c.args.h c.requires.header in d.1.within

pub rules5-by_kinds-requires : goal.rules5-by_kinds-requires
rules5-by_kinds-requires c =
    let d = described c.args.words.now c.args.h c.requires.header in
    (ready_kept (ready_kept c.requires.ready c.rules1-by_boards.ensures.kept) (c.rules4-by_lines.ensures d.0.lines d.1.lines).kept, (d.0.kinds, d.1.kinds))

pub overflow_add-result : goal.overflow_add-result
overflow_add-result c =
    let d = described c.args.words.now c.args.h c.requires.header in
    let few = kept_few (subst (λ (n : ℕ). Ready n c.args.cells.now) d.1.boards c.requires.ready) (once_whole d.0 d.1.boards c.rules1-by_boards.ensures (c.rules4-by_lines.ensures d.0.lines d.1.lines) (c.rules5-by_kinds.ensures d.0.kinds d.1.kinds)).kept in
    record { fits = omega (arith, few) }

pub overflow_add-result-2 : goal.overflow_add-result-2
overflow_add-result-2 c =
    let d = described c.args.words.now c.args.h c.requires.header in
    let few = kept_few (subst (λ (n : ℕ). Ready n c.args.cells.now) d.1.boards c.requires.ready) (once_whole d.0 d.1.boards c.rules1-by_boards.ensures (c.rules4-by_lines.ensures d.0.lines d.1.lines) (c.rules5-by_kinds.ensures d.0.kinds d.1.kinds)).kept in
    record { fits = omega (arith, few) }

pub returns : goal.returns
returns c =
    let d = described c.args.words.now c.args.h c.requires.header in
    λ s e.
    once_under (described_one d.1 e)
    (once_whole d.0 d.1.boards c.rules1-by_boards.ensures (c.rules4-by_lines.ensures d.0.lines d.1.lines) (c.rules5-by_kinds.ensures d.0.kinds d.1.kinds))
