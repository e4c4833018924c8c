-- `tell_kinds` meets its contract: the index of the kind lines that stand in the words. Assumes nothing.
use native.Mathlib.Omega.{arith}
use Rattle.sheet.proofs.Described.{described, described_agreed}
use Rattle.closing.proofs.tell_kinds.Goals as goal

pub offset_bounds-words-kinds_at : goal.offset_bounds-words-kinds_at
offset_bounds-words-kinds_at c =
    let d = described c.args.words.now c.args.h c.requires in
    record { fits = omega (arith, d.1.within, c.well_formed.1.0.1) }

pub slice_bounds-new-count : goal.slice_bounds-new-count
slice_bounds-new-count c =
    let d = described c.args.words.now c.args.h c.requires in
    d.1.within

pub slice_bounds-new-start : goal.slice_bounds-new-start
slice_bounds-new-start c =
    let d = described c.args.words.now c.args.h c.requires in
    d.1.within

pub new-requires : goal.new-requires
new-requires c =
    let d = described c.args.words.now c.args.h c.requires in
    (d.1.few_kinds, (c.args.h.boards, d.1.few, (described_agreed d.1).0))

pub returns : goal.returns
returns c = record { header = c.requires; index = c.new.ensures }
