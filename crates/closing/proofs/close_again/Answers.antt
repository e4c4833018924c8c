-- `close_again` meets its contract: the rounds of the rules whose bounds depend on the table come to the largest closed table, where the others
-- strike nothing. Assumes nothing.
use mathlib.Core.Path.{◌≡◌, subst}
use Rattle.rules.specs.Descriptions.{Sheet}
use Rattle.sheet.proofs.Described.{described, described_one, described_agreed}
use Rattle.closing.specs.Closes.{closes}
use Rattle.closing.proofs.Closings.{closing_again, steady_selves}
use native.Mathlib.Omega.{arith}
use Rattle.closing.proofs.close_again.Goals as goal

pub offset_bounds-words-kinds_at : goal.offset_bounds-words-kinds_at
offset_bounds-words-kinds_at c =
    let d = described c.args.words.now c.args.h c.requires.0.header in
    record { fits = omega (arith, d.1.within, c.well_formed.1.0.1) }

pub slice_bounds-rounds-count : goal.slice_bounds-rounds-count
slice_bounds-rounds-count c =
    let d = described c.args.words.now c.args.h c.requires.0.header in
    d.1.within

pub slice_bounds-rounds-start : goal.slice_bounds-rounds-start
slice_bounds-rounds-start c =
    let d = described c.args.words.now c.args.h c.requires.0.header in
    d.1.within

pub rounds-requires : goal.rounds-requires
rounds-requires c =
    let d = described c.args.words.now c.args.h c.requires.0.header in
    (c.requires.0.ready, described_agreed d.1, d.1.few_kinds, steady_selves d.0 d.1.boards c.requires.0.ready.table (c.requires.1 d.0 d.1.means))

pub returns : goal.returns
returns c =
    λ s e.
    let d = described c.args.words.now c.args.h c.requires.0.header in
    let w = c.rounds.new.cells in
    let r = c.rounds.result in
    let f : d.0 ≡ s = described_one d.1 e in
    subst (λ (s : Sheet). closes s c.args.cells.now w r) f
    (closing_again d.0 d.1.boards c.requires.0.ready.table (c.requires.1 d.0 d.1.means) w r
    (c.rounds.ensures d.0.kinds d.1.kinds))
