-- `close_listed` meets its contract: what the list leaves is the largest closed table. Assumes nothing.
use mathlib.Core.Path.{◌≡◌, sym, subst}
use mathlib.Core.List.{List}
use Prim.Native.Nat.{ℕ}
use native.Mathlib.Omega.{arith}
use Rattle.rules.specs.Descriptions.{Sheet}
use Rattle.rules.specs.Tables.{Table}
use Rattle.moves.specs.Moves.{Marks, Mutual, Owed}
use Rattle.sheet.proofs.Described.{described, described_one, described_agreed, described_kinds}
use Rattle.closing.specs.Closes.{closes_listed}
use Rattle.closing.proofs.Closings.{closing_listed}
use Rattle.closing.proofs.close_listed.Goals as goal

pub offset_bounds-words-kinds_at : goal.offset_bounds-words-kinds_at
offset_bounds-words-kinds_at c =
    let d = described c.args.words.now c.args.h c.requires.0.header in
    record { fits = omega (arith, d.1.within, c.well_formed.1.0.1) }

pub slice_bounds-lines-count : goal.slice_bounds-lines-count
slice_bounds-lines-count c =
    let d = described c.args.words.now c.args.h c.requires.0.header in
    d.1.within

pub slice_bounds-lines-start : goal.slice_bounds-lines-start
slice_bounds-lines-start c =
    let d = described c.args.words.now c.args.h c.requires.0.header in
    d.1.within

pub drain-requires : goal.drain-requires
drain-requires c =
    let d = described c.args.words.now c.args.h c.requires.0.header in
    let l = c.requires.1 d.0 d.1.means in (
      record {
        table = subst (λ (n : ℕ). Mutual n c.args.cells.now) (sym d.1.boards) l.fit;
        list = subst (λ (n : ℕ). Marks n c.args.marks.now) (sym d.1.boards) l.list;
        listed = record { lines = described_agreed d.1; few = d.1.few_kinds; told = c.requires.0.index };
      },
      λ ks e.
          subst (λ (js : List _). Owed c.args.h.boards js c.args.marks.now c.args.cells.now) (described_kinds d.1 e)
          (subst (λ (n : ℕ). Owed n d.0.kinds c.args.marks.now c.args.cells.now) (sym d.1.boards) l.owed),
    )

pub returns : goal.returns
returns c =
    λ s e.
    let d = described c.args.words.now c.args.h c.requires.0.header in
    let l = c.requires.1 d.0 d.1.means in
    let drain = c.drain in
    let f : d.0 ≡ s = described_one d.1 e in
    subst (λ (s : Sheet). closes_listed s c.args.cells.now drain.new.cells drain.new.marks drain.result) f
    (closing_listed d.0 d.1.boards (subst (λ (n : ℕ). Table n c.args.cells.now) (sym d.1.boards) l.fit.ready.table) l.steady drain.new.cells drain.new.marks drain.result
    (drain.ensures d.0.kinds d.1.kinds))
