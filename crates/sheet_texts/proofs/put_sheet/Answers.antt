-- `put_sheet` meets its contract: the first line, the relation lines and the kind lines, one after the other. Assumes nothing.
use mathlib.Core.Path.{sym}
use native.Mathlib.Omega.{arith}
use borrow.Author.Rules.{rules}
use Rattle.puts.proofs.Putting.{putting, fits_as, put_as}
use Rattle.sheet_texts.proofs.Parts.{laid_parts, laid_room, laid_put, good_words_laid}
use Rattle.sheet_texts.proofs.put_sheet.Goals as goal

-- ---- the header

pub bounds-words-4 : goal.bounds-words-4
bounds-words-4 c = omega (arith, (good_words_laid c.args.words.now c.requires.0 c.type_inv.words).numbers.six)

pub bounds-words-0 : goal.bounds-words-0
bounds-words-0 c = omega (arith, (good_words_laid c.args.words.now c.requires.0 c.type_inv.words).numbers.six)

pub bounds-words-1 : goal.bounds-words-1
bounds-words-1 c = omega (arith, (good_words_laid c.args.words.now c.requires.0 c.type_inv.words).numbers.six)

pub bounds-words-2 : goal.bounds-words-2
bounds-words-2 c = omega (arith, (good_words_laid c.args.words.now c.requires.0 c.type_inv.words).numbers.six)

pub put_first-requires : goal.put_first-requires
put_first-requires c =
    let ws = c.args.words.now in
    let laid = good_words_laid ws c.requires.0 c.type_inv.words in
    let text = (laid_parts ws laid c.from-v.ensures c.from-relations.ensures c.from-kinds.ensures c.from-first_kind.ensures).text in
    let room = fits_as text (laid_room ws laid c.new-out.result c.new-out.ensures.at_front (rw c.new-out.ensures.unchanged c.requires.1)) in
    grind putting

-- ---- the relation lines

pub slice_bounds-put_lines-count : goal.slice_bounds-put_lines-count
slice_bounds-put_lines-count c = (good_words_laid c.args.words.now c.requires.0 c.type_inv.words).numbers.six

pub slice_bounds-put_lines-start : goal.slice_bounds-put_lines-start
slice_bounds-put_lines-start c = let h = (good_words_laid c.args.words.now c.requires.0 c.type_inv.words).numbers.six in search rules

pub put_lines-requires : goal.put_lines-requires
put_lines-requires c =
    let ws = c.args.words.now in
    let laid = good_words_laid ws c.requires.0 c.type_inv.words in
    let parts = laid_parts ws laid c.from-v.ensures c.from-relations.ensures c.from-kinds.ensures c.from-first_kind.ensures in
    let room = fits_as parts.text (laid_room ws laid c.new-out.result c.new-out.ensures.at_front (rw c.new-out.ensures.unchanged c.requires.1)) in
    (parts.relations, grind putting)

-- ---- the kind lines

pub slice_bounds-put_lines-count-2 : goal.slice_bounds-put_lines-count-2
slice_bounds-put_lines-count-2 c =
    let laid = good_words_laid c.args.words.now c.requires.0 c.type_inv.words in omega (arith, laid.within, c.from-first_kind.ensures)

pub slice_bounds-put_lines-start-2 : goal.slice_bounds-put_lines-start-2
slice_bounds-put_lines-start-2 c =
    let h = (good_words_laid c.args.words.now c.requires.0 c.type_inv.words).within in let e = c.from-first_kind.ensures in search rules

pub put_lines-requires-2 : goal.put_lines-requires-2
put_lines-requires-2 c =
    let ws = c.args.words.now in
    let laid = good_words_laid ws c.requires.0 c.type_inv.words in
    let parts = laid_parts ws laid c.from-v.ensures c.from-relations.ensures c.from-kinds.ensures c.from-first_kind.ensures in
    let room = fits_as parts.text (laid_room ws laid c.new-out.result c.new-out.ensures.at_front (rw c.new-out.ensures.unchanged c.requires.1)) in
    (parts.kinds, grind putting)

pub returns : goal.returns
returns c =
    let ws = c.args.words.now in
    let laid = good_words_laid ws c.requires.0 c.type_inv.words in
    let parts = laid_parts ws laid c.from-v.ensures c.from-relations.ensures c.from-kinds.ensures c.from-first_kind.ensures in
    laid_put ws laid c.new-out.result c.put_lines-2.new.out c.new-out.ensures.unchanged c.new-out.ensures.at_front (put_as (sym parts.text) (grind putting)) (search rules) c.at.ensures
