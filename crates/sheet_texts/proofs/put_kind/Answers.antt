-- `put_kind` meets its contract: the panel with its code, the ways and the end, one after the other. Assumes nothing.
use mathlib.Core.Path.{sym}
use Rattle.puts.proofs.Putting.{putting, fits_as, put_as}
use Rattle.sheet_texts.proofs.Bytes.{kind_front}
use Rattle.sheet_texts.proofs.put_kind.Goals as goal

pub put_panel-requires : goal.put_panel-requires
put_panel-requires c =
    let room = fits_as (kind_front c.args.words.now c.from.ensures c.from-2.ensures c.from-end.ensures) c.requires.1 in grind putting

pub put_ways-requires : goal.put_ways-requires
put_ways-requires c =
    let room = fits_as (kind_front c.args.words.now c.from.ensures c.from-2.ensures c.from-end.ensures) c.requires.1 in grind putting

pub put_text-requires : goal.put_text-requires
put_text-requires c =
    let room = fits_as (kind_front c.args.words.now c.from.ensures c.from-2.ensures c.from-end.ensures) c.requires.1 in grind putting

pub returns-clause-put : goal.returns-clause-put
returns-clause-put c = put_as (sym (kind_front c.args.words.now c.from.ensures c.from-2.ensures c.from-end.ensures)) (grind putting)
