-- `write_apart` meets its contract: the text is made apart, and copied where the room is large enough. Assumes nothing.
use mathlib.Core.Path.{◌∙◌}
use native.Mathlib.Omega.{arith}
use Rattle.typed.specs.Writing.{text_of}
use Rattle.reading.proofs.Handing.{room_small}
use Rattle.writing.proofs.Fronts.{room_enough, front_text_lem, copied_there}
use Rattle.writing.proofs.write_apart.Goals as goal

pub returns-then-room-used : goal.returns-then-room-used
returns-then-room-used c =
    room_small (text_of c.args.words.now) c.args.room.now (omega (arith, c.put_sheet-used.ensures.length_told, c.if-room-used.true))

pub returns : goal.returns
returns c =
    let sheet = c.put_sheet-used.ensures in
    let text = c.copy_from_slice.ensures.after ∙ front_text_lem sheet (room_enough c.text_room-text.ensures) in
    copied_there (text_of c.args.words.now) c.args.room.now (omega (arith, sheet.length_told, c.if-room-used.false)) sheet.length_told text
