-- `hand_over` meets its contract: the words are read, and go to the room where that is large enough. Assumes nothing.
use mathlib.Core.Path.{ap, ◌∙◌}
use lib.ListN.{length}
use Rattle.std.specs.Prelude.{ℕ, Result, Err}
use Rattle.std.proofs.lemmas.Result.{err_from_is_err_and}
use Rattle.answers.specs.declared.refusals.Refused.{Refused}
use Rattle.answers.specs.Answers.{told, outcome}
use Rattle.rules.specs.Calls.{succeed}
use Rattle.typed.specs.Calls.{in_room}
use Rattle.reading.proofs.Handing.{room_fits, room_small, error_passed_on, result_taken}
use Rattle.reading.proofs.hand_over.Goals as goal

pub returns-in_err-read : goal.returns-in_err-read
returns-in_err-read c =
    let p = err_from_is_err_and c.from_residual.result c.from_residual.ensures.1 in
    ap (λ (x : Result ℕ Refused). outcome (told x) c.args.room.now) (p.1 ∙ ap Err p.2) ∙ error_passed_on c.args.words.now c.read.ensures c.args.room.now _ c.in_err-read.was

pub returns-then-room-words : goal.returns-then-room-words
returns-then-room-words c =
    let words = c.args.words.now in
    let room = c.args.room.now in
    room_small words room c.if-room-words.true ∙ result_taken words c.read.ensures room (in_room words room) c.in_ok-read.was

pub returns : goal.returns
returns c =
    let words = c.args.words.now in
    let room = c.args.room.now in
    ap (succeed (length words)) c.put_words.ensures ∙ room_fits words room c.if-room-words.false
    ∙ result_taken words c.read.ensures room (in_room words room) c.in_ok-read.was
