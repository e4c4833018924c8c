-- `to_text` meets its contract: the words are read, and the text of a good description goes to the room. Assumes nothing.
use mathlib.Core.Path.{ap, ◌∙◌}
use Prim.Native.Nat.{ℕ}
use native.Mathlib.Omega.{arith}
use Rattle.std.specs.Prelude.{Result, Err}
use Rattle.std.proofs.lemmas.Result.{err_from_is_err_and}
use Rattle.answers.specs.declared.refusals.Refused.{Refused}
use Rattle.answers.specs.Answers.{told, outcome}
use Rattle.typed.specs.Writing.{text_of}
use Rattle.typed.specs.Calls.{to_text}
use Rattle.reading.proofs.Handing.{error_passed_on}
use Rattle.writing.proofs.Fronts.{read_good, written, put_there}
use Rattle.writing.proofs.to_text.Goals as goal

pub returns-in_err-read : goal.returns-in_err-read
unfolding to_text
returns-in_err-read c =
    let p = err_from_is_err_and c.from_residual.result c.from_residual.ensures.1 in
    ap (λ (x : Result ℕ Refused). outcome (told x) c.args.room.now) (p.1 ∙ ap Err p.2)
    ∙ error_passed_on c.args.words.now c.read.ensures c.args.room.now _ c.in_err-read.was

pub write_apart-requires : goal.write_apart-requires
write_apart-requires c = read_good c.args.words.now c.read.ensures c.in_ok-read.was

pub returns-then-room-lt-MOST_TEXT : goal.returns-then-room-lt-MOST_TEXT
returns-then-room-lt-MOST_TEXT c = written c.args.words.now c.read.ensures c.in_ok-read.was c.args.room.now c.write_apart.ensures

pub put_sheet-requires : goal.put_sheet-requires
put_sheet-requires c = (read_good c.args.words.now c.read.ensures c.in_ok-read.was, c.if-room-lt-MOST_TEXT.false)

pub returns : goal.returns
returns c =
    let sheet = c.put_sheet.ensures in
    written c.args.words.now c.read.ensures c.in_ok-read.was c.args.room.now
    (put_there (text_of c.args.words.now) c.args.room.now (omega (arith, sheet.few, c.if-room-lt-MOST_TEXT.false)) sheet.length_told sheet.text)
