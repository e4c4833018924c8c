-- What the text reader and the text writer answer and leave (02, request 1), for whatever they are lent.
-- Assumes nothing.
use Rattle.std.specs.Prelude.{true, false, List, ◌++◌, ℕ, min, nat_le, length, drop}
use Rattle.rules.specs.Descriptions.{read}
use Rattle.rules.specs.Calls.{Outcome, refuse, succeed, given}
use Rattle.typed.specs.Sheets.{Typed, malformed_at, made, typed}
use Rattle.typed.specs.Writing.{text_of}

-- the largest count of an answer: a line's number that is larger is told as this one
abbrev pub most_count : ℕ
most_count = 4294967295

-- What is made goes to the front of the lent room, and the answer carries its length; 19 where the room is too small. Room past it stays as it came.
unfoldable pub in_room : List ℕ → List ℕ → Outcome (List ℕ)
in_room xs room =
    elim (nat_le (length xs) (length room)) [ true ↦ succeed (length xs) (xs ++ drop (length xs) room) | false ↦ refuse 19 0 room ]

-- reading: 20 for the first malformed line, with its number; then 1 to 5, then 11, on the words made; then 19
abbrev pub read_typed : Typed → List ℕ → Outcome (List ℕ)
read_typed (malformed_at n) room = refuse 20 (min n most_count) room
read_typed (made ws) room = given (read ws) room (λ s. in_room ws room)

unfoldable pub from_text : List ℕ → List ℕ → Outcome (List ℕ)
from_text text room = read_typed (typed text) room

-- writing: 1 to 5, then 11, then 19
unfoldable pub to_text : List ℕ → List ℕ → Outcome (List ℕ)
to_text ws room = given (read ws) room (λ s. in_room (text_of ws) room)
