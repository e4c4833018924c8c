-- Typed sheets (02, request 1), sentence by sentence, over any calls: what each may answer and leave is all that is known of it. Assumes nothing.
use Rattle.std.specs.Prelude.{◌≡◌, ◌⊎◌, ◌↔◌, ℕ, min, ◌≤◌, ◌<◌, T, length, slice_index, take, drop}
use mathlib.Core.List.{List, [], ◌∷◌, ◌++◌, Memᴰ}
use Rattle.rules.specs.Descriptions.{most_lines, most_kinds, most_expression_words, most_words, refused, read, refuses_description, describe}
use Rattle.typed.specs.Symbols.{most_number}
use Rattle.typed.specs.Grammar.{lines_of, SheetTyped, FirstMalformed}
use Rattle.typed.specs.Writing.{text_of}
use Rattle.typed.specs.Calls.{most_count}
use Rattle.sheet_texts.specs.Sheets.{Good, most_text}
use Rattle.answers.specs.Answers.{Answer}

-- What a call that is lent a text or words, xs, and a room may answer, a, and leave of the room, w.
abbrev pub RoomCall : Type 1
RoomCall = (xs room : List ℕ) (a : Answer) (w : List ℕ) → Type 0

-- P holds of whatever the call answers and leaves, whatever it is lent;
abbrev pub EachRoom : RoomCall → ((xs room : List ℕ) (a : Answer) (w : List ℕ) → Type 0) → Type 0
EachRoom Calls P = (xs room : List ℕ) (a : Answer) (w : List ℕ) → Calls xs room a w → P xs room a w

-- whatever room it is lent with a text that writes the words ws.
abbrev pub EachSheet : RoomCall → ((text ws : List ℕ) → SheetTyped text ws → (room : List ℕ) (a : Answer) (w : List ℕ) → Type 0) → Type 0
EachSheet Reads P =
    (text ws : List ℕ) (t : SheetTyped text ws) (room : List ℕ) (a : Answer) (w : List ℕ) → Reads text room a w → P text ws t room a w

-- each word has 16 bits
abbrev pub Words16 : List ℕ → Type 0
Words16 ws = (x : ℕ) → Memᴰ x ws → x ≤ most_number

-- succeeded: xs is at the front of the room, and its length is the count
pub record Succeeds (xs : List ℕ) (a : Answer) (w : List ℕ) : Type 0 where
  pub number : a.number ≡ 0
  pub count : a.count ≡ length xs
  pub front : take (length xs) w ≡ xs

-- ==== Either call

-- Each takes whatever it is lent, and any two of its outcomes are equal: that is said of the code (`every_call_for_c`, `talung_from_text_determined`,
-- `talung_to_text_determined`). And of a call, by its promise:
pub record RoomKept (Calls : RoomCall) : Type 0 where
  -- Whatever is lent, any two outcomes are equal.
  pub one_outcome : (xs room : List ℕ) (a d : Answer) (u w : List ℕ) → Calls xs room a u → Calls xs room d w → (a ≡ d) × (u ≡ w)
  -- The answer carries the length written; room past it stays as it came,
  pub rest_stays : EachRoom Calls (λ xs room a w. a.number ≡ 0 → (a.count ≤ length room) × (drop a.count w ≡ drop a.count room))
  -- or on refusal all,
  pub refusal_leaves_room : EachRoom Calls (λ xs room a w. (a.number ≡ 0 → ⊥) → w ≡ room)
  -- with the count 0 where it is too small.
  pub no_room_counts_nothing : EachRoom Calls (λ xs room a w. a.number ≡ 19 → a.count ≡ 0)

-- ==== The reader

-- Of a reader:
pub record TextReader (Reads : RoomCall) : Type 0 where
  -- Refusals: 20 for the first malformed text line, with its number from 1, or the largest count where that is smaller;
  pub malformed_exactly : EachRoom Reads (λ text room a w. (a.number ≡ 20) ↔ ((n : ℕ) × FirstMalformed text n))
  pub malformed_line_lem : EachRoom Reads (λ text room a w. (n : ℕ) → FirstMalformed text n → a.count ≡ min n most_count)
  -- an empty line or text (line 1) is malformed;
  pub empty_line : EachRoom Reads (λ text room a w. Memᴰ [] (lines_of text) → a.number ≡ 20)
  pub empty_text : (room : List ℕ) (a : Answer) (w : List ℕ) → Reads [] room a w → (a.number ≡ 20) × (a.count ≡ 1)
  -- without a malformed line the text writes a description, and no other.
  pub written_otherwise : EachRoom Reads
      (λ text room a w. (a.number ≡ 20 → ⊥) → (ws : List ℕ) × SheetTyped text ws × ((us : List ℕ) → SheetTyped text us → us ≡ ws))
  -- Then 1 to 5, and 11, on the words made, with the place in these, and never 2
  pub description_exactly : EachSheet Reads
      (λ text ws t room a w. (n k : ℕ) → T (refuses_description n) → ((a.number ≡ n) × (a.count ≡ k)) ↔ (read ws ≡ refused n k))
  pub never_2 : EachRoom Reads (λ text room a w. a.number ≡ 2 → ⊥)
  -- (too many lines is 1,
  pub too_many_lines : EachSheet Reads
      (λ text ws t room a w. (most_lines < length t.relations) ⊎ (most_kinds < length t.kinds) → a.number ≡ 1)
  -- too long an expression 3, in a line r where those before it are good);
  pub too_long_expression : EachSheet Reads (λ text ws t room a w. length t.relations ≤ most_lines → length t.kinds ≤ most_kinds
      → (rs us : List (List ℕ)) (r : List ℕ) → t.relations ≡ rs ++ (r ∷ us) → Good (describe t.v rs []) → most_expression_words < slice_index r 2
      → a.number ≡ 3)
  -- last, 19 where the lent room is too small (room for the longest description is always enough);
  pub no_room_exactly : EachSheet Reads (λ text ws t room a w. (a.number ≡ 19) ↔ (Good ws × (length room < length ws)))
  pub most_words_enough : EachRoom Reads (λ text room a w. most_words ≤ length room → a.number ≡ 19 → ⊥)
  -- otherwise it gives the words.
  pub made_otherwise : EachSheet Reads (λ text ws t room a w. Good ws → length ws ≤ length room → Succeeds ws a w)

-- ==== The writer

-- Of a writer:
pub record TextWriter (Writes : RoomCall) : Type 0 where
  -- The writer gives 1 to 5, and 11, first, with the place;
  pub description_exactly : EachRoom Writes
      (λ ws room a w. (n k : ℕ) → T (refuses_description n) → ((a.number ≡ n) × (a.count ≡ k)) ↔ (read ws ≡ refused n k))
  -- last, 19 where the lent room is too small (room for the longest text is always enough);
  pub no_room_exactly : EachRoom Writes (λ ws room a w. (a.number ≡ 19) ↔ (Good ws × (length room < length (text_of ws))))
  pub most_text_enough : EachRoom Writes (λ ws room a w. Words16 ws → most_text ≤ length room → a.number ≡ 19 → ⊥)
  -- otherwise it gives the text.
  pub written_otherwise : EachRoom Writes (λ ws room a w. Good ws → length (text_of ws) ≤ length room → Succeeds (text_of ws) a w)

-- ==== There and back

-- Of a reader and a writer:
pub record ThereAndBack (Reads Writes : RoomCall) : Type 0 where
  -- Writing a good description and reading it back gives the same words, where there is room for them.
  pub written_and_read : EachRoom Writes (λ ws room a w. a.number ≡ 0 → Words16 ws
      → (r : List ℕ) (b : Answer) (u : List ℕ) → Reads (take a.count w) r b u → length ws ≤ length r → Succeeds ws b u)
  -- The words made of a text are written, where there is room for their text,
  pub read_and_written : EachRoom Reads (λ text room a w. a.number ≡ 0
      → (r : List ℕ) (b : Answer) (u : List ℕ) → Writes (take a.count w) r b u → length (text_of (take a.count w)) ≤ length r → b.number ≡ 0)
  -- and reading this gives the same words again.
  pub read_again : EachRoom Reads (λ text room a w. a.number ≡ 0
      → (r : List ℕ) (b : Answer) (u : List ℕ) → Writes (take a.count w) r b u → b.number ≡ 0
      → (q : List ℕ) (c : Answer) (x : List ℕ) → Reads (take b.count u) q c x → a.count ≤ length q → Succeeds (take a.count w) c x)
