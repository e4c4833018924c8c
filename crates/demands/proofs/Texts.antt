-- The text calls meet what request 1 asks of them (`Texts`), whatever they may answer and leave by their promises. Assumes nothing.
use mathlib.Core.Path.{◌≡◌, sym, ap, ◌∙◌, subst}
use mathlib.Core.List.{List, []}
use Prim.Native.Nat.{ℕ, ◌≤◌}
use native.Mathlib.Omega.{arith}
use lib.ListN.{length, take}
use Rattle.typed.specs.Grammar.{lines_of}
use Rattle.typed.specs.Sheets.{made, typed}
use Rattle.typed.specs.Writing.{text_of}
use Rattle.typed.specs.Calls.{from_text}
use Rattle.meanings.proofs.Sheets.{typed_made, one_meaning}
use Rattle.returns.proofs.Back.{there_and_back as text-returns, read_written_read}
use Rattle.sheet_texts.specs.Sheets.{Good}
use Rattle.sheet_texts.proofs.Few.{text_few}
use Rattle.answers.specs.Answers.{Answer}
use Rattle.answers.proofs.Outcomes.{outcome_determined, says, counts}
use Rattle.demands.specs.Entries.{ReadingText, WritingText}
use Rattle.demands.specs.Texts.{Succeeds, RoomKept, TextReader, TextWriter, ThereAndBack}
use Rattle.demands.proofs.Rooms.{ends_refused, ends_number, ends_small, ends_succeeds, ends_done, ends_rest, ends_leaves, ends_counts, front_made, writer_ends, reader_told, reader_ends, told_rest, told_leaves, told_counts, told_malformed, told_fault, told_writes, told_unwritten}
use Rattle.demands.proofs.Lines.{typed_none_empty, typed_never_2, typed_many, typed_long, typed_few}

-- ---- either call

-- The reader keeps the room,
pub reader_keeps_room : RoomKept ReadingText
reader_keeps_room =
    record {
      one_outcome = λ text room a d u w p q. outcome_determined a d u w (p ∙ sym q);
      rest_stays = λ text room a w call. told_rest (reader_told text call);
      refusal_leaves_room = λ text room a w call. told_leaves (reader_told text call);
      no_room_counts_nothing = λ text room a w call. told_counts (reader_told text call);
    }

-- and so does the writer.
pub writer_keeps_room : RoomKept WritingText
writer_keeps_room =
    record {
      one_outcome = λ ws room a d u w p q. outcome_determined a d u w (p ∙ sym q);
      rest_stays = λ ws room a w call. ends_rest (writer_ends ws call);
      refusal_leaves_room = λ ws room a w call. ends_leaves (writer_ends ws call);
      no_room_counts_nothing = λ ws room a w call. ends_counts (writer_ends ws call);
    }

-- ---- the reader

-- an empty text is malformed in line 1, by computing
empty_told : (room : List ℕ) (a : Answer) (w : List ℕ) → ReadingText [] room a w → (a.number ≡ 20) × (a.count ≡ 1)
unfolding from_text typed lines_of
empty_told room a w call = (says call, counts call)

-- an answer up to 19 tells of no malformed line
not_20 : {n m : ℕ} → n ≡ m → m ≤ 19 → n ≡ 20 → ⊥
not_20 e l z = omega arith

-- The reader, sentence by sentence.
pub text_reader : TextReader ReadingText
text_reader =
    record {
      malformed_exactly = λ text room a w call. let t = reader_told text call in (told_fault t, λ f. (told_malformed t f.0 f.1).0);
      malformed_line_lem = λ text room a w call n f. (told_malformed (reader_told text call) n f).1;
      empty_line = λ text room a w call m. told_unwritten (reader_told text call) (λ ws t. typed_none_empty t m);
      empty_text = empty_told;
      written_otherwise = λ text room a w call f.
          let (ws, t, e) = told_writes (reader_told text call) f in (ws, t, λ us u. one_meaning u t);
      description_exactly = λ text ws t room a w call. ends_refused (reader_ends text (typed_made t) call);
      never_2 = λ text room a w call z.
          let (ws, t, e) = told_writes (reader_told text call) (not_20 z (omega arith)) in
          let (k, d) = (ends_number e 2 tt).0 z in typed_never_2 t k d;
      too_many_lines = λ text ws t room a w call m.
          (ends_number (reader_ends text (typed_made t) call) 1 tt).1 (typed_many t m);
      too_long_expression = λ text ws t room a w call l k rs us r e g m.
          (ends_number (reader_ends text (typed_made t) call) 3 tt).1 (_, typed_long t l k rs us r e g m);
      no_room_exactly = λ text ws t room a w call. ends_small (reader_ends text (typed_made t) call);
      most_words_enough = λ text room a w call l z.
          let (ws, t, e) = told_writes (reader_told text call) (not_20 z (omega arith)) in
          let (g, h) = (ends_small e).0 z in omega (arith, typed_few t g.sheet g.reads);
      made_otherwise = λ text ws t room a w call. ends_succeeds (reader_ends text (typed_made t) call);
    }

-- ---- the writer

-- The writer, sentence by sentence.
pub text_writer : TextWriter WritingText
text_writer =
    record {
      description_exactly = λ ws room a w call. ends_refused (writer_ends ws call);
      no_room_exactly = λ ws room a w call. ends_small (writer_ends ws call);
      most_text_enough = λ ws room a w call b l z.
          let (g, h) = (ends_small (writer_ends ws call)).0 z in omega (arith, text_few ws g.sheet b g.reads);
      written_otherwise = λ ws room a w call. ends_succeeds (writer_ends ws call);
    }

-- ---- there and back

-- the reader gives the words that the writer wrote, if it makes them of their text
back : (ws : List ℕ) → typed (text_of ws) ≡ made ws → (room : List ℕ) (a : Answer) (w : List ℕ) → WritingText ws room a w → a.number ≡ 0
    → (r : List ℕ) (b : Answer) (u : List ℕ) → ReadingText (take a.count w) r b u → length ws ≤ length r → Succeeds ws b u
back ws e room a w written z r b u call l =
    let (g, p) = ends_done (writer_ends ws written) z in
    ends_succeeds (reader_ends (take a.count w) (ap typed (front_made p) ∙ e) call) g l

-- the words that the reader gave are good, and made again of their text
module _ (text room : List ℕ) (a : Answer) (w : List ℕ) (call : ReadingText text room a w) (z : a.number ≡ 0) where
  abbrev words : List ℕ
  words = take a.count w

  made_again : Good words × (typed (text_of words) ≡ made words) × (length words ≡ a.count)
  made_again =
      let (ws, t, e) = told_writes (reader_told text call) (not_20 z (omega arith)) in
      let (g, p) = ends_done e z in
      subst (λ (us : List ℕ). Good us × (typed (text_of us) ≡ made us) × (length us ≡ a.count)) (sym (front_made p))
      (g, read_written_read text ws (typed_made t), sym p.count)

-- The reader and the writer, there and back.
pub there_and_back : ThereAndBack ReadingText WritingText
there_and_back =
    record {
      written_and_read = λ ws room a w written z b.
          let (g, p) = ends_done (writer_ends ws written) z in back ws (text-returns ws g.sheet b g.reads) room a w written z;
      read_and_written = λ text room a w call z r b u written l.
          let (g, e, n) = made_again text room a w call z in (ends_succeeds (writer_ends (take a.count w) written) g l).number;
      read_again = λ text room a w call z r b u written y q c x again l.
          let (g, e, n) = made_again text room a w call z in back (take a.count w) e r b u written y q c x again (omega arith);
    }
