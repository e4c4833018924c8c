-- The calls and the definitions that they cite meet what request 3 asks of them (`Places`). Assumes nothing.
use mathlib.Core.Path.{◌≡◌, refl, ap, ◌∙◌}
use mathlib.Core.List.{List, [], ◌∷◌, ◌++◌, flatten}
use Prim.Native.Nat.{ℕ, ◌+◌, ◌≤◌, ◌<◌}
use native.Mathlib.Omega.{arith}
use lib.ListN.{length, get_or, length-append}
use lib.Seq.{take-append_seam}
use Rattle.rules.specs.Relations.{same}
use Rattle.rules.specs.Expressions.{codes, code, follow, evaluate, expression}
use Rattle.rules.specs.Descriptions.{most_expression_words, Sheet, Reading, refused, next, meaning, relation_line, boards_before, kind_line, section, after_numbers, after_offsets, relation_lines, kind_lines, meant, disagrees, first_disagreeing, kind_words, agreed, agreed_sheet, read, describe}
use Rattle.rules.specs.Cases.{is}
use Rattle.rules.proofs.Beginnings.{meaning_place}
use Rattle.rules.proofs.Headers.{no_header}
use Rattle.rules.proofs.Lines.{LengthFits, relation_short, relation_past, relation_read, kind_short, kind_past}
use Rattle.rules.proofs.Descriptions.{read_numbered}
use Rattle.rules.proofs.PlacedLines.{placing_relation, placing_kind}
use Rattle.rules.proofs.PlacedSections.{placing_relations, section_moved}
use Rattle.rules.proofs.PlacedKinds.{placing_agreed}
use Rattle.rules.proofs.PlacedHeaders.{placing_header}
use Rattle.rules.proofs.Places.{placing_read}
use Rattle.meanings.proofs.Sheets.{typed_made}
use Rattle.answers.specs.Answers.{Answer}
use Rattle.answers.proofs.Outcomes.{says, counts}
use Rattle.demands.specs.Entries.{Reads, AnyCall, ReadingText, WritingText}
use Rattle.demands.specs.Runs.{TableCall}
use Rattle.demands.specs.Texts.{RoomCall}
use Rattle.demands.specs.Places.{Carries, SaysWhere, Places}
use Rattle.demands.proofs.Refusing.{reading_refused, any_gives, gives_description}
use Rattle.demands.proofs.Rooms.{Ends, ends_refused, writer_ends, reader_ends}
use Rattle.demands.proofs.Lines.{typed_many_relations, typed_many_kinds}
use Rattle.demands.proofs.Arities.{eleven_at}

-- ---- the calls

-- a text call carries what the words are refused with
ends_carry : {ws xs room : List ℕ} {a : Answer} {w : List ℕ} → Ends ws xs room a w → Carries ws a
ends_carry {ws = ws} e n k d = (ends_refused e n k (read_numbered ws n k d)).1 d

-- Request 3, of the reader, the calls that open, close, search and check, and the two text calls.
pub says_where : SaysWhere Reads AnyCall ReadingText WritingText
says_where =
    record {
      reader_carries = λ ws a call n k e. (says (call ∙ reading_refused ws n k e), counts (call ∙ reading_refused ws n k e));
      calls_carry = λ ws t a w call n k e. let r = gives_description ws t a w (any_gives ws t a w call).1 n k e in (r.number, r.count);
      text_reader_carries = λ text ws t room a w call. ends_carry (reader_ends text (typed_made t) call);
      text_writer_carries = λ ws room a w call. ends_carry (writer_ends ws call);
      many_relations = λ text ws t room a w call some most h.
          ends_carry (reader_ends text (typed_made t) call) 1 1 (typed_many_relations t some most h);
      many_kinds = λ text ws t room a w call some most few h.
          ends_carry (reader_ends text (typed_made t) call) 1 2 (typed_many_kinds t some most few h);
    }

-- ---- the places

-- a header that is too short
header_short : (ws : List ℕ) → length ws < 6 → read ws ≡ refused 1 (length ws)
unfolding read meant
header_short ws h = ap (λ (r : Reading Sheet). next r (agreed_sheet (get_or ws 4 0))) (no_header ws _ h)

-- a line passes on what its expression is refused with
passed_on : (v p q : ℕ) → p < v → q < v → (es rest : List ℕ) → 1 ≤ length es → length es ≤ most_expression_words → (n k : ℕ)
    → meaning (length es) (expression es) ≡ refused n k → relation_line v (p ∷ q ∷ length es ∷ (es ++ rest)) ≡ refused n (3 + k)
passed_on v p q a b es rest low high n k e =
    let line = p ∷ q ∷ length es ∷ (es ++ rest) in
    let fits : LengthFits line = record { three = omega arith; low = low; high = high; room = omega (arith, length-append es rest) } in
    relation_read v line (record { fits = fits; p_board = a; q_board = b }) ∙ rw (take-append_seam es rest, e)

-- Request 3, of what the calls promise to carry.
pub places : Places
places =
    record {
      relation_line_lem = placing_relation;
      kind_line_lem = placing_kind;
      relation_section = placing_relations;
      kind_section = placing_agreed;
      header = placing_header;
      description = placing_read;
      header_short = header_short;
      relation_short = relation_short;
      kind_short = kind_short;
      relation_past = relation_past;
      kind_past = kind_past;
      expression_place = meaning_place;
      passed_on = passed_on;
      moves = section_moved;
      eleven = eleven_at;
    }

-- ---- calls that only look like calls, refuted from these sentences

-- a second line that names a board too many, at word 11; and an expression of one operator and one operand, which ends at word 11
abbrev strange_board : List ℕ
strange_board = describe 2 (is 0 same 1 ∷ is 0 same 2 ∷ []) []

abbrev missing_operand : List ℕ
missing_operand = describe 1 ((0 ∷ 0 ∷ 2 ∷ 4 ∷ 0 ∷ []) ∷ []) []

record Computed : Type 0 where
  strange_board_lem : read strange_board ≡ refused 4 11
  missing_operand_lem : read missing_operand ≡ refused 5 11

computed : Computed
unfolding codes code follow evaluate expression relation_line boards_before kind_line section after_numbers after_offsets relation_lines kind_lines meant disagrees first_disagreeing kind_words agreed read
    flatten
computed = record { strange_board_lem = refl; missing_operand_lem = refl }

module _ {Reads : List ℕ → Answer → Type 0} {Calls : TableCall} {ReadsText WritesText : RoomCall} (request : SaysWhere Reads Calls ReadsText WritesText) where
  told_board : (a : Answer) → Reads strange_board a → a.count ≡ 11
  told_board a call = (request.reader_carries strange_board a call 4 11 computed.strange_board_lem).1

  -- a reader that tells the place of the line instead of the word
  pub place_of_line_excluded : (a : Answer) → a.count ≡ 10 → Reads strange_board a → ⊥
  place_of_line_excluded a z call = omega (arith, z, told_board a call)

  -- one that tells a word too far
  pub one_too_far_excluded : (a : Answer) → a.count ≡ 12 → Reads strange_board a → ⊥
  one_too_far_excluded a z call = omega (arith, z, told_board a call)

  -- one that counts within the section
  pub within_section_excluded : (a : Answer) → a.count ≡ 5 → Reads strange_board a → ⊥
  within_section_excluded a z call = omega (arith, z, told_board a call)

  -- one that tells missing words at their operator
  pub at_operator_excluded : (a : Answer) → a.count ≡ 9 → Reads missing_operand a → ⊥
  at_operator_excluded a z call = omega (arith, z, (request.reader_carries missing_operand a call 5 11 computed.missing_operand_lem).1)
