-- How the two text calls end, by their promises, and what follows. Assumes nothing.
use mathlib.Core.Path.{◌≡◌, refl, sym, ap, ap₂, ◌∙◌, subst}
use mathlib.Core.Bool.{Bool, true, false}
use mathlib.Core.Logic.{◌↔◌}
use mathlib.Core.List.{List, ◌++◌}
use Prim.Native.Nat.{ℕ, min, ◌≤◌, ◌<◌}
use native.Mathlib.Omega.{arith}
use borrow.Author.Tests.{leb-true, leb-false}
use lib.Dec.{T, leb}
use lib.ListN.{length, take, drop}
use lib.Seq.{take-append_seam, drop-append_seam}
use Rattle.rules.specs.Descriptions.{Sheet, Reading, good, refused, read, refuses_description}
use Rattle.rules.specs.Calls.{Outcome, refuse, succeed, given}
use Rattle.rules.proofs.Tests.{clash}
use Rattle.rules.proofs.Descriptions.{read_bounded}
use Rattle.typed.specs.Grammar.{SheetTyped, FirstMalformed}
use Rattle.typed.specs.Sheets.{Typed, malformed_at, made, typed}
use Rattle.typed.specs.Writing.{text_of}
use Rattle.typed.specs.Calls.{most_count, in_room, read_typed, from_text, to_text}
use Rattle.meanings.proofs.Sheets.{typed_made, made_typed}
use Rattle.meanings.proofs.Malformed.{malformed_first, first_malformed, one_fault}
use Rattle.sheet_texts.specs.Sheets.{Good}
use Rattle.answers.specs.Answers.{Answer, answered, outcome}
use Rattle.answers.proofs.Outcomes.{says, counts, leaves}
use Rattle.demands.specs.Entries.{ReadingText, WritingText}
use Rattle.demands.specs.Texts.{Succeeds}

-- ---- what is made of words

-- A call that makes xs of the words ws ends in one of three ways: it refuses the words, or the room is too small, or it succeeds with xs.
pub data Ends (ws xs room : List ℕ) (a : Answer) (w : List ℕ) : Type 0 where
  refuses : (n k : ℕ) → read ws ≡ refused n k → outcome a w ≡ refuse n k room → Ends ws xs room a w
  small : Good ws → length room < length xs → outcome a w ≡ refuse 19 0 room → Ends ws xs room a w
  succeeds : Good ws → length xs ≤ length room → outcome a w ≡ succeed (length xs) (xs ++ drop (length xs) room) → Ends ws xs room a w

-- good words are not refused
good_not : {X : Type 0} {ws : List ℕ} {n k : ℕ} → Good ws → read ws ≡ refused n k → X
good_not g e = let d = g.reads in clash (cc)

-- what stands in the room after success
succeeds_there : (xs room : List ℕ) {a : Answer} {w : List ℕ} → outcome a w ≡ succeed (length xs) (xs ++ drop (length xs) room) → Succeeds xs a w
succeeds_there xs room is =
    record {
      number = says is;
      count = counts is;
      front = ap (take (length xs)) (leaves is) ∙ take-append_seam xs (drop (length xs) room);
    }

module _ {ws xs room : List ℕ} {a : Answer} {w : List ℕ} where
  -- how it ended, by its promise
  pub ends : outcome a w ≡ given (read ws) room (λ s. in_room xs room) → Ends ws xs room a w
  unfolding in_room
  ends is = by (read ws) refl is
    where
      fits : (s : Sheet) → read ws ≡ good s → (b : Bool) → leb (length xs) (length room) ≡ b
          → outcome a w ≡ elim b [ true ↦ succeed (length xs) (xs ++ drop (length xs) room) | false ↦ refuse 19 0 room ] → Ends ws xs room a w
      fits s e true l is = succeeds (record { sheet = s; reads = e }) (leb-true (length xs) (length room) l) is
      fits s e false l is = small (record { sheet = s; reads = e }) (leb-false (length xs) (length room) l) is

      by : (r : Reading Sheet) → read ws ≡ r → outcome a w ≡ given r room (λ s. in_room xs room) → Ends ws xs room a w
      by (good s) e is = fits s e (leb (length xs) (length room)) refl is
      by (refused n k) e is = refuses n k e is

  -- what follows from how it ended
  pub ends_refused : Ends ws xs room a w → (n k : ℕ) → T (refuses_description n) → ((a.number ≡ n) × (a.count ≡ k)) ↔ (read ws ≡ refused n k)
  ends_refused (refuses m i e is) n k t = (
    λ (z, y). e ∙ ap₂ refused (sym (says is) ∙ z) (sym (counts is) ∙ y),
    λ d. let same : m ≡ n = cc in let there : i ≡ k = cc in (says is ∙ same, counts is ∙ there),
  )
  ends_refused (small g l is) n k t = (λ (z, y). absurd (subst (λ (m : ℕ). T (refuses_description m)) (sym z ∙ says is) t), λ d. good_not g d)
  ends_refused (succeeds g l is) n k t = (λ (z, y). absurd (subst (λ (m : ℕ). T (refuses_description m)) (sym z ∙ says is) t), λ d. good_not g d)

  -- with this number, at some place
  pub ends_number : Ends ws xs room a w → (n : ℕ) → T (refuses_description n) → (a.number ≡ n) ↔ ((k : ℕ) × (read ws ≡ refused n k))
  ends_number e n t = (λ z. (a.count, (ends_refused e n a.count t).0 (z, refl)), λ (k, d). ((ends_refused e n k t).1 d).0)

  pub ends_small : Ends ws xs room a w → (a.number ≡ 19) ↔ (Good ws × (length room < length xs))
  ends_small (refuses n k e is) = (λ z. clash (omega (arith, says is, z, (read_bounded ws n k e).1)), λ h. good_not h.0 e)
  ends_small (small g l is) = (λ z. (g, l), λ h. says is)
  ends_small (succeeds g l is) = (λ z. clash (omega (arith, says is, z)), λ h. clash (omega (arith, h.1)))

  pub ends_succeeds : Ends ws xs room a w → Good ws → length xs ≤ length room → Succeeds xs a w
  ends_succeeds (refuses n k e is) g l = good_not g e
  ends_succeeds (small h k is) g l = clash (omega arith)
  ends_succeeds (succeeds h k is) g l = succeeds_there xs room is

  pub ends_done : Ends ws xs room a w → a.number ≡ 0 → Good ws × Succeeds xs a w
  ends_done (refuses n k e is) z = clash (omega (arith, says is, z, (read_bounded ws n k e).0))
  ends_done (small g l is) z = clash (omega (arith, says is, z))
  ends_done (succeeds g l is) z = (g, succeeds_there xs room is)

  pub ends_rest : Ends ws xs room a w → a.number ≡ 0 → (a.count ≤ length room) × (drop a.count w ≡ drop a.count room)
  ends_rest (refuses n k e is) z = clash (omega (arith, says is, z, (read_bounded ws n k e).0))
  ends_rest (small g l is) z = clash (omega (arith, says is, z))
  ends_rest (succeeds g l is) z =
      (omega (arith, counts is), rw (counts is, leaves is) (drop-append_seam xs (drop (length xs) room)))

  pub ends_leaves : Ends ws xs room a w → (a.number ≡ 0 → ⊥) → w ≡ room
  ends_leaves (refuses n k e is) f = leaves is
  ends_leaves (small g l is) f = leaves is
  ends_leaves (succeeds g l is) f = absurd (f (says is))

  pub ends_counts : Ends ws xs room a w → a.number ≡ 19 → a.count ≡ 0
  ends_counts (refuses n k e is) z = clash (omega (arith, says is, z, (read_bounded ws n k e).1))
  ends_counts (small g l is) z = counts is
  ends_counts (succeeds g l is) z = clash (omega (arith, says is, z))

  pub ends_few : Ends ws xs room a w → a.number ≤ 19
  ends_few (refuses n k e is) = omega (arith, says is, (read_bounded ws n k e).1)
  ends_few (small g l is) = omega (arith, says is)
  ends_few (succeeds g l is) = omega (arith, says is)

-- what was made is the front of the room, as far as the answer counts
pub front_made : {xs : List ℕ} {a : Answer} {w : List ℕ} → Succeeds xs a w → take a.count w ≡ xs
front_made {w = w} p = ap (λ (n : ℕ). take n w) p.count ∙ p.front

-- ---- the two calls

-- the writer makes the text of the words
pub writer_ends : (ws : List ℕ) {room : List ℕ} {a : Answer} {w : List ℕ} → WritingText ws room a w → Ends ws (text_of ws) room a w
unfolding to_text
writer_ends ws call = ends call

-- The reader refuses the first malformed line, or the text writes words, and it makes those.
pub data Told (text room : List ℕ) (a : Answer) (w : List ℕ) : Type 0 where
  malformed_in : (n : ℕ) → FirstMalformed text n → outcome a w ≡ refuse 20 (min n most_count) room → Told text room a w
  writes : (ws : List ℕ) → SheetTyped text ws → Ends ws ws room a w → Told text room a w

pub reader_told : (text : List ℕ) {room : List ℕ} {a : Answer} {w : List ℕ} → ReadingText text room a w → Told text room a w
unfolding from_text
reader_told text {room} {a} {w} call = by (typed text) refl call
  where
    by : (t : Typed) → typed text ≡ t → outcome a w ≡ read_typed t room → Told text room a w
    by (malformed_at n) e is = malformed_in n (malformed_first text n e) is
    by (made ws) e is = writes ws (made_typed text ws e) (ends is)

-- the reader makes the words that the text makes
pub reader_ends : (text : List ℕ) {ws room : List ℕ} {a : Answer} {w : List ℕ} → typed text ≡ made ws → ReadingText text room a w → Ends ws ws room a w
unfolding from_text
reader_ends text {room = room} e call = ends (call ∙ ap (λ (t : Typed). read_typed t room) e)

-- what follows from how the reader ended
module _ {text room : List ℕ} {a : Answer} {w : List ℕ} where
  pub told_rest : Told text room a w → a.number ≡ 0 → (a.count ≤ length room) × (drop a.count w ≡ drop a.count room)
  told_rest (malformed_in n f is) z = clash (omega (arith, says is, z))
  told_rest (writes ws t e) z = ends_rest e z

  pub told_leaves : Told text room a w → (a.number ≡ 0 → ⊥) → w ≡ room
  told_leaves (malformed_in n f is) g = leaves is
  told_leaves (writes ws t e) g = ends_leaves e g

  pub told_counts : Told text room a w → a.number ≡ 19 → a.count ≡ 0
  told_counts (malformed_in n f is) z = clash (omega (arith, says is, z))
  told_counts (writes ws t e) z = ends_counts e z

  pub told_malformed : Told text room a w → (n : ℕ) → FirstMalformed text n → (a.number ≡ 20) × (a.count ≡ min n most_count)
  told_malformed (malformed_in m g is) n f = (says is, counts is ∙ ap (λ (k : ℕ). min k most_count) (one_fault g f))
  told_malformed (writes ws t e) n f = clash (cc (typed_made t, first_malformed text n f))

  pub told_fault : Told text room a w → a.number ≡ 20 → (n : ℕ) × FirstMalformed text n
  told_fault (malformed_in n f is) z = (n, f)
  told_fault (writes ws t e) z = clash (omega (arith, z, ends_few e))

  pub told_writes : Told text room a w → (a.number ≡ 20 → ⊥) → (ws : List ℕ) × SheetTyped text ws × Ends ws ws room a w
  told_writes (malformed_in n f is) g = absurd (g (says is))
  told_writes (writes ws t e) g = (ws, t, e)

  pub told_unwritten : Told text room a w → ((ws : List ℕ) → SheetTyped text ws → ⊥) → a.number ≡ 20
  told_unwritten (malformed_in n f is) g = says is
  told_unwritten (writes ws t e) g = absurd (g ws t)

  pub told_few : Told text room a w → a.number ≤ 20
  told_few (malformed_in n f is) = omega (arith, says is)
  told_few (writes ws t e) = omega (arith, ends_few e)

-- ---- the numbers that the calls answer

abbrev answer_of : Outcome (List ℕ) → Answer
answer_of o = answered o.number o.count

pub from_text_few : (text room : List ℕ) → (from_text text room).number ≤ 20
from_text_few text room = told_few (reader_told text {room = room} {a = answer_of (from_text text room)} {w = (from_text text room).lent} refl)

pub to_text_few : (ws room : List ℕ) → (to_text ws room).number ≤ 20
to_text_few ws room = omega (arith, ends_few (writer_ends ws {room = room} {a = answer_of (to_text ws room)} {w = (to_text ws room).lent} refl))
