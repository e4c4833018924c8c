-- What is printed, by the tests that the code makes. Assumes nothing.
use mathlib.Core.Path.{◌≡◌, refl, sym, ap, ◌∙◌, subst}
use mathlib.Core.Bool.{Bool, true, false, ◌&&◌}
use mathlib.Core.List.{List, ◌++◌}
use Prim.Native.Nat.{ℕ, ◌%◌, ◌≤◌}
use borrow.Author.Tests.{eq-eqb, ne_eqb}
use lib.Dec.{eqb, leb, eqb→eq, leb→le, le→leb}
use lib.ListN.{length, get_or}
use Rattle.rules.specs.Descriptions.{Sheet, good, read}
use Rattle.rules.specs.Search.{plain_order}
use Rattle.rules.specs.Calls.{Outcome, well_formed, reading, searching}
use Rattle.rules.specs.Tables.{filled}
use Rattle.rules.proofs.Tests.{true_T, T_true, T_false, and_T, T-and_left, T-and_right}
use Rattle.rules.proofs.Headers.{InRange}
use Rattle.rules.proofs.Descriptions.{read_out}
use Rattle.rules.proofs.Calls.{admitted_refused}
use Rattle.rules.proofs.Called.{search_refused}
use Rattle.std.specs.Prelude.{Result, Ok, Err}
use Rattle.answers.specs.declared.refusals.Refused.{Refused}
use Rattle.answers.specs.Answers as answers_lem
use Rattle.answers.specs.Answers.{number_of, Answer, outcome}
use Rattle.answers.proofs.Faults.{some_number}
use Rattle.answers.proofs.Told.{told_good}
use Rattle.answers.proofs.Told as answers_told
use Rattle.words.specs.Words.{words}
use Rattle.listing.specs.Listings.{most_bytes, budget, input_line, refusal_line, heading, pairs, told, solved, listing}

-- ---- an outcome

module _ (v : ℕ) (o : Outcome (List ℕ)) where
  -- what is told of an outcome, by whether it is a success
  by_number : Bool → List ℕ
  by_number b = elim b [ true ↦ heading v o.count ++ pairs v o.lent | false ↦ refusal_line o.number ]

  pub told_found : o.number ≡ 0 → told v o ≡ heading v o.count ++ pairs v o.lent
  unfolding told by_number
  told_found e = ap by_number (eq-eqb o.number 0 e)

  pub told_refused : (o.number ≡ 0 → ⊥) → told v o ≡ refusal_line o.number
  unfolding told by_number
  told_refused f = ap by_number (ne_eqb o.number 0 f)

-- ---- a search of a full table

module _ (v : ℕ) (ws : List ℕ) {t w : List ℕ} {a : Answer} (full : t ≡ filled v) (done : outcome a w ≡ searching plain_order ws t budget) where
  whole : searching plain_order ws (filled v) budget ≡ outcome a w
  whole = ap (λ (l : List ℕ). searching plain_order ws l budget) (sym full) ∙ sym done

  pub search_told_refused : (a.number ≡ 0 → ⊥) → told v (searching plain_order ws (filled v) budget) ≡ refusal_line a.number
  search_told_refused f = ap (told v) whole ∙ told_refused v (outcome a w) f

  pub search_told_found : a.number ≡ 0 → told v (searching plain_order ws (filled v) budget) ≡ heading v a.count ++ pairs v w
  search_told_found e = ap (told v) whole ∙ told_found v (outcome a w) e

-- the same of its result
module _ (v : ℕ) (ws : List ℕ) {t w : List ℕ} {r : Result ℕ Refused} (full : t ≡ filled v) (done : outcome (answers_lem.told r) w ≡ searching plain_order ws t budget) where
  done_by : {x : Result ℕ Refused} → r ≡ x → outcome (answers_lem.told x) w ≡ searching plain_order ws t budget
  done_by e = subst (λ (x : Result ℕ Refused). outcome (answers_lem.told x) w ≡ searching plain_order ws t budget) e done

  pub search_told_error : {q : Refused} → r ≡ Err q → told v (searching plain_order ws (filled v) budget) ≡ refusal_line (number_of q.fault)
  search_told_error {q} e = search_told_refused v ws {a = answers_lem.told (Err q)} full (done_by e) (some_number q.fault)

  pub search_told_ok : {n : ℕ} → r ≡ Ok n → told v (searching plain_order ws (filled v) budget) ≡ heading v n ++ pairs v w
  search_told_ok {n} e = search_told_found v ws {a = answers_lem.told (Ok n)} full (done_by e) refl

-- ---- a description

module _ (ws : List ℕ) where
  -- the numbers of a good description are in range
  pub read_in_range : (s : Sheet) → read ws ≡ good s → InRange ws
  read_in_range s e = (read_out ws s e).taken.numbers

  -- what is printed is told of a search of a full table
  pub solved_searched : {v : ℕ} → v ≡ get_or ws 0 0 → solved ws ≡ told v (searching plain_order ws (filled v) budget)
  unfolding solved
  solved_searched e = ap (λ (v : ℕ). told v (searching plain_order ws (filled v) budget)) (sym e)

  -- what follows from what reading the words answers
  module _ {a : Answer} (answers : outcome a tt ≡ reading ws) where
    pub good_in_range : a.number ≡ 0 → InRange ws
    good_in_range z = let (s, e) = told_good ws answers z in read_in_range s e

    pub solved_refused : (a.number ≡ 0 → ⊥) → solved ws ≡ refusal_line a.number
    unfolding solved
    solved_refused f =
        let t = filled (get_or ws 0 0) in
        ap (told (get_or ws 0 0)) (search_refused t ws plain_order budget (admitted_refused well_formed ws t a.number a.count (answers_told.told_refused ws answers f)))
        ∙ told_refused (get_or ws 0 0) _ f

  -- and from its result
  module _ {r : Result ℕ Refused} (answers : outcome (answers_lem.told r) tt ≡ reading ws) where
    read_by : {x : Result ℕ Refused} → r ≡ x → outcome (answers_lem.told x) tt ≡ reading ws
    read_by e = subst (λ (x : Result ℕ Refused). outcome (answers_lem.told x) tt ≡ reading ws) e answers

    pub ok_in_range : {n : ℕ} → r ≡ Ok n → InRange ws
    ok_in_range {n} e = good_in_range {a = answers_lem.told (Ok n)} (read_by e) refl

    pub solved_error : {q : Refused} → r ≡ Err q → solved ws ≡ refusal_line (number_of q.fault)
    solved_error {q} e = solved_refused {a = answers_lem.told (Err q)} (read_by e) (some_number q.fault)

-- ---- the bytes

module _ (bs : List ℕ) where
  by_bytes : Bool → List ℕ
  by_bytes b = elim b [ true ↦ solved (words bs) | false ↦ input_line ]

  pub listing_input : (length bs % 2 ≡ 0 → length bs ≤ most_bytes → ⊥) → listing bs ≡ input_line
  unfolding listing by_bytes
  listing_input f =
      ap by_bytes
      (T_false {b = eqb (length bs % 2) 0 && leb (length bs) most_bytes}
      (λ t. f (eqb→eq (length bs % 2) 0 (T-and_left (eqb (length bs % 2) 0) (leb (length bs) most_bytes) t))
      (leb→le (length bs) most_bytes (T-and_right (eqb (length bs % 2) 0) (leb (length bs) most_bytes) t))))

  pub listing_taken : length bs % 2 ≡ 0 → length bs ≤ most_bytes → listing bs ≡ solved (words bs)
  unfolding listing by_bytes
  listing_taken e l =
      ap by_bytes
      (T_true {b = eqb (length bs % 2) 0 && leb (length bs) most_bytes}
      (and_T (eqb (length bs % 2) 0) (leb (length bs) most_bytes) (true_T (eq-eqb (length bs % 2) 0 e)) (le→leb (length bs) most_bytes l)))
