-- What was made, handed over. Assumes nothing.
use mathlib.Core.Path.{◌≡◌, sym, ap, ◌∙◌}
use mathlib.Core.Bool.{Bool, true, false}
use mathlib.Core.List.{List, ◌++◌}
use Prim.Native.Nat.{ℕ, ◌+◌, ◌≤◌, ◌<◌}
use native.Mathlib.Omega.{arith}
use borrow.Author.Tests.{le-leb, lt-leb}
use lib.ListN.{length, drop}
use lib.Seq.{sets, sets-eq}
use Rattle.rules.specs.Descriptions.{Sheet, Reading, read}
use Rattle.rules.specs.Calls.{Outcome, refuse, succeed, given, reading}
use Rattle.std.specs.Prelude.{Result, Ok, Err}
use Rattle.answers.specs.declared.refusals.Refused.{Refused}
use Rattle.answers.specs.Answers.{Answer, told, outcome}
use Rattle.answers.proofs.Faults.{some_number}
use Rattle.answers.proofs.Told.{told_good, told_refused}
use Rattle.typed.specs.Calls.{in_room}

by_room : List ℕ → List ℕ → Bool → Outcome (List ℕ)
by_room xs room b = elim b [ true ↦ succeed (length xs) (xs ++ drop (length xs) room) | false ↦ refuse 19 0 room ]

module _ (xs room : List ℕ) where
  pub room_fits : length xs ≤ length room → succeed (length xs) (sets room 0 xs) ≡ in_room xs room
  unfolding in_room by_room
  room_fits h =
      let z : 0 + length xs ≡ length xs = omega arith in
      ap (succeed (length xs)) (sets-eq xs room 0 (omega arith) ∙ ap (λ (n : ℕ). xs ++ drop n room) z) ∙ sym (ap (by_room xs room) (le-leb (length xs) (length room) h))

  pub room_small : length room < length xs → refuse 19 0 room ≡ in_room xs room
  unfolding in_room by_room
  room_small h = sym (ap (by_room xs room) (lt-leb (length xs) (length room) h))

-- what follows from what the reader answers of the words: a refusal is passed on, with its place, or they are taken
module _ (ws : List ℕ) {a : Answer} (answers : outcome a tt ≡ reading ws) {L : Type 0} (l : L) where
  pub passed_on : (f : Sheet → Outcome L) → (a.number ≡ 0 → ⊥) → outcome a l ≡ given (read ws) l f
  passed_on f h = sym (ap (λ (r : Reading Sheet). given r l f) (told_refused ws answers h))

  pub words_taken : (o : Outcome L) → a.number ≡ 0 → o ≡ given (read ws) l (λ s. o)
  words_taken o h = let (s, e) = told_good ws answers h in sym (ap (λ (r : Reading Sheet). given r l (λ s. o)) e)

-- the same of the result
module _ (ws : List ℕ) {r : Result ℕ Refused} (answers : outcome (told r) tt ≡ reading ws) {L : Type 0} (l : L) where
  pub error_passed_on : (f : Sheet → Outcome L) {q : Refused} → r ≡ Err q → outcome (told (Err q)) l ≡ given (read ws) l f
  error_passed_on f {q} e =
      sym (ap (λ (r : Result ℕ Refused). outcome (told r) l) e)
      ∙ passed_on ws answers l f (λ z. some_number q.fault (sym (ap (λ (r : Result ℕ Refused). (told r).number) e) ∙ z))

  pub result_taken : (o : Outcome L) {n : ℕ} → r ≡ Ok n → o ≡ given (read ws) l (λ s. o)
  result_taken o e = words_taken ws answers l o (ap (λ (r : Result ℕ Refused). (told r).number) e)
