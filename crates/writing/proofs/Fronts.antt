-- A text that was put at the front of a room. Assumes nothing.
use mathlib.Core.Path.{◌≡◌, sym, ap, ◌∙◌}
use mathlib.Core.List.{List, ◌++◌}
use Prim.Native.Nat.{ℕ, ◌+◌, ◌≤◌}
use native.Mathlib.Omega.{arith}
use lib.ListN.{length, take, drop, replicate}
use lib.Seq.{sets-eq, take_at}
use Rattle.rules.specs.Calls.{Outcome, reading, succeed}
use Rattle.std.specs.Prelude.{Result, Ok}
use Rattle.answers.specs.declared.refusals.Refused.{Refused}
use Rattle.answers.specs.Answers.{Answer, told, outcome}
use Rattle.answers.proofs.Told.{told_good}
use Rattle.typed.specs.Writing.{text_of}
use Rattle.puts.specs.Texts.{placed}
use Rattle.typed.specs.Calls.{in_room, to_text}
use Rattle.reading.proofs.Handing.{room_fits, result_taken}
use Rattle.sheet_texts.specs.Sheets.{Good, most_text, PutsSheet}

-- words that are not refused are those of a good description
pub reads_good : (ws : List ℕ) {a : Answer} → outcome a tt ≡ reading ws → a.number ≡ 0 → Good ws
reads_good ws answers h = let (s, e) = told_good ws answers h in record { sheet = s; reads = e }

-- so are those of which the result is a count, and there the text decides
module _ (ws : List ℕ) {r : Result ℕ Refused} (answers : outcome (told r) tt ≡ reading ws) {k : ℕ} (ok : r ≡ Ok k) where
  pub read_good : Good ws
  read_good = reads_good ws answers (ap (λ (r : Result ℕ Refused). (told r).number) ok)

  pub written : (room : List ℕ) {o : Outcome (List ℕ)} → o ≡ in_room (text_of ws) room → o ≡ to_text ws room
  unfolding to_text
  written room p = p ∙ result_taken ws answers room (in_room (text_of ws) room) ok

-- the room that a text is made in has space for the longest
pub room_enough : {t : List ℕ} → t ≡ replicate most_text 0 → most_text ≤ length t
room_enough e = omega (arith, ap length e)

-- what stands at the front of a room after a text was put there is the text
pub front_text_lem : {ws t u : List ℕ} {n : ℕ} → PutsSheet ws t u n → most_text ≤ length t → take n u ≡ text_of ws
unfolding placed
front_text_lem {ws} {t} {u} {n} p enough =
    ap (take n) (p.text ∙ sets-eq (text_of ws) t 0 (omega (arith, p.few)))
    ∙ take_at (text_of ws) (drop (0 + length (text_of ws)) t) n (sym p.length_told)

-- a text that is put at the front of a room, or copied there, is what is made in the room
module _ (xs room : List ℕ) (fits : length xs ≤ length room) {n : ℕ} (e : n ≡ length xs) where
  pub put_there : {u : List ℕ} → u ≡ placed room 0 xs → succeed n u ≡ in_room xs room
  unfolding placed
  put_there d = rw (e, d) (room_fits xs room fits)

  pub copied_there : {us : List ℕ} → us ≡ xs → succeed n (us ++ drop n room) ≡ in_room xs room
  copied_there d =
      let zero : 0 + length xs ≡ length xs = omega arith in
      rw (e, d) (ap (succeed (length xs)) (sym (sets-eq xs room 0 (omega (arith, fits)) ∙ rw zero)) ∙ room_fits xs room fits)
