-- The line that a typed sheet is refused by is the first that is malformed, and there is one at most. Assumes nothing.
use mathlib.Core.Path.{◌≡◌, ap, subst}
use mathlib.Core.Logic.{◌⊎◌, inl, inr}
use mathlib.Core.List.{List, []}
use Prim.Native.Nat.{ℕ, zero, suc, ◌+◌, ◌-◌, ◌≤◌, ◌<◌}
use native.Mathlib.Nat.{not-suc-le-zero}
use native.Mathlib.Omega.{arith}
use lib.ListN.{length, get_or}
use Rattle.rules.proofs.Tests.{order_cases}
use Rattle.typed.specs.Grammar.{lines_of, LinesTyped, none, relation_next, kind_next, SheetTyped, LineTyped, relation_line, kind_line, LineWritten, line_at, FirstMalformed}
use Rattle.typed.specs.Sheets.{Typed, malformed_at, typed}
use Rattle.meanings.proofs.Outcomes.{line_written, Outcome, writes, fault_at, outcome}

-- a text is refused by its first malformed line
pub malformed_first : (text : List ℕ) (n : ℕ) → typed text ≡ malformed_at n → FirstMalformed text n
malformed_first text n e = go (subst (Outcome text) e (outcome text))
  where
    go : {n : ℕ} → Outcome text (malformed_at n) → FirstMalformed text n
    go (fault_at f) = f

-- one line at most is the first
pub one_fault : {text : List ℕ} {m n : ℕ} → FirstMalformed text m → FirstMalformed text n → m ≡ n
one_fault {m} {n} f g = go (order_cases m n)
  where
    go : (m < n) ⊎ ((n < m) ⊎ (m ≡ n)) → m ≡ n
    go (inl l) = absurd (f.fault (g.before m f.some l))
    go (inr (inl l)) = absurd (g.fault (f.before n g.some l))
    go (inr (inr e)) = e

-- each line of a text that writes a description is well-formed
lines_typed : {ls rs ks : List (List ℕ)} → LinesTyped ls rs ks → (i : ℕ) → i < length ls → LineTyped (get_or ls i [])
lines_typed none i h = absurd (not-suc-le-zero h)
lines_typed (relation_next s r d) zero h = relation_line s r
lines_typed (relation_next s r d) (suc i) h = lines_typed d i (omega arith)
lines_typed (kind_next s k d) zero h = kind_line s k
lines_typed (kind_next s k d) (suc i) h = lines_typed d i (omega arith)

sheet_typed : {text ws : List ℕ} → SheetTyped text ws → (n : ℕ) → 1 ≤ n → n ≤ 1 + (length (lines_of text) - 1) → LineWritten n (line_at text n)
sheet_typed {text} s n h k =
    let l : length (lines_of text) ≡ suc (length s.rest) = ap length s.lines in
    line_written text s.lines s.opens n h (λ j e. lines_typed s.follow j (omega arith))

-- a text with a malformed line is refused by the first
pub first_malformed : (text : List ℕ) (n : ℕ) → FirstMalformed text n → typed text ≡ malformed_at n
first_malformed text n f = go (outcome text)
  where
    go : {t : Typed} → Outcome text t → t ≡ malformed_at n
    go (writes s) = absurd (f.fault (sheet_typed s n f.some f.inside))
    go (fault_at g) = ap malformed_at (one_fault g f)
