-- What was read, by what the reader answers of it. Assumes nothing.
use mathlib.Core.Path.{◌≡◌, refl, sym, ap, ap₂, ◌∙◌}
use mathlib.Core.List.{List}
use Prim.Native.Nat.{ℕ}
use native.Mathlib.Omega.{arith}
use Rattle.rules.specs.Descriptions.{Sheet, Reading, good, refused, read}
use Rattle.rules.specs.Calls.{Outcome, succeed, given, reading}
use Rattle.rules.proofs.Descriptions.{read_bounded}
use Rattle.answers.specs.Answers.{Answer, outcome}
use Rattle.answers.proofs.Outcomes.{says, counts}

module _ (ws : List ℕ) {a : Answer} (answers : outcome a tt ≡ reading ws) where
  by_reading : Reading Sheet → Outcome (Unit {0})
  by_reading r = given r tt (λ s. succeed 0 tt)

  answered_by : (r : Reading Sheet) → read ws ≡ r → outcome a tt ≡ by_reading r
  unfolding reading by_reading
  answered_by r e = answers ∙ ap by_reading e

  -- a sheet, where the answer is 0
  pub told_good : a.number ≡ 0 → (s : Sheet) × (read ws ≡ good s)
  unfolding by_reading
  told_good z = go (read ws) refl
    where
      go : (r : Reading Sheet) → read ws ≡ r → (s : Sheet) × (read ws ≡ good s)
      go (good s) e = (s, e)
      go (refused n k) e = absurd (omega (arith, z, says (answered_by (refused n k) e), (read_bounded ws n k e).0))

  -- else the refusal, with its place for a count
  pub told_refused : (a.number ≡ 0 → ⊥) → read ws ≡ refused a.number a.count
  unfolding by_reading
  told_refused f = go (read ws) refl
    where
      go : (r : Reading Sheet) → read ws ≡ r → read ws ≡ refused a.number a.count
      go (good s) e = absurd (f (says (answered_by (good s) e)))
      go (refused n k) e = e ∙ sym (ap₂ refused (says (answered_by (refused n k) e)) (counts (answered_by (refused n k) e)))
