-- An outcome says what was answered and what was left. Assumes nothing.
use mathlib.Core.Path.{◌≡◌, ap}
use Rattle.rules.specs.Calls.{Outcome}
use Rattle.answers.specs.Answers.{Answer, outcome}

module _ {L : Type 0} where
  pub outcome_determined : (a b : Answer) (u w : L) → outcome a u ≡ outcome b w → (a ≡ b) × (u ≡ w)
  outcome_determined a b u w p = (ap answer p, ap (λ (o : Outcome L). o.lent) p)
    where
      answer : Outcome L → Answer
      answer o = record { number = o.number; count = o.count }

  -- what is read off an outcome
  module _ {a : Answer} {w : L} {o : Outcome L} (is : outcome a w ≡ o) where
    pub says : a.number ≡ o.number
    says = ap (λ (o : Outcome L). o.number) is

    pub counts : a.count ≡ o.count
    counts = ap (λ (o : Outcome L). o.count) is

    pub leaves : w ≡ o.lent
    leaves = ap (λ (o : Outcome L). o.lent) is
