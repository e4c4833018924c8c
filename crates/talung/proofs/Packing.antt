-- A call of the solver, with its answer packed, has the outcome packed; and how number and count are taken out again. Assumes nothing.
use mathlib.Core.Path.{◌≡◌, sym, ap, ◌∙◌}
use Prim.Native.Nat.{ℕ, ◌/◌, ◌%◌, ◌≤◌}
use native.Mathlib.Omega.{arith}
use Rattle.rules.specs.Calls.{Outcome}
use Rattle.answers.specs.Answers.{Answer, outcome}
use Rattle.talung.specs.Packed.{count_unit, packed, unpack, Packed}

-- the largest number that a call answers (`Numbers`, and of texts `Rooms` of the demands)
abbrev pub most_number : ℕ
most_number = 20

module _ {L : Type 0} where
  pub packs : (o : Outcome L) (a : Answer) (w : L) (n : ℕ) → n ≡ packed a.number a.count → outcome a w ≡ o → Packed n w o
  packs o a w n e is =
      record {
        answer = e ∙ ap (λ (o : Outcome L). packed o.number o.count) is;
        lent = ap (λ (o : Outcome L). o.lent) is;
      }

  -- any two packed answers, and what they leave, of one outcome are equal
  pub packed_determined : {o : Outcome L} {m n : ℕ} {u w : L} → Packed m u o → Packed n w o → (m ≡ n) × (u ≡ w)
  packed_determined p q = (p.answer ∙ sym q.answer, p.lent ∙ sym q.lent)

-- number and count are read off the packed number
pub unpacked : (n number count : ℕ) → number ≤ most_number → n ≡ packed number count → (n % count_unit ≡ number) × (n / count_unit ≡ count)
unpacked n number count h e = (omega arith, omega arith)

-- so the call's outcome is read off the number and what is lent
pub unpacks : {L : Type 0} {o : Outcome L} {n : ℕ} {w : L} → o.number ≤ most_number → Packed n w o → outcome (unpack n) w ≡ o
unpacks {o = o} {n = n} few p =
    let u = unpacked n o.number o.count few p.answer in λ i. record { number = u.0 i; count = u.1 i; lent = p.lent i }
