-- An outcome as C has it: one number, and what is lent as it is afterwards. Assumes nothing.
use Rattle.std.specs.Prelude.{◌≡◌, ℕ, ◌+◌, ◌*◌, ◌/◌, ◌%◌, ◌^◌}
use Rattle.rules.specs.Calls.{Outcome}
use Rattle.answers.specs.Answers.{Answer}

-- what one of the count adds
abbrev pub count_unit : ℕ
count_unit = 2 ^ 32

-- the answer's number in the low 32 bits, its count in the high 32
abbrev pub packed : ℕ → ℕ → ℕ
packed number count = number + count_unit * count

-- number and count, taken out of a packed answer as the header says
abbrev pub unpack : ℕ → Answer
unpack n = record { number = n % count_unit; count = n / count_unit }

pub record Packed {L : Type 0} (n : ℕ) (l : L) (o : Outcome L) : Type 0 where
  pub answer : n ≡ packed o.number o.count
  pub lent : l ≡ o.lent
