-- Faults and their numbers. Assumes nothing.
use mathlib.Core.Path.{◌≡◌, refl, sym, ap, ap₂, ◌∙◌}
use mathlib.Core.Bool.{Bool, ◌||◌}
use mathlib.Core.List.{List}
use mathlib.Core.Logic.{⊎_elim}
use Prim.Native.Nat.{ℕ, ◌≤◌}
use native.Mathlib.Omega.{arith}
use lib.Dec.{eqb, eqb→eq}
use Rattle.std.specs.Prelude.{Result, Ok, Err}
use Rattle.rules.specs.Descriptions.{refused, read}
use Rattle.rules.proofs.Tests.{T-or, each_at}
use Rattle.rules.proofs.Descriptions.{read_bounded}
use Rattle.answers.specs.declared.refusals.Fault.{Fault}
use Rattle.answers.specs.declared.refusals.Fault.TheVariants.{OutOfRange, Misplaced, Unfit, NoBoard, NoExpression, Disagrees, NoTable, Contradictory, Nowhere, RanOut, NoArrangement, NoRoom, NoSheet}
use Rattle.answers.specs.declared.refusals.Refused.{Refused}
use Rattle.answers.specs.Answers.{number_of, fault_of, Answer, told, outcome}
use Rattle.answers.proofs.Outcomes.{outcome_determined}

-- the fault of a fault's number is that fault
pub fault_again : (f : Fault) → fault_of (number_of f) ≡ f
fault_again OutOfRange = refl
fault_again Misplaced = refl
fault_again Unfit = refl
fault_again NoBoard = refl
fault_again NoExpression = refl
fault_again NoTable = refl
fault_again Contradictory = refl
fault_again Nowhere = refl
fault_again RanOut = refl
fault_again NoArrangement = refl
fault_again Disagrees = refl
fault_again NoRoom = refl
fault_again NoSheet = refl

-- no fault has the number 0
pub some_number : (f : Fault) → number_of f ≡ 0 → ⊥
some_number OutOfRange e = omega (arith, e)
some_number Misplaced e = omega (arith, e)
some_number Unfit e = omega (arith, e)
some_number NoBoard e = omega (arith, e)
some_number NoExpression e = omega (arith, e)
some_number NoTable e = omega (arith, e)
some_number Contradictory e = omega (arith, e)
some_number Nowhere e = omega (arith, e)
some_number RanOut e = omega (arith, e)
some_number NoArrangement e = omega (arith, e)
some_number Disagrees e = omega (arith, e)
some_number NoRoom e = omega (arith, e)
some_number NoSheet e = omega (arith, e)

-- the numbers from 1 to 11 are those of faults
known : ℕ → Bool
known n = eqb n 0 || eqb (number_of (fault_of n)) n

numbered : (n : ℕ) → 1 ≤ n → n ≤ 11 → number_of (fault_of n) ≡ n
unfolding known
numbered n some most =
    ⊎_elim (λ t. let z : ⊥ = omega (arith, eqb→eq n 0 t, some) in absurd z) (λ t. eqb→eq (number_of (fault_of n)) n t)
    (T-or (eqb n 0) (eqb (number_of (fault_of n)) n) (each_at 12 known tt n (omega (arith, most))))

-- a description is refused with the number of a fault
pub read_faulty : (ws : List ℕ) (n k : ℕ) → read ws ≡ refused n k → number_of (fault_of n) ≡ n
read_faulty ws n k e = numbered n (read_bounded ws n k e).0 (read_bounded ws n k e).1

-- what is told tells results apart
number : Answer → ℕ
number a = a.number

count : Answer → ℕ
count a = a.count

pub told_apart : (x y : Result ℕ Refused) → told x ≡ told y → x ≡ y
unfolding number count
told_apart (Ok c) (Ok d) e = ap Ok (ap count e)
told_apart (Ok c) (Err r) e = absurd (some_number r.fault (sym (ap number e)))
told_apart (Err r) (Ok d) e = absurd (some_number r.fault (ap number e))
told_apart (Err r) (Err q) e =
    let f : r.fault ≡ q.fault = sym (fault_again r.fault) ∙ ap (λ (a : Answer). fault_of a.number) e ∙ fault_again q.fault in
    ap₂ (λ (f : Fault) (c : ℕ). Err (record { fault = f; count = c })) f (ap count e)

pub result_determined : {L : Type 0} (x y : Result ℕ Refused) (u w : L) → outcome (told x) u ≡ outcome (told y) w → (x ≡ y) × (u ≡ w)
result_determined x y u w e =
    let d = outcome_determined (told x) (told y) u w e in (told_apart x y d.0, d.1)
