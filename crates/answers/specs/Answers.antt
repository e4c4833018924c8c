-- An answer of the code, as the definitions of the calls number and count it. Assumes nothing.
use Rattle.std.specs.Prelude.{ℕ, ◌+◌, true, false, nat_eq, Result, Ok, Err}
use Rattle.rules.specs.Calls.{Outcome}
use Rattle.answers.specs.declared.refusals.Fault.{Fault}
use Rattle.answers.specs.declared.refusals.Fault.TheVariants.{OutOfRange, Misplaced, Unfit, NoBoard, NoExpression, Disagrees, NoTable, Contradictory, Nowhere, RanOut, NoArrangement, NoRoom, NoSheet}
use Rattle.answers.specs.declared.refusals.Refusal.{Refusal}
use Rattle.answers.specs.declared.refusals.Refused.{Refused}

-- the number of a fault
abbrev pub number_of : Fault → ℕ
number_of OutOfRange = 1
number_of Misplaced = 2
number_of Unfit = 3
number_of NoBoard = 4
number_of NoExpression = 5
number_of NoTable = 6
number_of Contradictory = 7
number_of Nowhere = 8
number_of RanOut = 9
number_of NoArrangement = 10
number_of Disagrees = 11
number_of NoRoom = 19
number_of NoSheet = 20

-- the fault of a number: for one that no fault has, that of 20
abbrev otherwise : ℕ → ℕ → Fault → Fault → Fault
otherwise n m f g = elim (nat_eq n m) [ true ↦ f | false ↦ g ]

abbrev pub fault_of : ℕ → Fault
fault_of n =
    otherwise n 1 OutOfRange
    (otherwise n 2 Misplaced
    (otherwise n 3 Unfit
    (otherwise n 4 NoBoard
    (otherwise n 5 NoExpression
    (otherwise n 6 NoTable
    (otherwise n 7 Contradictory
    (otherwise n 8 Nowhere
    (otherwise n 9 RanOut
    (otherwise n 10 NoArrangement
    (otherwise n 11 Disagrees
    (otherwise n 19 NoRoom NoSheet)))))))))))

-- a refusal with this number at this place
abbrev pub refusal : ℕ → ℕ → Refusal
refusal n k = record { fault = fault_of n; place = k }

-- the same refusal, where so many words stand before those that were read
abbrev pub later_by : ℕ → Refusal → Refusal
later_by m r = record { fault = r.fault; place = m + r.place }

-- what a call answers: a number, 0 for success and else that of its fault, and a count
pub record Answer : Type 0 where
  pub number : ℕ
  pub count : ℕ

-- this number and this count
abbrev pub answered : ℕ → ℕ → Answer
answered n c = record { number = n; count = c }

-- what the code answers, by its number and its count
abbrev pub told : Result ℕ Refused → Answer
told (Ok c) = answered 0 c
told (Err r) = answered (number_of r.fault) r.count

-- an answer, and what is lent as it is afterwards
abbrev pub outcome : {L : Type 0} → Answer → L → Outcome L
outcome a l = record { number = a.number; count = a.count; lent = l }
