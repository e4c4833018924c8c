-- What each call answers and leaves (01, 'Refusal numbers'), for whatever it is lent.
-- Assumes nothing.
use Rattle.std.specs.Prelude.{Bool, true, false, ◌&&◌, List, ℕ, ◌*◌, nat_lt, nat_eq, length}
use Rattle.rules.specs.Relations.{each_of, set_limit, size, within}
use Rattle.rules.specs.Descriptions.{Sheet, Reading, good, refused, need, next, read}
use Rattle.rules.specs.Tables.{cell, filled, emptied}
use Rattle.rules.specs.Closed.{strikes}
use Rattle.rules.specs.Closing.{Rule, rules, closing}
use Rattle.rules.specs.Search.{found, none, Capped, ended, ran_out, search, cap}

-- a number, a count, and what is lent as it is afterwards
pub record Outcome (L : Type 0) : Type 0 where
  pub number : ℕ
  pub count : ℕ
  pub lent : L

module _ {L : Type 0} where
  -- all refusals leave what is lent as it came
  abbrev pub refuse : ℕ → ℕ → L → Outcome L
  refuse n c l = record { number = n; count = c; lent = l }

  abbrev pub succeed : ℕ → L → Outcome L
  succeed c l = record { number = 0; count = c; lent = l }

-- what 6 asks for in an opening: the table has V times V cells
abbrev pub has_cells : ℕ → List ℕ → Bool
has_cells v t = nat_eq (length t) (v * v)

-- what 6 asks for in every other call: the table has V times V cells, and none is above 15
unfoldable pub well_formed : ℕ → List ℕ → Bool
well_formed v t = has_cells v t && each_of (λ x. nat_lt x set_limit) t

-- the description that is meant, once 1 to 5, then 11 and then 6 have been looked for; 6, by what it asks for, has no place
unfoldable pub admitted : (ℕ → List ℕ → Bool) → List ℕ → List ℕ → Reading Sheet
admitted asks ws t = next (read ws) (λ s. need 6 0 (asks s.boards t) (good s))

-- what is lent as it came where the reading was refused, with the place for a count, or what comes of what was read
abbrev pub given : {X L : Type 0} → Reading X → L → (X → Outcome L) → Outcome L
given (good x) l f = f x
given (refused n k) l f = refuse n k l

-- reading: 0, 1 to 5, or 11; nothing is lent but the words
unfoldable pub reading : List ℕ → Outcome (Unit {0})
reading ws = given (read ws) tt (λ s. succeed 0 tt)

-- the table t closed into the lent one: the relations struck from t; 7 where the largest closed table has an empty cell
abbrev pub close_into : List ℕ → Sheet → List ℕ → Outcome (List ℕ)
close_into lent s t = let u = closing s t in elim (emptied u) [ true ↦ refuse 7 0 lent | false ↦ succeed (strikes t u) u ]

-- opening: the full table closed into the lent one, which may hold anything
unfoldable pub opening : List ℕ → List ℕ → Outcome (List ℕ)
opening ws t = given (admitted has_cells ws t) t (λ s. close_into t s (filled s.boards))

-- closing: the lent table closed
unfoldable pub close : List ℕ → List ℕ → Outcome (List ℕ)
close ws t = given (admitted well_formed ws t) t (λ s. close_into t s t)

-- searching: the tries made; 8 where there is none, with the tries made; 9 where the budget ran out, with the budget
abbrev pub answer : List ℕ → Capped → Outcome (List ℕ)
answer t (ended (found n w)) = succeed n w
answer t (ended (none n)) = refuse 8 n t
answer t (ran_out b) = refuse 9 b t

unfoldable pub searching : List ℕ → List ℕ → List ℕ → ℕ → Outcome (List ℕ)
searching ord ws t b = given (admitted well_formed ws t) t (λ s. answer t (cap b (search (closing s) ord s.boards t)))

-- the rule strikes nothing, as a test
abbrev pub idle : ℕ → List ℕ → Rule → Bool
idle v t r = within (cell v t r.row r.column) (r.bound t)

-- the table is an arrangement: every cell is a single relation, and no rule strikes anything
unfoldable pub arranged : Sheet → List ℕ → Bool
arranged s t = each_of (λ x. nat_eq (size x) 1) t && each_of (idle s.boards t) (rules s)

-- the check says yes exactly if the table is an arrangement: 10 where it is none
unfoldable pub check : List ℕ → List ℕ → Outcome (List ℕ)
check ws t = given (admitted well_formed ws t) t (λ s. elim (arranged s t) [ true ↦ succeed 0 t | false ↦ refuse 10 0 t ])
