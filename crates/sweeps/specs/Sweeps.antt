-- What the visits to rules 2 and 3 see to. Assumes nothing.
use Rattle.std.specs.Prelude.{◌≡◌, Result, Ok, Err, List, ◌++◌, ℕ, ◌<◌, nat_eq}
use Rattle.rules.specs.Relations.{E, full, ◌lies_within◌, converse}
use Rattle.rules.specs.Tables.{cell, Table, Inside}
use Rattle.rules.specs.Closing.{rules2, rules3}
use Rattle.passes.specs.Passes.{Idles}
use Rattle.moves.specs.declared.Emptied.{Emptied}
use Rattle.moves.specs.Watches.{through}
use Rattle.moves.specs.Moves.{Marks, Off, Mutual, PairPut, kept_of, Tended, Lost}

-- rules 2 and 3 strike nothing in x
abbrev pub Evenly : ℕ → List ℕ → Type 0
Evenly v x = Idles v (rules2 v ++ rules3 v) x

-- rule 3 by way of p and q is tended, for every third board
abbrev pub ThroughEach : ℕ → ℕ → ℕ → List ℕ → List ℕ → Type 0
ThroughEach v p q m t = (r : ℕ) → r < v → Tended v m t (through v p q r)

-- and from both sides
abbrev pub ThroughBoth : ℕ → ℕ → ℕ → List ℕ → List ℕ → Type 0
ThroughBoth v p q m t = ThroughEach v p q m t × ThroughEach v q p m t

-- ---- rule 2, and the first list

-- each board is nothing but itself
abbrev pub Selves : ℕ → List ℕ → Type 0
Selves v t = (p : ℕ) → p < v → cell v t p p lies_within E

-- what both sides allow p and q
abbrev pub allowed : ℕ → List ℕ → ℕ → ℕ → ℕ
allowed v t p q = kept_of v t p q (converse (cell v t q p))

-- both cells of p and q became what both sides allow; the pair is on the list unless that is all; and it was told whether it is nothing
abbrev pub Level : ℕ → ℕ → ℕ → List ℕ → List ℕ → List ℕ → List ℕ → Result (Unit {0}) Emptied → Type 0
Level v p q t m w n r = PairPut (nat_eq (allowed v t p q) full) v p q (allowed v t p q) t m w n r

-- two boards are the same seen from both sides, something is allowed, and all is unless the pair is on the list
pub record Sided (v : ℕ) (m t : List ℕ) (p q : ℕ) : Type 0 where
  pub turned : cell v t q p ≡ converse (cell v t p q)
  pub some : cell v t p q ≡ 0 → ⊥
  pub known : Off v m p q → cell v t p q ≡ full

-- Rule 2 took table and list from t and m to w and n: what is known of other pairs stays, and each two boards that D tells are the same from both sides.
pub record Sides (v : ℕ) (D : ℕ → ℕ → Type 0) (t m w n : List ℕ) : Type 0 where
  pub table : Table v w
  pub inside : Inside w t
  pub keeps : (x : List ℕ) → Idles v (rules2 v) x → Inside x t → Inside x w
  pub list : Marks v n
  pub diagonal : (a : ℕ) → a < v → cell v w a a ≡ cell v t a a
  pub others : (a b : ℕ) → a < b → b < v → Sided v m t a b → Sided v n w a b
  pub these : (a b : ℕ) → a < b → b < v → D a b → Sided v n w a b

abbrev pub Levels : ℕ → (ℕ → ℕ → Type 0) → List ℕ → List ℕ → List ℕ → List ℕ → Result (Unit {0}) Emptied → Type 0
Levels v D t m w n (Ok _) = Sides v D t m w n
Levels v D t m w n (Err _) = Lost (Idles v (rules2 v)) v t

-- the pairs whose first board is p
abbrev pub RowOf : ℕ → ℕ → ℕ → Type 0
RowOf p a b = a ≡ p

-- what the first list is of: a table without an empty cell, the same from both sides, of which every pair that is not on the list is full
pub record Noted (v : ℕ) (t w n : List ℕ) : Type 0 where
  pub fit : Mutual v w
  pub inside : Inside w t
  pub keeps : (x : List ℕ) → Idles v (rules2 v) x → Inside x t → Inside x w
  pub list : Marks v n
  pub known : (p q : ℕ) → (p ≡ q → ⊥) → Off v n p q → cell v w p q ≡ full

abbrev pub Leveled : ℕ → List ℕ → List ℕ → List ℕ → Result (Unit {0}) Emptied → Type 0
Leveled v t w n (Ok _) = Noted v t w n
Leveled v t w n (Err _) = Lost (Idles v (rules2 v)) v t
