-- Closed tables (01, 'Closed tables', rules 1 to 7), and the largest one inside a table.
-- Assumes nothing.
use Rattle.std.specs.Prelude.{◌≡◌, ℕ, ◌-◌, ◌<◌}
use mathlib.Core.List.{List, Memᴰ}
use Rattle.rules.specs.Relations.{same, above, E, A, S, Lacks, join, ◌lies_within◌, converse, compose}
use Rattle.rules.specs.Descriptions.{RelationLine, KindLine, Sheet}
use Rattle.rules.specs.Tables.{Table, Inside, at, total}
use Rattle.rules.specs.Arrangements.{way, width, Alike}

-- the cell has neither E nor A
abbrev pub Misses : ℕ → Type 0
Misses x = Lacks x same × Lacks x above

-- A table of sets is closed under a description if no rule below strikes anything.
pub record Closed (s : Sheet) (t : List ℕ) : Type 0 where
  -- 1. (p, p) holds nothing but E.
  pub rule1 : (p : ℕ) → p < s.boards → at s t p p lies_within E
  -- 2. (q, p) is the converse of (p, q).
  pub rule2 : (p q : ℕ) → p < s.boards → q < s.boards → at s t q p ≡ converse (at s t p q)
  -- 3. (p, r) lies within the composition of (p, q) with (q, r).
  pub rule3 : (p q r : ℕ) → p < s.boards → q < s.boards → r < s.boards → at s t p r lies_within compose (at s t p q) (at s t q r)
  -- 4. A relation line's cell lies within its set.
  pub rule4 : (l : RelationLine) → Memᴰ l s.lines → at s t l.p l.q lies_within l.allowed
  -- 5. The cells of rule 5 above lie within {A} and {S}.
  pub rule5 : (k : KindLine) → Memᴰ k s.kinds → (i : ℕ) → i < width k → at s t k.p (way k i) lies_within A
  pub rule5' : (k : KindLine) → Memᴰ k s.kinds → (i j : ℕ) → i < width k → j < width k → (i ≡ j → ⊥)
      → at s t (way k i) (way k j) lies_within S
  -- 6. For a kind line on p and a board z: if no (yi, z) has E or A, then (p, z) lacks A.
  pub rule6 : (k : KindLine) → Memᴰ k s.kinds → (z : ℕ) → z < s.boards
      → ((i : ℕ) → i < width k → Misses (at s t (way k i) z)) → Lacks (at s t k.p z) above
  -- If (p, z) lies within {A} and every way but yi lacks both E and A towards z, then (yi, z) lies within {E, A}.
  pub rule6' : (k : KindLine) → Memᴰ k s.kinds → (z : ℕ) → z < s.boards → (i : ℕ) → i < width k → at s t k.p z lies_within A
      → ((j : ℕ) → j < width k → (i ≡ j → ⊥) → Misses (at s t (way k j) z)) → at s t (way k i) z lies_within join E A
  -- 7. For two kind lines on p and q: if code or number of ways differ, (p, q) lacks E.
  pub rule7 : (k : KindLine) → Memᴰ k s.kinds → (l : KindLine) → Memᴰ l s.kinds → (Alike k l → ⊥)
      → Lacks (at s t k.p l.p) same
  -- If they agree and some pair of ways in the same position lacks E, (p, q) lacks E.
  pub rule7' : (k : KindLine) → Memᴰ k s.kinds → (l : KindLine) → Memᴰ l s.kinds → Alike k l → (i : ℕ) → i < width k
      → Lacks (at s t (way k i) (way l i)) same → Lacks (at s t k.p l.p) same
  -- If they agree and (p, q) lies within {E}, each such pair lies within {E}.
  pub rule7'' : (k : KindLine) → Memᴰ k s.kinds → (l : KindLine) → Memᴰ l s.kinds → Alike k l → at s t k.p l.p lies_within E
      → (i : ℕ) → i < width k → at s t (way k i) (way l i) lies_within E

-- u is the largest closed table inside t
pub record Largest (s : Sheet) (t u : List ℕ) : Type 0 where
  pub table : Table s.boards u
  pub closed : Closed s u
  pub inside : Inside u t
  pub largest : (w : List ℕ) → Table s.boards w → Closed s w → Inside w t → Inside w u

-- the number of relations struck between the table t and the table u inside it
abbrev pub strikes : List ℕ → List ℕ → ℕ
strikes t u = total t - total u
