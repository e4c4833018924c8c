-- Arrangements (01, 'An arrangement', rules 1 to 7).
-- Assumes nothing.
use Rattle.std.specs.Prelude.{◌≡◌, ◌⊎◌, ℕ, ◌^◌, ◌<◌, length, slice_index}
use mathlib.Core.List.{List, Memᴰ}
use Rattle.rules.specs.Relations.{relations, E, A, S, ◌lies_within◌, converse, compose}
use Rattle.rules.specs.Descriptions.{RelationLine, KindLine, Sheet}
use Rattle.rules.specs.Tables.{Table, at}

-- way i of a kind line
abbrev pub way : KindLine → ℕ → ℕ
way k i = slice_index k.ways i

-- the number of ways
abbrev pub width : KindLine → ℕ
width k = length k.ways

-- code and number of ways agree
abbrev pub Alike : KindLine → KindLine → Type 0
Alike k l = (k.code ≡ l.code) × (width k ≡ width l)

-- An arrangement for a description is a table of single relations where:
pub record Arrangement (s : Sheet) (t : List ℕ) : Type 0 where
  pub table : Table s.boards t
  pub single : (p q : ℕ) → p < s.boards → q < s.boards → (r : ℕ) × (r < relations) × (at s t p q ≡ 2 ^ r)
  -- 1. (p, p) is E.
  pub rule1 : (p : ℕ) → p < s.boards → at s t p p ≡ E
  -- 2. (q, p) is the converse of (p, q).
  pub rule2 : (p q : ℕ) → p < s.boards → q < s.boards → at s t q p ≡ converse (at s t p q)
  -- 3. (p, r) is in the composition of (p, q) with (q, r), for all p, q, r, equal ones too.
  pub rule3 : (p q r : ℕ) → p < s.boards → q < s.boards → r < s.boards
      → at s t p r lies_within compose (at s t p q) (at s t q r)
  -- 4. Each relation line's cell (p, q) is in its set.
  pub rule4 : (l : RelationLine) → Memᴰ l s.lines → at s t l.p l.q lies_within l.allowed
  -- 5. For a kind line on p with ways y1 to yn: (p, yi) is A, and (yi, yj) is S for i different from j.
  pub rule5 : (k : KindLine) → Memᴰ k s.kinds → (i : ℕ) → i < width k → at s t k.p (way k i) ≡ A
  pub rule5' : (k : KindLine) → Memᴰ k s.kinds → (i j : ℕ) → i < width k → j < width k → (i ≡ j → ⊥)
      → at s t (way k i) (way k j) ≡ S
  -- 6. For such a line and every board z: if (p, z) is A, then some (yi, z) is E or A. With no ways, p is above nothing.
  pub rule6 : (k : KindLine) → Memᴰ k s.kinds → (z : ℕ) → z < s.boards → at s t k.p z ≡ A
      → (i : ℕ) × (i < width k) × ((at s t (way k i) z ≡ E) ⊎ (at s t (way k i) z ≡ A))
  -- 7. For two kind lines on p and q: if (p, q) is E, then code and number of ways agree and ways in the same position are E.
  pub rule7 : (k l : KindLine) → Memᴰ k s.kinds → Memᴰ l s.kinds → at s t k.p l.p ≡ E
      → Alike k l × ((i : ℕ) → i < width k → at s t (way k i) (way l i) ≡ E)
