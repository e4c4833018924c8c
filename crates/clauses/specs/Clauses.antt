-- The published tree constraints with set operators: clauses 6 to 32 of 001, each under its number, with the inverse operator of 002, section 5.
-- Assumes nothing.
use Rattle.std.specs.Prelude.{◌≡◌, Bool, true, false, ◌&&◌, ◌||◌, ◌⊎◌, ℕ, suc, ◌^◌, ◌≤◌, ◌<◌, T, nat_eq, nat_le, length, slice_index, slice_index_or}
use mathlib.Core.List.{List, [], ◌∷◌, map, Memᴰ}
use Rattle.rules.specs.Relations.{relations, E, A, B, S}
use Rattle.rules.specs.Expressions.{Phrase, only_e, only_a, only_b, only_s, union_of, intersection_of, complement_of, inverse_of, written, denoted}
use Rattle.rules.specs.Descriptions.{RelationLine, KindLine, Sheet, describe}
use Rattle.rules.specs.Tables.{cell, Table}
use Rattle.rules.specs.Arrangements.{way, width}

-- ---- descriptions as they are published

-- x R y
pub record Formula : Type 0 where
  pub x : ℕ
  pub relation : Phrase
  pub y : ℕ

-- a description: the variables are the boards, its conjuncts x R y and x : f(y1, ..., yn)
pub record Description : Type 0 where
  pub boards : ℕ
  pub formulas : List Formula
  pub labels : List KindLine

-- what 01 makes of one: a relation line has the set that its expression stands for
abbrev pub line : Formula → RelationLine
line f = record { p = f.x; q = f.y; allowed = denoted f.relation }

abbrev pub sheet : Description → Sheet
sheet φ = record { boards = φ.boards; lines = map line φ.formulas; kinds = φ.labels }

-- the words that write a conjunct
abbrev pub formula_words : Formula → List ℕ
formula_words f = f.x ∷ f.y ∷ length (written f.relation) ∷ written f.relation

abbrev pub label_words : KindLine → List ℕ
label_words k = k.p ∷ k.code ∷ width k ∷ k.ways

-- The words of a description: the six of its header, then those of its formulas, then those of its labels. The header has the numbers of boards,
-- formulas and labels, where the words of the formulas begin, where those of the labels begin, and how many words there are.
abbrev pub description_words : Description → List ℕ
description_words φ = describe φ.boards (map formula_words φ.formulas) (map label_words φ.labels)

-- the words write φ: they are the words of φ, all of them and no others
abbrev pub Writes : List ℕ → Description → Type 0
Writes ws φ = ws ≡ description_words φ

-- ---- sets of boards

abbrev pub Boards : Type 0
Boards = ℕ → Bool

-- f(N1, ..., Nn): a code and the nodes
pub record Term : Type 0 where
  pub code : ℕ
  pub nodes : List ℕ

-- The nodes of a tree, by number: the node of each board, and of each node its sets of boards, its label and its parent.
pub record Nodes : Type 0 where
  pub node : ℕ → ℕ
  pub eq : ℕ → Boards
  pub up : ℕ → Boards
  pub down : ℕ → Boards
  pub side : ℕ → Boards
  pub eqdown : ℕ → Boards
  pub equp : ℕ → Boards
  pub label : ℕ → Term
  pub parent : ℕ → ℕ

-- sets of the boards below v
module _ (v : ℕ) where
  -- each of X is one of Y
  abbrev pub Part : Boards → Boards → Type 0
  Part X Y = (z : ℕ) → z < v → T (X z) → T (Y z)

  -- no board is in both
  abbrev pub Disjoint : Boards → Boards → Type 0
  Disjoint X Y = (z : ℕ) → z < v → T (X z) → T (Y z) → ⊥

  -- X is the disjoint union of these sets
  pub record DisjointUnion (X : Boards) (Ys : List Boards) : Type 0 where
    pub covered : (z : ℕ) → z < v → T (X z) → (i : ℕ) × (i < length Ys) × T (slice_index_or Ys i (λ y. false) z)
    pub parts : (i : ℕ) → i < length Ys → Part (slice_index_or Ys i (λ y. false)) X
    pub apart : (i j : ℕ) → i < length Ys → j < length Ys → (i ≡ j → ⊥) → Disjoint (slice_index_or Ys i (λ y. false)) (slice_index_or Ys j (λ y. false))

-- all boards
abbrev pub everything : Boards
everything z = true

-- ---- the clauses, over v boards, their nodes and the choice variables

-- 25 to 31: the values of the choice variable that a relation allows; and the inverse operator, which exchanges above and below
unfoldable pub values : Phrase → ℕ → Bool
-- 25
values only_e c = nat_eq c 1
-- 26
values only_a c = nat_eq c 2
-- 27
values only_b c = nat_eq c 3
-- 28
values only_s c = nat_eq c 4
-- 29
values (union_of R Q) c = values R c || values Q c
-- 30
values (intersection_of R Q) c = values R c && values Q c
-- 31
values (complement_of R) c = elim (values R c) [ true ↦ false | false ↦ nat_le 1 c && nat_le c relations ]
-- 002, section 5.1
values (inverse_of R) c = values R (slice_index (0 ∷ 1 ∷ 3 ∷ 2 ∷ 4 ∷ []) c)

module _ (v : ℕ) (N : Nodes) (C : ℕ → ℕ → ℕ) where
  -- the sets of board x
  abbrev eq : ℕ → Boards
  eq x = N.eq (N.node x)

  abbrev up : ℕ → Boards
  up x = N.up (N.node x)

  abbrev down : ℕ → Boards
  down x = N.down (N.node x)

  abbrev beside : ℕ → Boards
  beside x = N.side (N.node x)

  abbrev eqdown : ℕ → Boards
  eqdown x = N.eqdown (N.node x)

  abbrev equp : ℕ → Boards
  equp x = N.equp (N.node x)

  -- 6 to 11, of each board
  pub record Partitioned (x : ℕ) : Type 0 where
    pub clause6 : DisjointUnion v everything (eq x ∷ down x ∷ up x ∷ beside x ∷ [])
    pub clause7 : DisjointUnion v everything (eqdown x ∷ up x ∷ beside x ∷ [])
    pub clause8 : DisjointUnion v everything (equp x ∷ down x ∷ beside x ∷ [])
    pub clause9 : DisjointUnion v (eqdown x) (eq x ∷ down x ∷ [])
    pub clause10 : DisjointUnion v (equp x) (eq x ∷ up x ∷ [])
    pub clause11 : T (eq x x)

  -- 16: N^x = N^y; this is just unification
  abbrev pub Clause16 : ℕ → ℕ → Type 0
  Clause16 x y = N.node x ≡ N.node y

  -- 17: N^x is not N^y
  abbrev pub Clause17 : ℕ → ℕ → Type 0
  Clause17 x y = Disjoint v (eq x) (eq y)

  -- 18: N^x is above N^y
  pub record Clause18 (x y : ℕ) : Type 0 where
    pub downwards : Part v (eqdown y) (down x)
    pub upwards : Part v (equp x) (up y)
    pub sidewards : Part v (beside x) (beside y)

  -- 19: N^x is not above N^y
  pub record Clause19 (x y : ℕ) : Type 0 where
    pub upwards : Disjoint v (eq x) (up y)
    pub downwards : Disjoint v (down x) (eq y)

  -- 20: N^x is beside N^y
  pub record Clause20 (x y : ℕ) : Type 0 where
    pub there : Part v (eqdown x) (beside y)
    pub back : Part v (eqdown y) (beside x)

  -- 21: N^x is not beside N^y
  pub record Clause21 (x y : ℕ) : Type 0 where
    pub there : Disjoint v (eq x) (beside y)
    pub back : Disjoint v (eq y) (beside x)

  -- the choice variable is c and this holds, or it is another and that holds
  abbrev pub Choice : ℕ → ℕ → ℕ → Type 0 → Type 0 → Type 0
  Choice c x y this that = (this × (C x y ≡ c)) ⊎ ((C x y ≡ c → ⊥) × that)

  -- 12 to 15, of each two boards, the choice variable being 1, 2, 3 or 4
  pub record Chosen (x y : ℕ) : Type 0 where
    pub choice : (1 ≤ C x y) × (C x y ≤ relations)
    pub clause12 : Choice 1 x y (Clause16 x y) (Clause17 x y)
    pub clause13 : Choice 2 x y (Clause18 x y) (Clause19 x y)
    pub clause14 : Choice 3 x y (Clause18 y x) (Clause19 y x)
    pub clause15 : Choice 4 x y (Clause20 x y) (Clause21 x y)

  -- 22: the nodes are arranged in a tree
  pub record Clause22 : Type 0 where
    pub each : (x : ℕ) → x < v → Partitioned x
    pub pairs : (x y : ℕ) → x < v → y < v → Chosen x y

  -- 24: x R y
  abbrev pub Clause24 : Formula → Type 0
  Clause24 f = T (values f.relation (C f.x f.y))

  -- 32: x : f(y1, ..., yn)
  pub record Clause32 (k : KindLine) : Type 0 where
    pub label : N.label (N.node k.p) ≡ record { code = k.code; nodes = map N.node k.ways }
    pub parent : (i : ℕ) → i < width k → N.parent (N.node (way k i)) ≡ N.node k.p
    pub downwards : DisjointUnion v (down k.p) (map eqdown k.ways)
    pub upwards : (i : ℕ) → i < width k → Part v (up (way k i)) (equp k.p) × Part v (equp k.p) (up (way k i))

-- 5 and 23: the constraints of a description, a conjunct each
pub record Published (φ : Description) (N : Nodes) (C : ℕ → ℕ → ℕ) : Type 0 where
  pub tree : Clause22 φ.boards N C
  pub formulas : (f : Formula) → Memᴰ f φ.formulas → Clause24 φ.boards N C f
  pub labels : (k : KindLine) → Memᴰ k φ.labels → Clause32 φ.boards N C k

-- ---- tables and their row sets

-- the choice variables say what the table says: each cell is the one relation chosen
pub record Chooses (v : ℕ) (C : ℕ → ℕ → ℕ) (t : List ℕ) : Type 0 where
  pub table : Table v t
  pub each : (x y : ℕ) → x < v → y < v → (r : ℕ) × (r < relations) × (cell v t x y ≡ 2 ^ r) × (C x y ≡ suc r)

-- the sets of each board are those of its row: board y is in x's set `up` where cell (x, y) is B, since x is below it
pub record Rows (v : ℕ) (N : Nodes) (t : List ℕ) : Type 0 where
  pub eq : (x y : ℕ) → x < v → y < v → N.eq (N.node x) y ≡ nat_eq (cell v t x y) E
  pub up : (x y : ℕ) → x < v → y < v → N.up (N.node x) y ≡ nat_eq (cell v t x y) B
  pub down : (x y : ℕ) → x < v → y < v → N.down (N.node x) y ≡ nat_eq (cell v t x y) A
  pub side : (x y : ℕ) → x < v → y < v → N.side (N.node x) y ≡ nat_eq (cell v t x y) S
  pub eqdown : (x y : ℕ) → x < v → y < v → N.eqdown (N.node x) y ≡ (nat_eq (cell v t x y) E || nat_eq (cell v t x y) A)
  pub equp : (x y : ℕ) → x < v → y < v → N.equp (N.node x) y ≡ (nat_eq (cell v t x y) E || nat_eq (cell v t x y) B)

-- the table's row sets satisfy the constraints, with some label and parent for each node
abbrev pub Solves : Description → List ℕ → Type 0
Solves φ t = (N : Nodes) × (C : ℕ → ℕ → ℕ) × Chooses φ.boards C t × Rows φ.boards N t × Published φ N C

-- the constraints have no solution
abbrev pub Unsolvable : Description → Type 0
Unsolvable φ = (N : Nodes) (C : ℕ → ℕ → ℕ) → Published φ N C → ⊥
