-- Radial trees as people draw them, the boards placed in one, and when it fits a description.
-- Assumes nothing.
use Rattle.std.specs.Prelude.{◌≡◌, Bool, true, ◌&&◌, ℕ, ◌^◌, ◌<◌, T, nat_lt, slice_index_or}
use mathlib.Core.List.{List, [], ◌∷◌, ◌++◌, map, Memᴰ}
use Rattle.rules.specs.Relations.{relations, has}
use Rattle.rules.specs.Descriptions.{RelationLine, KindLine, Sheet}
use Rattle.rules.specs.Tables.{cell, Table}

-- A place is a path from the root: the number of the child taken at each step. The root is the empty path.
abbrev pub Place : Type 0
Place = List ℕ

-- child c of x
abbrev pub child : Place → ℕ → Place
child x c = x ++ (c ∷ [])

-- x is at or above y: its path is a prefix of y's
pub record AtOrAbove (x y : Place) : Type 0 where
  pub rest : Place
  pub path : y ≡ x ++ rest

-- x is above y: its path is a strict prefix of y's, which goes on by one step at least
pub record Above (x y : Place) : Type 0 where
  pub step : ℕ
  pub rest : Place
  pub path : y ≡ x ++ (step ∷ rest)

-- x is beside y: neither the same, nor above, nor below
pub record Beside (x y : Place) : Type 0 where
  pub not_same : x ≡ y → ⊥
  pub not_above : Above x y → ⊥
  pub not_below_lem : Above y x → ⊥

-- x stands to y in relation r: same, above, below or beside, by their paths
unfoldable pub Stands : ℕ → Place → Place → Type 0
Stands r x y = slice_index_or ((x ≡ y) ∷ Above x y ∷ Above y x ∷ Beside x y ∷ []) r ⊥

-- A tree is a finite set of places closed under going up, each of which carries one code.
pub record Tree : Type 0 where
  pub places : List Place
  pub upward : (x y : Place) → AtOrAbove x y → Memᴰ y places → Memᴰ x places
  pub code : Place → ℕ

-- A placement of v boards gives each board a place in a tree. Several boards may share a place, and a place may have no board.
pub record Placement (v : ℕ) : Type 0 where
  pub tree : Tree
  pub place : ℕ → Place
  pub placed : (p : ℕ) → p < v → Memᴰ (place p) tree.places

-- the table that a placement draws: each cell (p, q) is the one relation in which p's place stands to q's
pub record Draws {v : ℕ} (d : Placement v) (t : List ℕ) : Type 0 where
  pub table : Table v t
  pub each : (p q : ℕ) → p < v → q < v
      → (r : ℕ) × (r < relations) × (cell v t p q ≡ 2 ^ r) × Stands r (d.place p) (d.place q)

-- A relation line holds where p's place stands to q's in a relation of its set.
abbrev pub Holds : {v : ℕ} → Placement v → RelationLine → Type 0
Holds d l = (r : ℕ) × (r < relations) × T (has l.allowed r) × Stands r (d.place l.p) (d.place l.q)

-- each number is below the next
abbrev pub rising : List ℕ → Bool
rising [] = true
rising (c ∷ []) = true
rising (c ∷ d ∷ cs) = nat_lt c d && rising (d ∷ cs)

-- the children of x in the tree are exactly the places ys, in the order of their numbers
pub record Children (tree : Tree) (x : Place) (ys : List Place) : Type 0 where
  pub numbers : List ℕ
  pub ordered : T (rising numbers)
  pub these : ys ≡ map (child x) numbers
  pub present : (c : ℕ) → Memᴰ c numbers → Memᴰ (child x c) tree.places
  pub no_other : (c : ℕ) → Memᴰ (child x c) tree.places → Memᴰ c numbers

-- A kind line holds where the board's place carries the code, has exactly as many children as ways, and the ways stand at these children in order.
pub record Panel {v : ℕ} (d : Placement v) (k : KindLine) : Type 0 where
  pub code : d.tree.code (d.place k.p) ≡ k.code
  pub ways : Children d.tree (d.place k.p) (map d.place k.ways)

-- The tree fits the description: each of its lines holds.
pub record TreeFits (s : Sheet) (d : Placement s.boards) : Type 0 where
  pub lines : (l : RelationLine) → Memᴰ l s.lines → Holds d l
  pub kinds : (k : KindLine) → Memᴰ k s.kinds → Panel d k

-- A description without lines: rules 1 to 3 alone are asked of its arrangements.
abbrev pub unsaid : ℕ → Sheet
unsaid v = record { boards = v; lines = []; kinds = [] }

-- the table is drawn from a tree that fits the description
abbrev pub DrawnFrom : Sheet → List ℕ → Type 0
DrawnFrom s t = (d : Placement s.boards) × TreeFits s d × Draws d t

-- no radial tree fits the description
abbrev pub NoTree : Sheet → Type 0
NoTree s = (d : Placement s.boards) → TreeFits s d → ⊥
