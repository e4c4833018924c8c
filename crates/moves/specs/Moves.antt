-- The list of pairs of boards that lost something, and what work that keeps it makes of a table. Assumes nothing.
use Rattle.std.specs.Prelude.{◌≡◌, Bool, true, false, not, ◌||◌, ℕ, ◌+◌, ◌*◌, ◌^◌, ◌≤◌, ◌<◌, T, Option, Some, None, Result, Ok, Err, nat_eq, length, slice_index, set}
use mathlib.Core.List.{List, [], ◌∷◌, Memᴰ}
use Rattle.std.specs.Int.Count.{ones}
use Rattle.rules.specs.Relations.{E, has, meet, converse}
use Rattle.rules.specs.Descriptions.{most_boards, KindLine}
use Rattle.rules.specs.Tables.{cell, Table, Inside, emptied, total}
use Rattle.rules.specs.Arrangements.{width}
use Rattle.rules.specs.Closing.{Idle, agree}
use Rattle.passes.specs.Passes.{Filled, Ready}
use Rattle.bits.specs.Sets.{added_at, removed, lowest}
use Rattle.moves.specs.declared.Emptied.{Emptied}
use Rattle.moves.specs.Watches.{Watch, through, feeds, feeds', apart, matches, matches'}

-- The list has a word for each board, with a bit for each other board.
pub record Marks (v : ℕ) (m : List ℕ) : Type 0 where
  pub words : length m ≡ most_boards
  pub small : (p : ℕ) → slice_index m p < 2 ^ v

-- the pair is on the list, from one side or the other
abbrev pub listed : List ℕ → ℕ → ℕ → Bool
listed m p q = has (slice_index m p) q || has (slice_index m q) p

-- it is a pair of boards, and not on the list
pub record Off (v : ℕ) (m : List ℕ) (p q : ℕ) : Type 0 where
  pub first : p < v
  pub second : q < v
  pub unlisted : T (not (listed m p q))

-- p is the first board with a mark in its word, or v if there is none
pub record FirstMarked (v : ℕ) (m : List ℕ) (p : ℕ) : Type 0 where
  pub most : p ≤ v
  pub before : (j : ℕ) → j < p → slice_index m j ≡ 0
  pub found : p < v → slice_index m p ≡ 0 → ⊥

-- the first pair on the list m, if there is one, was taken off it, and left n
abbrev pub PairTaken : ℕ → List ℕ → List ℕ → Option (ℕ × ℕ) → Type 0
PairTaken v m n (Some r) = FirstMarked v m r.0 × (r.0 < v) × (r.1 ≡ lowest (slice_index m r.0)) × (n ≡ set m r.0 (removed (slice_index m r.0) r.1))
PairTaken v m n None = FirstMarked v m v × (n ≡ m)

-- how many marks there are
unfoldable pub marks : List ℕ → ℕ
marks [] = 0
marks (x ∷ xs) = ones x + marks xs

-- each two boards are the same seen from both sides
abbrev pub Mirrored : ℕ → List ℕ → Type 0
Mirrored v t = (p q : ℕ) → p < v → q < v → cell v t q p ≡ converse (cell v t p q)

-- A table of which a list may be kept: it is the same seen from both sides, each board is itself, and no cell is empty.
pub record Mutual (v : ℕ) (t : List ℕ) : Type 0 where
  pub ready : Ready v t
  pub mirrored : Mirrored v t
  pub selves : (p : ℕ) → p < v → cell v t p p ≡ E
  pub filled : Filled t

-- the table with x in (p, q), and turned in (q, p)
abbrev pub written_both : ℕ → List ℕ → ℕ → ℕ → ℕ → List ℕ
written_both v t p q x = set (set t (v * p + q) x) (v * q + p) (converse x)

-- the list with the pair on it, or as it was where that is idle
abbrev pub noted : Bool → List ℕ → ℕ → ℕ → List ℕ
noted true m p q = m
noted false m p q = added_at m p q

-- that a cell is empty
abbrev pub emptied_cell : Emptied
emptied_cell = record {}

-- what is told of a set that was written, by whether it is empty
abbrev pub told_of : Bool → Result (Unit {0}) Emptied
told_of true = Err emptied_cell
told_of false = Ok tt

-- Table and list went from t and m to w and n: x stands in (p, q) and turned in (q, p), the pair is on the list unless that is idle, and it was told whether x
-- is empty.
pub record PairPut (idle : Bool) (v p q x : ℕ) (t m w n : List ℕ) (r : Result (Unit {0}) Emptied) : Type 0 where
  pub cells : w ≡ written_both v t p q x
  pub list : n ≡ noted idle m p q
  pub told : r ≡ told_of (nat_eq x 0)

-- what a cell keeps of a set
abbrev pub kept_of : ℕ → List ℕ → ℕ → ℕ → ℕ → ℕ
kept_of v t p q b = meet (cell v t p q) b

-- A strike at (p, q) by the set b took table and list from t and m to w and n, and tells whether the cell is empty. It is idle where the cell keeps all.
abbrev pub Struck : ℕ → ℕ → ℕ → ℕ → List ℕ → List ℕ → List ℕ → List ℕ → Result (Unit {0}) Emptied → Type 0
Struck v p q b t m w n r = PairPut (nat_eq (kept_of v t p q b) (cell v t p q)) v p q (kept_of v t p q b) t m w n r

-- Work took table and list from t and m to w and n: no table inside t of which C holds is lost, each pair that is not on the list was not on it and has kept
-- its cell, and each mark that came cost a relation.
pub record Moved (C : List ℕ → Type 0) (v : ℕ) (t m w n : List ℕ) : Type 0 where
  pub fit : Mutual v w
  pub inside : Inside w t
  pub keeps : (x : List ℕ) → C x → Inside x t → Inside x w
  pub list : Marks v n
  pub off : (p q : ℕ) → Off v n p q → Off v m p q × (cell v w p q ≡ cell v t p q)
  pub fewer : 2 * total w + marks n ≤ 2 * total t + marks m

-- where no pair that it reads is on the list, the rule strikes nothing
abbrev pub Tended : ℕ → List ℕ → List ℕ → Watch → Type 0
Tended v m t x = ((a b : ℕ) → x.Reads a b → Off v m a b) → Idle v t x.rule

-- every table inside t of which C holds has an empty cell
abbrev pub Lost : (List ℕ → Type 0) → ℕ → List ℕ → Type 0
Lost C v t = (x : List ℕ) → Table v x → C x → Inside x t → T (emptied x)

-- Work that tells whether it was left at an empty cell: if not, table and list have moved, and P holds of them.
abbrev pub Went : (List ℕ → Type 0) → ℕ → (List ℕ → List ℕ → Type 0) → List ℕ → List ℕ → List ℕ → List ℕ → Result (Unit {0}) Emptied → Type 0
Went C v P t m w n (Ok _) = Moved C v t m w n × P n w
Went C v P t m w n (Err _) = Lost C v t

-- what a visit to rule 6 of a kind line towards z, and to rule 7 of two kind lines, sees to
pub record Fed (v : ℕ) (k : KindLine) (z : ℕ) (m t : List ℕ) : Type 0 where
  pub panel : Tended v m t (feeds v k z)
  pub ways : (i : ℕ) → i < width k → Tended v m t (feeds' v k i z)

pub record Matched (v : ℕ) (k l : KindLine) (m t : List ℕ) : Type 0 where
  pub codes : Tended v m t (apart v k l)
  pub panels : (i : ℕ) → i < width k → Tended v m t (matches v k l i)
  pub ways : T (agree k l) → (i : ℕ) → i < width k → Tended v m t (matches' v k l i)

-- the rule, if it reads the pair (a, b), is tended
abbrev pub Seen : ℕ → ℕ → ℕ → List ℕ → List ℕ → Watch → Type 0
Seen v a b m t x = x.Reads a b → Tended v m t x

-- what a visit for the pair (a, b) sees to: rule 6 of each kind line that reads the pair, and rule 7 of each two
pub record FedFor (v : ℕ) (ks : List KindLine) (a b : ℕ) (m t : List ℕ) : Type 0 where
  pub panel : (k : KindLine) → Memᴰ k ks → Seen v a b m t (feeds v k b)
  pub ways : (k : KindLine) → Memᴰ k ks → (i : ℕ) → i < width k → Seen v a b m t (feeds' v k i b)

pub record MatchedFor (v : ℕ) (ks : List KindLine) (a b : ℕ) (m t : List ℕ) : Type 0 where
  pub panels : (k : KindLine) → Memᴰ k ks → (l : KindLine) → Memᴰ l ks → (i : ℕ) → i < width k → Seen v a b m t (matches v k l i)
  pub ways : (k : KindLine) → Memᴰ k ks → (l : KindLine) → Memᴰ l ks → T (agree k l) → (i : ℕ) → i < width k → Seen v a b m t (matches' v k l i)

-- The one invariant: a rule of the kind lines ks that strikes something reads a pair on the list.
pub record Owed (v : ℕ) (ks : List KindLine) (m t : List ℕ) : Type 0 where
  pub three : (p q r : ℕ) → p < v → q < v → r < v → Tended v m t (through v p q r)
  pub six : (k : KindLine) → Memᴰ k ks → (z : ℕ) → z < v → Fed v k z m t
  pub seven : (k : KindLine) → Memᴰ k ks → (l : KindLine) → Memᴰ l ks → Matched v k l m t
