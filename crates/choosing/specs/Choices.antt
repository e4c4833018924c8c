-- Choices of the search, over any order: the sets that remember which relations of a cell are still to be tried. Assumes nothing.
use Rattle.std.specs.Prelude.{◌≡◌, List, ℕ, ◌≤◌, ◌<◌, Option, Some, None, length, slice_index, replicate}
use Rattle.rules.specs.Relations.{set_limit, size, ◌lies_within◌, converse}
use Rattle.rules.specs.Descriptions.{most_boards}
use Rattle.rules.specs.Tables.{cell, Table, Inside}
use Rattle.rules.specs.Search.{places}
use Rattle.passes.specs.Passes.{Filled}
use Rattle.moves.specs.Moves.{Moved}
use Rattle.orders.specs.Orders.{pick, unpicked}
use Rattle.choosing.specs.declared.pairs.Pair.{Pair}
use Rattle.choosing.specs.Pairs.{pair_cell, IsPair}

-- a set for each pair
pub record PairSets (v : ℕ) (cs : List ℕ) : Type 0 where
  pub room : length (places v) ≤ length cs
  pub small : (m : ℕ) → slice_index cs m < set_limit

-- From the pair i up to the pair j each cell of t has at most one relation, which its set keeps; the sets before are as they were.
pub record Passed (v : ℕ) (t cs : List ℕ) (i : ℕ) (ds : List ℕ) (j : ℕ) : Type 0 where
  pub sets : PairSets v ds
  pub after : i ≤ j
  pub before : (m : ℕ) → m < i → slice_index ds m ≡ slice_index cs m
  pub single : (m : ℕ) → i ≤ m → m < j → size (slice_index t (pair_cell v m)) ≤ 1
  pub kept : (m : ℕ) → i ≤ m → m < j → slice_index ds m ≡ slice_index t (pair_cell v m)

-- a pair with several relations, which its set has
pub record Several (v : ℕ) (t ds : List ℕ) (at : Pair) : Type 0 where
  pub pair : IsPair v at
  pub within : at.q < v
  pub many : 1 < size (slice_index t (pair_cell v at.index))
  pub kept : slice_index ds at.index ≡ slice_index t (pair_cell v at.index)

-- what looking for the next pair with several relations comes to, from the pair i on
abbrev pub NextOpen : ℕ → List ℕ → List ℕ → ℕ → List ℕ → Option Pair → Type 0
NextOpen v t cs i ds (Some at) = Passed v t cs i ds at.index × Several v t ds at
NextOpen v t cs i ds None = Passed v t cs i ds (length (places v))

-- At this pair something is left besides the choice, which is dropped; at the pairs from there to i nothing was left.
pub record Back (v : ℕ) (ord cs : List ℕ) (i : ℕ) (ds : List ℕ) (at : Pair) : Type 0 where
  pub sets : PairSets v ds
  pub pair : IsPair v at
  pub within : at.q < v
  pub most : at.index ≤ i
  pub before : (m : ℕ) → m < at.index → slice_index ds m ≡ slice_index cs m
  pub here : slice_index ds at.index ≡ unpicked ord (slice_index cs at.index)
  pub some : slice_index ds at.index ≡ 0 → ⊥
  pub failed : (m : ℕ) → at.index < m → m ≤ i → unpicked ord (slice_index cs m) ≡ 0

-- what looking back for the last pair with a relation left comes to, from the pair i
abbrev pub LastOpen : ℕ → List ℕ → List ℕ → ℕ → List ℕ → Option Pair → Type 0
LastOpen v ord cs i ds (Some at) = Back v ord cs i ds at
LastOpen v ord cs i ds None = (m : ℕ) → m ≤ i → unpicked ord (slice_index cs m) ≡ 0

-- a table inside t, turned, in which each of the first n pairs lies within its choice
pub record Chosen (v : ℕ) (ord cs t : List ℕ) (n : ℕ) (x : List ℕ) : Type 0 where
  pub inside : Inside x t
  pub turned : (p q : ℕ) → p < v → q < v → cell v x q p lies_within converse (cell v x p q)
  pub picks : (m : ℕ) → m < n → slice_index x (pair_cell v m) lies_within pick ord (slice_index cs m)

-- some such table has no empty cell
pub record Standing (v : ℕ) (ord cs t : List ℕ) (n : ℕ) : Type 0 where
  pub x : List ℕ
  pub table : Table v x
  pub filled : Filled x
  pub chosen : Chosen v ord cs t n x

-- The table t was narrowed to w by the choices of the first n pairs, with the list of what they changed.
pub record Restored (v : ℕ) (ord cs t : List ℕ) (n : ℕ) (w l : List ℕ) : Type 0 where
  pub moved : Moved (Chosen v ord cs t n) v t (replicate most_boards 0) w l
  pub picks : (m : ℕ) → m < n → slice_index w (pair_cell v m) lies_within pick ord (slice_index cs m)
