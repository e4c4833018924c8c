-- Where a search stands by its choices, over any closing and any order: the table at each pair, and what is still to come. Assumes nothing.
use Rattle.std.specs.Prelude.{◌≡◌, List, ℕ, zero, suc, ◌<◌, Option, Some, None, slice_index, set, drop}
use Rattle.rules.specs.Relations.{◌lies_within◌}
use Rattle.rules.specs.Descriptions.{Sheet}
use Rattle.rules.specs.Tables.{Table, Inside}
use Rattle.rules.specs.Closed.{Closed, Largest}
use Rattle.rules.specs.Closing.{closing}
use Rattle.rules.specs.Search.{End, found, none, later, attempt, choose, places}
use Rattle.passes.specs.Passes.{Filled}
use Rattle.orders.specs.Orders.{still, pick, unpicked}
use Rattle.choosing.specs.declared.pairs.Pair.{Pair}
use Rattle.choosing.specs.declared.Next.{Next}
use Rattle.choosing.specs.declared.Next.TheVariants.{Try, Found, Spent}
use Rattle.choosing.specs.Pairs.{pair_cell, IsPair}
use Rattle.choosing.specs.Choices.{PairSets}

-- what comes next by the pair that looking on, or looking back, has come to
abbrev pub onward : Option Pair → Next
onward (Some at) = Try at
onward None = Found

abbrev pub backward : Option Pair → Next
backward (Some at) = Try at
backward None = Spent

-- the end e where the first end was none, with the tries of both
abbrev pub else_end : End → End → End
else_end (found n w) e = found n w
else_end (none n) e = later n e

module _ (clo : List ℕ → List ℕ) (ord : List ℕ) (v : ℕ) (first cs : List ℕ) where
  -- the table at pair i: the first table, closed under the choices before i, one after the other
  unfoldable pub stood : ℕ → List ℕ
  stood zero = first
  stood (suc i) = clo (set (stood i) (pair_cell v i) (pick ord (slice_index cs i)))

  -- what trying these relations at pair i comes to
  abbrev pub trying : ℕ → List ℕ → End
  trying i rs = attempt clo (λ u. choose clo ord (drop (suc i) (places v)) u) (pair_cell v i) (stood i) rs

  -- what the search comes to where, from pair i on, it comes to e: if that is none, what is left at the pairs before i is tried, the last pair first
  unfoldable pub resume : ℕ → End → End
  resume zero e = e
  resume (suc i) e = resume i (else_end e (trying i (still ord (unpicked ord (slice_index cs i)))))

  -- what is still to come, with these cells
  abbrev pub ahead : List ℕ → Next → End
  ahead u (Try at) = resume at.index (trying at.index (still ord (slice_index cs at.index)))
  ahead u Found = found 0 u
  ahead u Spent = none 0

  -- the set of pair i has relations of its cell, and with its choice the table is not contradictory
  pub record ChoiceMade (i : ℕ) : Type 0 where
    pub some : slice_index cs i ≡ 0 → ⊥
    pub among : slice_index cs i lies_within slice_index (stood i) (pair_cell v i)
    pub filled : Filled (stood (suc i))

-- a closed table without an empty cell
pub record Whole (s : Sheet) (t : List ℕ) : Type 0 where
  pub table : Table s.boards t
  pub closed : Closed s t
  pub filled : Filled t

module _ (s : Sheet) (ord first : List ℕ) where
  -- the choices stand at the first i pairs
  pub record ChoicesStand (cs : List ℕ) (i : ℕ) : Type 0 where
    pub whole : Whole s first
    pub each : (m : ℕ) → m < i → ChoiceMade (closing s) ord s.boards first cs m

  -- A try is due at this pair. Its cells, when they are closed, are the table at the pair.
  pub record Due (cs u : List ℕ) (at : Pair) : Type 0 where
    pub sets : PairSets s.boards cs
    pub pair : IsPair s.boards at
    pub within : at.q < s.boards
    pub stands : ChoicesStand cs at.index
    pub some : slice_index cs at.index ≡ 0 → ⊥
    pub among : slice_index cs at.index lies_within slice_index (stood (closing s) ord s.boards first cs at.index) (pair_cell s.boards at.index)
    pub table : Table s.boards u
    pub inside : Inside u first
    pub closes : Largest s u (stood (closing s) ord s.boards first cs at.index)

  abbrev pub due : List ℕ → List ℕ → Next → Type 0
  due cs u (Try at) = Due cs u at
  due cs u Found = Unit {0}
  due cs u Spent = Unit {0}
