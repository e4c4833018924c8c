-- Tables of sets (01, 'An arrangement' and 'Closed tables'): V times V cells, cell (p, q) at V times p plus q.
-- Assumes nothing.
use Rattle.std.specs.Prelude.{◌≡◌, Bool, List, [], ◌∷◌, ℕ, zero, suc, ◌+◌, ◌*◌, ◌<◌, nat_eq, length, slice_index, set, replicate}
use Rattle.rules.specs.Relations.{some_of, set_limit, full, meet, ◌lies_within◌, size}
use Rattle.rules.specs.Descriptions.{Sheet}

-- cell (p, q) of a table of v boards
abbrev pub cell : ℕ → List ℕ → ℕ → ℕ → ℕ
cell v t p q = slice_index t (v * p + q)

-- cell (p, q) of a description's table
abbrev pub at : Sheet → List ℕ → ℕ → ℕ → ℕ
at s t p q = cell s.boards t p q

-- a well-formed table: it has V times V cells, each a set
pub record Table (v : ℕ) (t : List ℕ) : Type 0 where
  pub cells : length t ≡ v * v
  pub small : (k : ℕ) → slice_index t k < set_limit

-- the full table of v boards: nothing is known of it
abbrev pub filled : ℕ → List ℕ
filled v = replicate (v * v) full

-- the table t with its cell k narrowed to what the set b has too
abbrev pub narrowed : List ℕ → ℕ → ℕ → List ℕ
narrowed t k b = let c = meet (slice_index t k) b in set t k c

-- the table u is inside the table t: each cell of u lies within t's
pub record Inside (u t : List ℕ) : Type 0 where
  pub cells : length u ≡ length t
  pub each : (k : ℕ) → slice_index u k lies_within slice_index t k

-- some cell is empty
unfoldable pub emptied : List ℕ → Bool
emptied t = some_of (λ x. nat_eq x 0) t

-- the number of relations in all cells together
unfoldable pub total : List ℕ → ℕ
total [] = 0
total (x ∷ xs) = size x + total xs

-- the numbers from i on, n of them
abbrev pub range : ℕ → ℕ → List ℕ
range i zero = []
range i (suc n) = i ∷ range (suc i) n

-- the numbers below n, rising
abbrev pub up_to : ℕ → List ℕ
up_to n = range 0 n
