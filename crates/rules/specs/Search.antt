-- The search (01, 'The search'), over any closing and any order of relations; the order of arrangements; the budget.
-- Assumes nothing.
use Rattle.std.specs.Prelude.{◌≡◌, Bool, true, false, not, ◌&&◌, ◌⊎◌, ℕ, suc, ◌+◌, ◌*◌, ◌^◌, ◌<◌, T, nat_le, nat_lt, nat_eq, slice_index, set}
use mathlib.Core.List.{List, [], ◌∷◌, flat_map, Memᴰ}
use Rattle.rules.specs.Relations.{each_of, relations, same, above, below, side, has, size}
use Rattle.rules.specs.Descriptions.{Sheet}
use Rattle.rules.specs.Tables.{Inside, emptied, up_to}
use Rattle.rules.specs.Arrangements.{Arrangement}

-- the order E, A, B, S
abbrev pub plain_order : List ℕ
plain_order = same ∷ above ∷ below ∷ side ∷ []

-- the numbers are all different
abbrev pub distinct : List ℕ → Bool
distinct [] = true
distinct (r ∷ rs) = each_of (λ x. not (nat_eq r x)) rs && distinct rs

-- an order of relations has nothing else, and each once
pub record Order (ord : List ℕ) : Type 0 where
  pub only : T (each_of (λ r. nat_lt r relations) ord)
  pub each : (r : ℕ) → r < relations → Memᴰ r ord
  pub once : T (distinct ord)

-- how a search ends: with an arrangement or with none, and the tries made
pub data End : Type 0 where
  found : ℕ → List ℕ → End
  none : ℕ → End

-- the same end, n tries later
abbrev pub later : ℕ → End → End
later n (found m t) = found (n + m) t
later n (none m) = none (n + m)

-- what follows a closing: a contradiction means none
abbrev pub proceed : (List ℕ → End) → List ℕ → End
proceed go u = elim (emptied u) [ true ↦ none 0 | false ↦ go u ]

-- a try, and what follows if it fails
abbrev pub or_else : End → End → End
or_else (found n w) rest = found (suc n) w
or_else (none n) rest = later (suc n) rest

module _ (clo : List ℕ → List ℕ) where
  -- Try the relations of cell k in the order given: a try narrows the cell to one relation and closes. If this is contradictory or all below
  -- it fails, go to the next relation.
  unfoldable pub attempt : (List ℕ → End) → ℕ → List ℕ → List ℕ → End
  attempt go k t [] = none 0
  attempt go k t (r ∷ rs) =
      let rest = attempt go k t rs in elim (has (slice_index t k) r) [ true ↦ or_else (proceed go (clo (set t k (2 ^ r)))) rest | false ↦ rest ]

  -- Take the first of these places whose cell has several relations; if every cell is single, that is the arrangement. The places before are
  -- single already, and stay so.
  unfoldable pub choose : List ℕ → List ℕ → List ℕ → End
  choose ord [] t = found 0 t
  choose ord (k ∷ ks) t =
      elim (nat_lt 1 (size (slice_index t k))) [ true ↦ attempt (λ u. choose ord ks u) k t ord | false ↦ choose ord ks t ]

-- the cells (p, q) with p < q, by p and then q
unfoldable pub places : ℕ → List ℕ
places v = flat_map (λ p. flat_map (λ q. elim (nat_lt p q) [ true ↦ (v * p + q) ∷ [] | false ↦ [] ]) (up_to v)) (up_to v)

-- The search: close the table, and choose.
unfoldable pub search : (List ℕ → List ℕ) → List ℕ → ℕ → List ℕ → End
search clo ord v t = proceed (λ u. choose clo ord (places v) u) (clo t)

-- the place of a single relation in the order
unfoldable pub rank : List ℕ → ℕ → ℕ
rank [] x = 0
rank (r ∷ rs) x = elim (has x r) [ true ↦ 0 | false ↦ suc (rank rs x) ]

-- t comes before u in the order of these cells
unfoldable pub Before : List ℕ → List ℕ → List ℕ → List ℕ → Type 0
Before ord [] t u = ⊥
Before ord (k ∷ ks) t u =
    (rank ord (slice_index t k) < rank ord (slice_index u k)) ⊎ ((slice_index t k ≡ slice_index u k) × Before ord ks t u)

-- w is the first arrangement inside t
pub record Least (s : Sheet) (ord t w : List ℕ) : Type 0 where
  pub arrangement : Arrangement s w
  pub inside : Inside w t
  pub least : (u : List ℕ) → Arrangement s u → Inside u t → (w ≡ u) ⊎ Before ord (places s.boards) w u

-- there is no arrangement inside t
abbrev pub Nowhere : Sheet → List ℕ → Type 0
Nowhere s t = (u : List ℕ) → Arrangement s u → Inside u t → ⊥

-- what a budget leaves of a search: it runs out exactly if more tries are made than the budget before the end
pub data Capped : Type 0 where
  ended : End → Capped
  ran_out : ℕ → Capped

abbrev pub tries : End → ℕ
tries (found n t) = n
tries (none n) = n

unfoldable pub cap : ℕ → End → Capped
cap b e = elim (nat_le (tries e) b) [ true ↦ ended e | false ↦ ran_out b ]
