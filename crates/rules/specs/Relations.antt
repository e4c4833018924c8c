-- Relations between two boards, and sets of them (01, 'Relations'): everything goes by membership, over the number of relations.
-- Assumes nothing.
use Rattle.std.specs.Prelude.{Bool, true, false, not, ◌&&◌, ◌||◌, List, [], ◌∷◌, ℕ, zero, suc, ◌+◌, ◌*◌, ◌/◌, ◌%◌, ◌^◌, ◌<◌, T, nat_eq, slice_index, slice_index_or}

-- f passes at some element, at each element of a list
module _ {X : Type 0} (f : X → Bool) where
  abbrev pub some_of : List X → Bool
  some_of [] = false
  some_of (x ∷ xs) = elim (f x) [ true ↦ true | false ↦ some_of xs ]

  abbrev pub each_of : List X → Bool
  each_of [] = true
  each_of (x ∷ xs) = elim (f x) [ true ↦ each_of xs | false ↦ false ]

-- f passes at some number below n
abbrev pub some_below : ℕ → (ℕ → Bool) → Bool
some_below zero f = false
some_below (suc n) f = elim (f n) [ true ↦ true | false ↦ some_below n f ]

-- f passes at each number below n
abbrev pub each_below : ℕ → (ℕ → Bool) → Bool
each_below zero f = true
each_below (suc n) f = elim (f n) [ true ↦ each_below n f | false ↦ false ]

-- at how many numbers below n f passes
abbrev pub count_below : ℕ → (ℕ → Bool) → ℕ
count_below zero f = 0
count_below (suc n) f = elim (f n) [ true ↦ suc (count_below n f) | false ↦ count_below n f ]

-- For boards p and q exactly one of these holds: E (same board), A (p strictly above q), B (p strictly below q), S (side: neither same, above nor
-- below). A relation is a number below this one.
unfoldable pub relations : ℕ
relations = 4

abbrev pub same : ℕ
same = 0

abbrev pub above : ℕ
above = 1

abbrev pub below : ℕ
below = 2

abbrev pub side : ℕ
side = 3

-- Sets of relations are numbers below this one: E = 1, A = 2, B = 4, S = 8, added. So digit r says whether relation r is a member.
abbrev pub set_limit : ℕ
set_limit = 2 ^ relations

-- the sets of one relation
abbrev pub E : ℕ
E = 1

abbrev pub A : ℕ
A = 2

abbrev pub B : ℕ
B = 4

abbrev pub S : ℕ
S = 8

-- relation r is a member of the set x
unfoldable pub has : ℕ → ℕ → Bool
has x zero = nat_eq (x % 2) 1
has x (suc r) = has (x / 2) r

-- relation r is no member of x
abbrev pub Lacks : ℕ → ℕ → Type 0
Lacks x r = T (not (has x r))

-- a test as a binary digit
abbrev pub digit : Bool → ℕ
digit true = 1
digit false = 0

-- the set of the relations below n at which f passes
unfoldable pub set_to : ℕ → (ℕ → Bool) → ℕ
set_to zero f = 0
set_to (suc n) f = digit (f 0) + 2 * set_to n (λ r. f (suc r))

-- the set of the relations at which f passes
unfoldable pub set_of : (ℕ → Bool) → ℕ
set_of f = set_to relations f

-- all relations: 15
unfoldable pub full : ℕ
full = set_of (λ r. true)

-- the relations of x that y has too, those of either, and those that x lacks
unfoldable pub meet : ℕ → ℕ → ℕ
meet x y = set_of (λ r. has x r && has y r)

unfoldable pub join : ℕ → ℕ → ℕ
join x y = set_of (λ r. has x r || has y r)

unfoldable pub complement : ℕ → ℕ
complement x = set_of (λ r. not (has x r))

-- x lies within y: each member of x is one of y. It is true of the empty set. And the same as a test.
infix 40 ◌lies_within◌
pub record ◌lies_within◌ (x y : ℕ) : Type 0 where
  pub member : (r : ℕ) → r < relations → T (has x r) → T (has y r)

unfoldable pub within : ℕ → ℕ → Bool
within x y = each_below relations (λ r. not (has x r) || has y r)

-- the number of members of x
unfoldable pub size : ℕ → ℕ
size x = count_below relations (has x)

-- relation r the other way round: the converse exchanges A with B
unfoldable pub opposite : ℕ → ℕ
opposite r = slice_index (same ∷ below ∷ above ∷ side ∷ []) r

unfoldable pub converse : ℕ → ℕ
converse x = set_of (λ r. has x (opposite r))

-- The sixteen compositions of single relations: what p to r may be, given p to q (row) and q to r (column).
unfoldable pub singles : List (List ℕ)
singles =
    -- with E, A, B, S: E
    (1 ∷ 2 ∷ 4 ∷ 8 ∷ [])
    -- A
    ∷ (2 ∷ 2 ∷ 7 ∷ 10 ∷ [])
    -- B
    ∷ (4 ∷ 15 ∷ 4 ∷ 8 ∷ [])
    -- S
    ∷ (8 ∷ 8 ∷ 12 ∷ 15 ∷ [])
    ∷ []

unfoldable pub composed : ℕ → ℕ → ℕ
composed r s = slice_index (slice_index_or singles r []) s

-- Two sets compose to the union over all pairs of members.
unfoldable pub compose : ℕ → ℕ → ℕ
compose x y = set_of (λ t. some_below relations (λ r. has x r && some_below relations (λ s. has y s && has (composed r s) t)))
