-- The largest closed table, computed: every rule in turn, over and over, until none strikes anything.
-- Assumes nothing.
use Rattle.std.specs.Prelude.{Bool, true, false, not, ◌&&◌, ◌||◌, ℕ, zero, suc, ◌+◌, ◌*◌, nat_eq}
use mathlib.Core.List.{List, [], ◌∷◌, ◌++◌, flat_map}
use Rattle.rules.specs.Relations.{some_below, each_below, same, above, E, A, S, has, full, join, complement, ◌lies_within◌, within, converse, compose}
use Rattle.rules.specs.Descriptions.{RelationLine, KindLine, Sheet}
use Rattle.rules.specs.Tables.{cell, narrowed, total, up_to}
use Rattle.rules.specs.Arrangements.{way, width}

-- the set m, or all relations where the test passes
abbrev pub unless : Bool → ℕ → ℕ
unless true m = full
unless false m = m

-- at or above: the set has E or A
unfoldable pub reaches : ℕ → Bool
reaches x = has x same || has x above

-- code and number of ways agree
unfoldable pub agree : KindLine → KindLine → Bool
agree k l = nat_eq k.code l.code && nat_eq (width k) (width l)

-- What rules 6 and 7 leave a cell, for the table t of v boards:
module _ (v : ℕ) (t : List ℕ) where
  -- (p, z) lacks A, unless some (yi, z) has E or A
  unfoldable pub bound6 : KindLine → ℕ → ℕ
  bound6 k z = unless (some_below (width k) (λ i. reaches (cell v t (way k i) z))) (complement A)

  -- (yi, z) lies within {E, A}, unless (p, z) has something else than A or another way has E or A towards z
  unfoldable pub bound6' : KindLine → ℕ → ℕ → ℕ
  bound6' k i z =
      unless
      (not (within (cell v t k.p z) A) || some_below (width k) (λ j. not (nat_eq i j) && reaches (cell v t (way k j) z)))
      (join E A)

  -- (p, q) lacks E, unless code and number of ways agree and each pair of ways in the same position has E
  unfoldable pub bound7 : KindLine → KindLine → ℕ
  bound7 k l = unless (agree k l && each_below (width k) (λ i. has (cell v t (way k i) (way l i)) same)) (complement E)

  -- a pair of ways in the same position lies within {E}, unless (p, q) has something else than E
  unfoldable pub bound7' : KindLine → KindLine → ℕ
  bound7' k l = unless (not (within (cell v t k.p l.p) E)) E

-- A rule asks that a cell lie within a bound, which it computes from the table, and strikes what does not.
pub record Rule : Type 0 where
  pub row : ℕ
  pub column : ℕ
  pub bound : List ℕ → ℕ

-- the rule strikes nothing
abbrev pub Idle : ℕ → List ℕ → Rule → Type 0
Idle v t r = cell v t r.row r.column lies_within r.bound t

-- the rule that (p, q) lie within b
abbrev pub lies : ℕ → ℕ → (List ℕ → ℕ) → List Rule
lies p q b = record { row = p; column = q; bound = b } ∷ []

-- these rules, if the test passes
abbrev pub only : Bool → List Rule → List Rule
only true rs = rs
only false rs = []

-- for each board, for each way
abbrev pub boards_of : ℕ → (ℕ → List Rule) → List Rule
boards_of v f = flat_map f (up_to v)

abbrev pub ways_of : KindLine → (ℕ → List Rule) → List Rule
ways_of k f = flat_map f (up_to (width k))

-- The rules of a closed table of v boards, in their order.
-- Rule 1, rule 2 and rule 3.
unfoldable pub rules1 : ℕ → List Rule
rules1 v = boards_of v (λ p. lies p p (λ t. E))

unfoldable pub rules2 : ℕ → List Rule
rules2 v = boards_of v (λ p. boards_of v (λ q. lies q p (λ t. converse (cell v t p q))))

unfoldable pub rules3 : ℕ → List Rule
rules3 v =
    boards_of v (λ p. boards_of v (λ q. boards_of v (λ r.
    lies p r (λ t. compose (cell v t p q) (cell v t q r)))))

-- Rule 4 for a relation line, and rule 5 for a kind line.
abbrev pub rule4 : RelationLine → List Rule
rule4 l = lies l.p l.q (λ t. l.allowed)

abbrev pub rule5 : KindLine → List Rule
rule5 k =
    ways_of k (λ i. lies k.p (way k i) (λ t. A) ++ ways_of k (λ j. only (not (nat_eq i j)) (lies (way k i) (way k j) (λ t. S))))

-- Rule 6 for a kind line and a board, and rule 7 for two kind lines.
abbrev pub rule6 : ℕ → KindLine → ℕ → List Rule
rule6 v k z = lies k.p z (λ t. bound6 v t k z) ++ ways_of k (λ i. lies (way k i) z (λ t. bound6' v t k i z))

abbrev pub rule7 : ℕ → KindLine → KindLine → List Rule
rule7 v k l =
    lies k.p l.p (λ t. bound7 v t k l)
    ++ only (agree k l) (ways_of k (λ i. lies (way k i) (way l i) (λ t. bound7' v t k l)))

-- And for each line, each board and each two kind lines.
unfoldable pub rules4 : List RelationLine → List Rule
rules4 ls = flat_map rule4 ls

unfoldable pub rules5 : List KindLine → List Rule
rules5 ks = flat_map rule5 ks

unfoldable pub rules6 : ℕ → List KindLine → List Rule
rules6 v ks = flat_map (λ k. boards_of v (rule6 v k)) ks

unfoldable pub rules7 : ℕ → List KindLine → List Rule
rules7 v ks = flat_map (λ k. flat_map (rule7 v k) ks) ks

unfoldable pub rules : Sheet → List Rule
rules s =
    let v = s.boards in
    rules1 v ++ (rules2 v ++ (rules3 v ++ (rules4 s.lines ++ (rules5 s.kinds ++ (rules6 v s.kinds ++ rules7 v s.kinds)))))

-- one rule narrows its cell
unfoldable pub strike : ℕ → Rule → List ℕ → List ℕ
strike v r t = narrowed t (v * r.row + r.column) (r.bound t)

-- each rule in turn
unfoldable pub sweep : ℕ → List Rule → List ℕ → List ℕ
sweep v [] t = t
sweep v (r ∷ rs) t = sweep v rs (strike v r t)

-- sweeps until nothing is struck, at most n
unfoldable pub sweeps : ℕ → ℕ → List Rule → List ℕ → List ℕ
sweeps zero v rs t = t
sweeps (suc n) v rs t = let u = sweep v rs t in elim (nat_eq (total u) (total t)) [ true ↦ t | false ↦ sweeps n v rs u ]

-- the largest closed table inside t: each sweep but the last strikes something
unfoldable pub closing : Sheet → List ℕ → List ℕ
closing s t = sweeps (suc (total t)) s.boards (rules s) t
