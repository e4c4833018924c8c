-- What rule 7 sees to, of many kind lines by their numbers. Assumes nothing.
use Rattle.std.specs.Prelude.{◌≡◌, ℕ, ◌<◌, T}
use mathlib.Core.List.{List, Memᴰ}
use Rattle.rules.specs.Relations.{has}
use Rattle.rules.specs.Descriptions.{most_ways, KindLine}
use Rattle.kinds.specs.Sections.{WithKinds}
use Rattle.by_board.specs.Found.{numbered, with_way}
use Rattle.moves.specs.Watches.{apart}
use Rattle.moves.specs.Moves.{Tended, Matched}

-- rule 7 is seen to of line n beside each of a set, and of each of a set beside each of another
abbrev pub Beside : ℕ → List ℕ → ℕ → ℕ → List ℕ → List ℕ → Type 0
Beside v ws n others m t = (o : ℕ) → T (has others o) → Matched v (numbered ws n) (numbered ws o) m t

abbrev pub Each : ℕ → List ℕ → ℕ → ℕ → List ℕ → List ℕ → Type 0
Each v ws lines others m t = (n : ℕ) → T (has lines n) → Beside v ws n others m t

-- of the lines that the index xs has for a beside those that it has for b, as ways in place i and in every place
abbrev pub InPlace : ℕ → List ℕ → List ℕ → ℕ → ℕ → ℕ → List ℕ → List ℕ → Type 0
InPlace v ws xs a b i = Each v ws (with_way xs a i) (with_way xs b i)

abbrev pub ByWays : ℕ → List ℕ → List ℕ → ℕ → ℕ → List ℕ → List ℕ → Type 0
ByWays v ws xs a b m t = (i : ℕ) → i < most_ways → InPlace v ws xs a b i m t

-- two kind lines whose codes or numbers of ways differ are known to be apart
abbrev pub Parted : ℕ → ℕ → List ℕ → List ℕ → List ℕ → Type 0
Parted v count ws m t = WithKinds v count ws (λ ks. (k : KindLine) → Memᴰ k ks → (l : KindLine) → Memᴰ l ks → Tended v m t (apart v k l))

-- Rule 7 is seen to of two kind lines that no pair on the list would bring up: their codes differ, or they have one panel.
pub record Unlisted (v : ℕ) (k l : KindLine) (m t : List ℕ) : Type 0 where
  pub codes : (k.code ≡ l.code → ⊥) → Matched v k l m t
  pub panels : k.p ≡ l.p → Matched v k l m t

-- of line n beside each line, and of every two of the lines ks
abbrev pub FirstBeside : ℕ → ℕ → List ℕ → ℕ → List ℕ → List ℕ → Type 0
FirstBeside v count ws n m t = (o : ℕ) → o < count → Unlisted v (numbered ws n) (numbered ws o) m t

abbrev pub AtFirst : ℕ → List KindLine → List ℕ → List ℕ → Type 0
AtFirst v ks m t = (k : KindLine) → Memᴰ k ks → (l : KindLine) → Memᴰ l ks → Unlisted v k l m t
