-- Closing in stages (demand 3): a list of descriptions, one after the other.
-- Assumes nothing.
use Rattle.std.specs.Prelude.{◌≡◌, Bool, true, false, ◌||◌, ℕ}
use mathlib.Core.List.{List, [], ◌∷◌, Memᴰ}
use Rattle.rules.specs.Descriptions.{RelationLine, KindLine, Sheet}
use Rattle.rules.specs.Tables.{emptied}
use Rattle.rules.specs.Closed.{Largest}

-- the same boards, and each line of s is one of w, in any order
pub record Among (s w : Sheet) : Type 0 where
  pub boards : s.boards ≡ w.boards
  pub lines : (l : RelationLine) → Memᴰ l s.lines → Memᴰ l w.lines
  pub kinds : (k : KindLine) → Memᴰ k s.kinds → Memᴰ k w.kinds

-- what a closing leaves: the table as it came where the largest one u is contradictory, else u
abbrev pub left : Bool → List ℕ → List ℕ → List ℕ
left true t u = t
left false t u = u

-- closing under each description in turn takes t to w; c says whether some stage was contradictory
unfoldable pub Run : List Sheet → List ℕ → List ℕ → Bool → Type 0
Run [] t w c = (w ≡ t) × (c ≡ false)
Run (s ∷ ss) t w c =
    (u : List ℕ) × (d : Bool) × Largest s t u × Run ss (left (emptied u) t u) w d × (c ≡ (emptied u || d))

-- each of them is among w, and the last has all lines of w
unfoldable pub Stages : Sheet → List Sheet → Type 0
Stages w [] = ⊥
Stages w (s ∷ []) = Among s w × Among w s
Stages w (s ∷ u ∷ ss) = Among s w × Stages w (u ∷ ss)
