-- Visits to the rules of kind lines: what they are given, what is to be kept, and what they see to. Assumes nothing.
use Rattle.std.specs.Prelude.{Result, List, ◌++◌, ℕ}
use Rattle.rules.specs.Descriptions.{KindLine}
use Rattle.rules.specs.Closing.{Rule, rules2}
use Rattle.passes.specs.Passes.{Idles}
use Rattle.kinds.specs.Sections.{WithKinds}
use Rattle.by_board.specs.declared.KindLines.{KindLines}
use Rattle.by_board.specs.Found.{Listed}
use Rattle.moves.specs.declared.Emptied.{Emptied}
use Rattle.moves.specs.Moves.{Marks, Mutual, Went}

-- a table with its list of pairs, and the kind lines with their index
pub record Site (v count : ℕ) (ws xs t m : List ℕ) : Type 0 where
  pub table : Mutual v t
  pub list : Marks v m
  pub listed : Listed v count ws xs

-- a table with its list of pairs, at kind lines as code has them
abbrev pub SiteOf : KindLines → List ℕ → List ℕ → Type 0
SiteOf l t m = Site l.boards l.count l.words.now l.index.now t m

-- rule 2, and these rules of the kind lines ks, strike nothing
abbrev pub Keeping : (ℕ → List KindLine → List Rule) → ℕ → List KindLine → List ℕ → Type 0
Keeping rules v ks = Idles v (rules2 v ++ rules v ks)

-- Work that tells whether it was left at an empty cell, and loses no table of which C of the kind lines in the words holds; P of these lines holds of what it makes.
abbrev pub Visited : (List KindLine → List ℕ → Type 0) → ℕ → ℕ → List ℕ → (List KindLine → List ℕ → List ℕ → Type 0)
    → List ℕ → List ℕ → List ℕ → List ℕ → Result (Unit {0}) Emptied → Type 0
Visited C v count ws P t m w n r = WithKinds v count ws (λ ks. Went (C ks) v (P ks) t m w n r)

-- the same, at kind lines as code has them
abbrev pub VisitedOf : (ℕ → List KindLine → List Rule) → KindLines → (List KindLine → List ℕ → List ℕ → Type 0) → List ℕ → List ℕ → List ℕ → List ℕ
    → Result (Unit {0}) Emptied → Type 0
VisitedOf rules l P t m w n r = Visited (Keeping rules l.boards) l.boards l.count l.words.now P t m w n r
