-- The lines that fill a section's words, over what reads a line, and of kind lines and relation lines. Assumes nothing.
use Rattle.std.specs.Prelude.{◌≡◌, List, ℕ}
use Rattle.rules.specs.Descriptions.{RelationLine, KindLine, Reading, Front, good, relation_line, kind_line, section, OneArity}

module _ {X : Type 0} (line : List ℕ → Reading (Front X)) (count : ℕ) (ws : List ℕ) where
  -- these lines, as many as count says, fill the words
  abbrev pub Fill : List X → Type 0
  Fill xs = section line count ws ≡ good xs

  -- some lines fill the words
  abbrev pub SomeFill : Type 0
  SomeFill = (xs : List X) × Fill xs

  -- P holds of the lines that fill the words
  abbrev pub WithFill : (List X → Type 0) → Type 0
  WithFill P = (xs : List X) → Fill xs → P xs

-- kind lines for boards below v
abbrev pub Kinds : ℕ → ℕ → List ℕ → List KindLine → Type 0
Kinds v = Fill (kind_line v)

abbrev pub HasKinds : ℕ → ℕ → List ℕ → Type 0
HasKinds v = SomeFill (kind_line v)

abbrev pub WithKinds : ℕ → ℕ → List ℕ → (List KindLine → Type 0) → Type 0
WithKinds v = WithFill (kind_line v)

-- such lines fill the words, and those of one code have as many ways
abbrev pub HasAgreed : ℕ → ℕ → List ℕ → Type 0
HasAgreed v count ws = HasKinds v count ws × WithKinds v count ws OneArity

-- relation lines for boards below v
abbrev pub HasLines : ℕ → ℕ → List ℕ → Type 0
HasLines v = SomeFill (relation_line v)

abbrev pub WithLines : ℕ → ℕ → List ℕ → (List RelationLine → Type 0) → Type 0
WithLines v = WithFill (relation_line v)
