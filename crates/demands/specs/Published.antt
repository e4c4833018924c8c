-- The published description that words write, and that it is the only one. Assumes nothing.
use Rattle.std.specs.Prelude.{◌≡◌, List, ℕ}
use Rattle.rules.specs.Descriptions.{Sheet, OneArity}
use Rattle.clauses.specs.Clauses.{Description, sheet, Writes}

-- The words write φ and no other description, no other words write it, it means the sheet s, and a symbol that labels boards in it has one arity.
pub record WriteOnly (ws : List ℕ) (s : Sheet) (φ : Description) : Type 0 where
  pub writes : Writes ws φ
  pub one : (ψ : Description) → Writes ws ψ → ψ ≡ φ
  pub run : (us : List ℕ) → Writes us φ → us ≡ ws
  pub means : sheet φ ≡ s
  pub arity : OneArity φ.labels

-- The words write a description, and P holds of whichever they write.
abbrev pub OfPublished : List ℕ → Sheet → (Description → Type 0) → Type 0
OfPublished ws s P = ((φ : Description) × WriteOnly ws s φ) × ((φ : Description) → Writes ws φ → WriteOnly ws s φ × P φ)
