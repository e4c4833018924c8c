-- The words that a typed line makes are a line: two words, a length and as many words as that says. Assumes nothing.
use mathlib.Core.Path.{◌≡◌, subst}
use mathlib.Core.List.{List, ◌∷◌}
use Prim.Native.Nat.{ℕ}
use Rattle.rules.specs.Expressions.{written}
use Rattle.typed.specs.Symbols.{Symbol}
use Rattle.typed.specs.Grammar.{RelationTyped, relation, KindTyped, kind}
use Rattle.typed.specs.Scanning.{prefixed}
use Rattle.typed.specs.Sheets.{relation_words, kind_words, line_of}
use Rattle.phrases.proofs.Prefixed.{prefixed_length}
use Rattle.meanings.proofs.Lines.{Made, relation_scanned, made_line, made_kind}
use Rattle.returns.proofs.Sections.{IsLine, line}

-- by the grammar, of a relation line and of a kind line
pub relation_typed_line : {ss : List Symbol} {w : List ℕ} → RelationTyped ss w → IsLine w
relation_typed_line (relation {e} p q d) = line p q (written e)

pub kind_typed_line : {ss : List Symbol} {w : List ℕ} → KindTyped ss w → IsLine w
kind_typed_line (kind p c ys) = line p c ys

-- and by the function, whatever the symbols are
pub relation_made_line : (ss : List Symbol) (w : List ℕ) → line_of ss ≡ relation_words w → IsLine w
relation_made_line ss w e = go (subst (Made ss) e (made_line ss))
  where
    go : {ss : List Symbol} {w : List ℕ} → Made ss (relation_words w) → IsLine w
    go (relation_scanned p q xs r) = subst (λ (n : ℕ). IsLine (p ∷ q ∷ n ∷ prefixed xs)) (prefixed_length xs) (line p q (prefixed xs))

pub kind_made_line : (ss : List Symbol) (w : List ℕ) → line_of ss ≡ kind_words w → IsLine w
kind_made_line ss w e = kind_typed_line (made_kind ss w e)
