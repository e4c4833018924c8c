-- A walk along relation lines: each line that code reads is one that the section means, and strikes its cell by its set. Assumes nothing.
use mathlib.Core.Path.{◌≡◌, refl, sym, ap, ◌∙◌, subst}
use mathlib.Core.List.{List, [], ◌∷◌}
use Prim.Native.Nat.{ℕ, ◌+◌, ◌*◌, ◌-◌, ◌≤◌, ◌<◌}
use native.Mathlib.Nat.{zero-add}
use lib.ListN.{length, get_or, take, drop}
use Rattle.rules.specs.Relations.{set_limit}
use Rattle.rules.specs.Expressions.{Value, value, malformed, expression}
use Rattle.rules.specs.Descriptions.{RelationLine, good, Front, meaning, relation_line}
use Rattle.rules.specs.Tables.{Table}
use Rattle.rules.specs.Closing.{Rule, rule4}
use Rattle.rules.proofs.Parts.{tail}
use Rattle.rules.proofs.Expressions.{expression_ends}
use Rattle.rules.proofs.Readings.{never}
use Rattle.rules.proofs.Lines.{relation_out, relation_suffix}
use Rattle.rules.proofs.Walks.{walk_next}
use Rattle.lines.specs.declared.RelationLine as declared_relation
use Rattle.lines.specs.Found.{GoodLine, relation_found, Finds}
use Rattle.passes.specs.Passes.{Narrowed, Ready, Once}
use Rattle.passes.proofs.Passes.{once_strike, ready_place}
use Rattle.kinds.specs.Sections.{HasLines, WithLines}
use Rattle.kinds.proofs.Passing.{Strikes, Striking, Along, along_next, line_met}

-- a relation line that code has read, as a description has it
abbrev pub ruling : declared_relation.RelationLine → RelationLine
ruling l = record { p = l.p; q = l.q; allowed = l.allowed }

-- a line that is read names boards and a set
pub record Ruled (v : ℕ) (l : RelationLine) : Type 0 where
  pub p_board : l.p < v
  pub q_board : l.q < v
  pub small : l.allowed < set_limit

-- an expression that means something means a set
means_set : (n : ℕ) (us : List ℕ) (x : ℕ) → meaning n (expression us) ≡ good x → x < set_limit
means_set n us x m = go (expression us) refl m
  where
    go : (e : Value) → expression us ≡ e → meaning n e ≡ good x → x < set_limit
    go (value y []) p q = let s : y < set_limit = (expression_ends us y [] p).small in subst (λ (n : ℕ). n < set_limit) (cc) s
    go (value y (w ∷ ws)) p q = never 5 (n - length (w ∷ ws)) x q
    go (malformed ws) p q = never 5 (n - length ws) x q

line_ruled : (v : ℕ) (us : List ℕ) (f : Front RelationLine) → relation_line v us ≡ good f → Ruled v f.line
line_ruled v us f e =
    let r = relation_out v us f e in
    subst (λ (g : Front RelationLine). Ruled v g.line) r.front
    (record { p_board = r.passed.p_board; q_board = r.passed.q_board; small = means_set (get_or us 2 0) (take (get_or us 2 0) (drop 3 us)) r.allowed r.means })

module _ {v : ℕ} {R : Strikes} (s : Striking v R) {f : List RelationLine → RelationLine → List Rule} {count : ℕ} {ws t : List ℕ} {a : ℕ}
    {u : List ℕ} {b at left : ℕ} (along : Along R f (relation_line v) count ws t a u b at left) (has : HasLines v count ws) (more : 0 < left) where
  -- the line that is met, and the part of the words that is lent for it
  met : (g : Front RelationLine) × (relation_line v (drop at ws) ≡ good g)
  met = line_met (relation_line v) count ws has along.walk more

  lent_good : relation_line v (take (length ws - at) (drop at ws)) ≡ good met.0
  lent_good = ap (relation_line v) (tail at ws) ∙ met.1

  pub relation_good : GoodLine (take (length ws - at) (drop at ws))
  relation_good = (v, met.0, lent_good)

  -- that line, as code has found it
  module _ {l : declared_relation.RelationLine} (found : Finds (take (length ws - at) (drop at ws)) l) where
    is : l ≡ relation_found met.0
    is = found v met.0 lent_good

    pub relation_ruled : Ruled v (ruling l)
    relation_ruled = subst (λ (l : declared_relation.RelationLine). Ruled v (ruling l)) (sym is) (line_ruled v (drop at ws) met.0 met.1)

    pub relation_room : l.rest ≤ length ws
    relation_room =
        subst (λ (l : declared_relation.RelationLine). l.rest ≤ length ws) (sym is)
        (walk_next (relation_line v) count ws along.walk met.0 more met.1 (relation_suffix v (drop at ws) met.0 met.1)).0

    pub relation_next_lem : Table v t → {w : List ℕ} {n : ℕ} → WithLines v count ws (λ ls. R (f ls (ruling l)) u 0 w n)
        → Along R f (relation_line v) count ws t a w (b + n) (length ws - l.rest) (left - 1)
    relation_next_lem h {w} {n} r =
        subst (λ (l : declared_relation.RelationLine). Along R f (relation_line v) count ws t a w (b + n) (length ws - l.rest) (left - 1)) (sym is)
        (along_next s along h met.0 more met.1 (relation_suffix v (drop at ws) met.0 met.1)
        (λ ls p. subst (λ (l : declared_relation.RelationLine). R (f ls (ruling l)) u 0 w n) is (r ls p)))

-- a strike of the line's cell by its set
pub rule_strike : {v : ℕ} {t u : List ℕ} {l : RelationLine} {n : ℕ} → Ready v t → Ruled v l → Narrowed t (v * l.p + l.q) l.allowed u n
    → Once v (rule4 l) t 0 u n
rule_strike {v} {t} {u} {l} {n} ready ruled m =
    subst (λ (k : ℕ). Once v (rule4 l) t 0 u k) (zero-add n)
    (once_strike l.p l.q l.allowed ready.table (ready_place ready ruled.p_board ruled.q_board) m)
