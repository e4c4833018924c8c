-- The words of every good description write a description as it is published, which means what the words mean. Assumes nothing.
use mathlib.Core.Path.{◌≡◌, refl, sym, ap, ap₂, ◌∙◌, subst}
use mathlib.Core.List.{List, [], ◌∷◌, ◌++◌, map, flatten, map-id}
use Prim.Native.Nat.{ℕ, zero, suc, ◌+◌, ◌-◌, ◌≤◌}
use native.Mathlib.Omega.{arith}
use lib.ListN.{length, get_or, take, drop, take-append-drop, length-drop}
use lib.Seq.{length-take-le, drop-cons, drop-drop}
use Rattle.rules.specs.Expressions.{Value, value, malformed, expression, written}
use Rattle.rules.specs.Descriptions.{RelationLine, KindLine, Sheet, Reading, good, Front, meaning, relation_line, kind_line, section, relation_lines, kind_lines, read, describe}
use Rattle.rules.proofs.Expressions.{expression_written}
use Rattle.rules.proofs.Readings.{never, later_out, section_first}
use Rattle.rules.proofs.Headers.{InRange, Placed}
use Rattle.rules.proofs.Descriptions.{read_out}
use Rattle.rules.proofs.Lines.{RelationRead, relation_out, KindRead, kind_out, ways_length}
use Rattle.clauses.specs.Clauses.{Description, line, sheet, formula_words, label_words, Writes}

-- ---- a line

-- y is written by the front of the words, and means the line
record Fronted {X Y : Type 0} (words : Y → List ℕ) (means : Y → X) (ws : List ℕ) (f : Front X) : Type 0 where
  written : Y
  spelt : ws ≡ words written ++ f.rest
  meant : means written ≡ f.line

-- a good meaning is that of an expression with no word after it
whole : (n : ℕ) (v : Value) (x : ℕ) → meaning n v ≡ good x → v ≡ value x []
whole n (value y []) x e = ap (λ (z : ℕ). value z []) (cc)
whole n (value y (w ∷ ws)) x e = never 5 (n - length (w ∷ ws)) x e
whole n (malformed ws) x e = never 5 (n - length ws) x e

relation_written : (v : ℕ) (ws : List ℕ) (f : Front RelationLine) → relation_line v ws ≡ good f → Fronted formula_words line ws f
relation_written v ws f e = go ws (relation_out v ws f e)
  where
    go : (ws : List ℕ) → RelationRead v ws f → Fronted formula_words line ws f
    go [] r = let z : ⊥ = omega (arith, r.passed.fits.three) in absurd z
    go (p ∷ []) r = let z : ⊥ = omega (arith, r.passed.fits.three) in absurd z
    go (p ∷ q ∷ []) r = let z : ⊥ = omega (arith, r.passed.fits.three) in absurd z
    go (p ∷ q ∷ n ∷ ws) r =
        let x = expression_written (take n ws) r.allowed (whole n (expression (take n ws)) r.allowed r.means) in
        let l : length (written x.0) ≡ n = ap length x.1 ∙ length-take-le n ws (omega (arith, r.passed.fits.room)) in
        subst (Fronted formula_words line (p ∷ q ∷ n ∷ ws)) r.front
        (record {
          written = record { x = p; relation = x.0; y = q };
          spelt = ap₂ (λ (m : ℕ) (us : List ℕ). p ∷ q ∷ m ∷ us) (sym l)
              (sym (take-append-drop n ws) ∙ ap (λ (us : List ℕ). us ++ drop n ws) (sym x.1));
          meant = ap (λ (a : ℕ). record { p = p; q = q; allowed = a }) x.2;
        })

kind_written : (v : ℕ) (ws : List ℕ) (f : Front KindLine) → kind_line v ws ≡ good f → Fronted label_words (λ k. k) ws f
kind_written v ws f e = go ws (kind_out v ws f e)
  where
    go : (ws : List ℕ) → KindRead v ws f → Fronted label_words (λ k. k) ws f
    go [] r = let z : ⊥ = omega (arith, r.passed.fits.three) in absurd z
    go (p ∷ []) r = let z : ⊥ = omega (arith, r.passed.fits.three) in absurd z
    go (p ∷ q ∷ []) r = let z : ⊥ = omega (arith, r.passed.fits.three) in absurd z
    go (p ∷ q ∷ n ∷ ws) r =
        subst (Fronted label_words (λ k. k) (p ∷ q ∷ n ∷ ws)) r.front
        (record {
          written = record { p = p; code = q; ways = take n ws };
          spelt = ap₂ (λ (m : ℕ) (us : List ℕ). p ∷ q ∷ m ∷ us)
              (sym (ways_length v (p ∷ q ∷ n ∷ ws) r.passed.fits)) (sym (take-append-drop n ws));
          meant = refl;
        })

-- ---- a section

module _ {X Y : Type 0} (words : Y → List ℕ) (means : Y → X) where
  -- what the words of a section of n lines write, a line each
  record Filled (n : ℕ) (ws : List ℕ) (xs : List X) : Type 0 where
    written : List Y
    counted : length (map words written) ≡ n
    spelt : ws ≡ flatten (map words written)
    meant : map means written ≡ xs

  section_written : (line : List ℕ → Reading (Front X)) → ((ws : List ℕ) (f : Front X) → line ws ≡ good f → Fronted words means ws f)
      → (n : ℕ) (ws : List ℕ) (xs : List X) → section line n ws ≡ good xs → Filled n ws xs
  unfolding section flatten
  section_written line h zero [] xs e = record { written = []; counted = refl; spelt = refl; meant = cc }
  section_written line h zero (w ∷ ws) xs e = never 3 0 xs e
  section_written line h (suc n) ws xs e =
      let (f, d, ls, a, b) = section_first line n ws xs e in
      let first = h ws f d in
      let others = section_written line h n f.rest ls a in
      record {
        written = first.written ∷ others.written;
        counted = ap suc others.counted;
        spelt = first.spelt ∙ ap (λ (us : List ℕ). words first.written ++ us) others.spelt;
        meant = ap₂ (λ (x : X) (us : List X). x ∷ us) first.meant others.meant ∙ sym b;
      }

-- ---- a description

-- the header's six words and the words after them
header_words : (ws : List ℕ) → 6 ≤ length ws
    → ws ≡ get_or ws 0 0 ∷ get_or ws 1 0 ∷ get_or ws 2 0 ∷ get_or ws 3 0 ∷ get_or ws 4 0 ∷ get_or ws 5 0 ∷ drop 6 ws
header_words ws h =
    cc (
      drop-cons ws 0 0 (omega arith),
      drop-cons ws 1 0 (omega arith),
      drop-cons ws 2 0 (omega arith),
      drop-cons ws 3 0 (omega arith),
      drop-cons ws 4 0 (omega arith),
      drop-cons ws 5 0 (omega arith),
    )

-- words whose header fits, and whose two sections are the words of these lines, are those that describe the lines
sections_described : (ws : List ℕ) → InRange ws → Placed ws → (ls ks : List (List ℕ)) → length ls ≡ get_or ws 1 0 → length ks ≡ get_or ws 2 0
    → take (get_or ws 4 0 - 6) (drop 6 ws) ≡ flatten ls → drop (get_or ws 4 0) ws ≡ flatten ks → ws ≡ describe (get_or ws 0 0) ls ks
sections_described ws r p ls ks m n a b =
    let front : length (flatten ls) ≡ get_or ws 4 0 - 6 =
    ap length (sym a) ∙ length-take-le (get_or ws 4 0 - 6) (drop 6 ws) (omega (arith, length-drop 6 ws)) in
    let back : length (flatten ks) ≡ length ws - get_or ws 4 0 = ap length (sym b) ∙ length-drop (get_or ws 4 0) ws in
    let seam : 6 + (get_or ws 4 0 - 6) ≡ get_or ws 4 0 = omega arith in
    let after : drop 6 ws ≡ flatten ls ++ flatten ks =
    sym (take-append-drop (get_or ws 4 0 - 6) (drop 6 ws))
    ∙ ap₂ (λ (us vs : List ℕ). us ++ vs) a (drop-drop (get_or ws 4 0 - 6) 6 ws ∙ ap (λ (i : ℕ). drop i ws) seam ∙ b) in
    let fourth : get_or ws 4 0 ≡ 6 + length (flatten ls) = omega arith in
    let fifth : get_or ws 5 0 ≡ 6 + length (flatten ls) + length (flatten ks) = omega arith in
    header_words ws r.six ∙ cc

-- the words of a good description write a published one, and it means what they mean
pub read_writes : (ws : List ℕ) (s : Sheet) → read ws ≡ good s → (φ : Description) × Writes ws φ × (sheet φ ≡ s)
unfolding relation_lines kind_lines
read_writes ws s e =
    let r = (read_out ws s e).taken in
    let v = get_or ws 0 0 in
    let a =
    section_written formula_words line (relation_line v) (relation_written v) (get_or ws 1 0) (take (get_or ws 4 0 - 6) (drop 6 ws)) s.lines
    (later_out 6 (section _ _ _) s.lines r.lines) in
    let b =
    section_written label_words (λ k. k) (kind_line v) (kind_written v) (get_or ws 2 0) (drop (get_or ws 4 0) ws) s.kinds
    (later_out (get_or ws 4 0) (section _ _ _) s.kinds r.kinds) in
    let made : List RelationLine → List KindLine → Sheet = λ ls ks. record { boards = v; lines = ls; kinds = ks } in
    let same : made (map line a.written) b.written ≡ made s.lines s.kinds = ap₂ made a.meant (sym (map-id b.written) ∙ b.meant) in (
      record { boards = v; formulas = a.written; labels = b.written },
      sections_described ws r.numbers r.places (map formula_words a.written) (map label_words b.written) a.counted b.counted a.spelt b.spelt,
      same ∙ ap (λ (n : ℕ). record { boards = n; lines = s.lines; kinds = s.kinds }) r.boards,
    )
