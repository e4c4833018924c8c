-- What is told of the line at the front of a section's words, and what is found there, by what `scan` tells, or `evaluate` finds, of the part that is lent to
-- it. Assumes nothing.
use mathlib.Core.Path.{◌≡◌, refl, sym, ap, ◌∙◌, subst}
use mathlib.Core.List.{List, [], ◌∷◌}
use Prim.Native.Nat.{ℕ, ◌+◌, ◌-◌, ◌≤◌}
use native.Mathlib.Omega.{arith}
use lib.ListN.{length, get_or, take, drop, length-drop}
use lib.Seq.{length-take-le}
use Rattle.rules.specs.Expressions.{Value, value, malformed, expression}
use Rattle.rules.specs.Descriptions.{RelationLine, Reading, good, refused, Front, next, later, meaning, relation_line}
use Rattle.rules.proofs.Expressions.{expression_ends}
use Rattle.rules.proofs.Beginnings.{expression_broken}
use Rattle.rules.proofs.Tests.{clash}
use Rattle.rules.proofs.Readings.{never}
use Rattle.rules.proofs.Lines.{OnBoards, relation_front, relation_read, relation_out, after_line}
use Rattle.std.specs.Prelude.{Ok, Err}
use Rattle.expressions.specs.Found.{found, expression_found, scan_found}
use Rattle.answers.specs.declared.refusals.Refusal.{Refusal}
use Rattle.answers.specs.Answers.{refusal}
use Rattle.lines.specs.Found.{relation_told, Passes, GoodLine, relation_found}

-- an expression that fails, or leaves words, is refused at the first word left, or where it fails, which is one of its words or their end
fails_meaning : (us : List ℕ) (m n : ℕ) → Err m ≡ scan_found (expression us) → (m ≤ length us) × (meaning n (expression us) ≡ refused 5 (n - m))
fails_meaning us m n f = go (expression us) refl f
  where
    go : (v : Value) → expression us ≡ v → Err m ≡ scan_found v → (m ≤ length us) × (meaning n v ≡ refused 5 (n - m))
    go (value x []) e f = clash (cc)
    go (value x (w ∷ rest)) e f =
        let l : m ≡ length (w ∷ rest) = cc in
        (subst (λ (k : ℕ). k ≤ length us) (sym l) (expression_ends us x (w ∷ rest) e).suffix.shorter, ap (λ (k : ℕ). refused 5 (n - k)) (sym l))
    go (malformed left) e f =
        let l : m ≡ length left = cc in
        (subst (λ (k : ℕ). k ≤ length us) (sym l) (expression_broken us left e), ap (λ (k : ℕ). refused 5 (n - k)) (sym l))

-- a whole expression has a set
pub whole_set : (us : List ℕ) → Ok tt ≡ scan_found (expression us) → (x : ℕ) × (expression us ≡ value x [])
whole_set us f = go (expression us) f
  where
    go : (v : Value) → Ok tt ≡ scan_found v → (x : ℕ) × (v ≡ value x [])
    go (value x []) f = (x, refl)
    go (value x (w ∷ rest)) f = clash (cc)
    go (malformed left) f = clash (cc)

-- one that means a set is found with it, and leaves no word
means_found : (v : Value) (n x : ℕ) → meaning n v ≡ good x → expression_found v ≡ found x 0
means_found (value y []) n x e = let d : y ≡ x = cc in ap (λ (z : ℕ). found z 0) d
means_found (value y (w ∷ rest)) n x e = never 5 (n - length (w ∷ rest)) x e
means_found (malformed left) n x e = never 5 (n - length left) x e

-- the words after a line, by its end
after_end : (ws : List ℕ) {end : ℕ} → end ≡ 3 + get_or ws 2 0 → length ws - end ≡ length (drop (get_or ws 2 0) (drop 3 ws))
after_end ws ends = omega (arith, after_line (get_or ws 2 0) ws, ends)

-- a line that passes the tests before its expression, and the part of it that code lends for that
module _ {v : ℕ} {ws : List ℕ} {end : ℕ} (passes : Passes v ws end) where
  abbrev lent : List ℕ
  lent = take (end - 3) (drop 3 ws)

  on_boards : OnBoards v ws
  on_boards =
      record {
        fits = record { three = passes.three; low = passes.low; high = passes.high; room = passes.room };
        p_board = passes.p_board;
        q_board = passes.q_board;
      }

  pub end_within : end ≤ length ws
  end_within = omega (arith, passes.ends, passes.three, passes.room)

  width_of : end - 3 ≡ get_or ws 2 0
  width_of = omega (arith, passes.ends)

  pub part_length : length lent ≡ end - 3
  part_length = length-take-le (end - 3) (drop 3 ws) (omega (arith, length-drop 3 ws, end_within))

  -- the line by what its part means
  line_read : (r : Reading ℕ) → meaning (end - 3) (expression lent) ≡ r → relation_line v ws ≡ next (later 3 r) (λ x. good (relation_front v ws x))
  line_read r e =
      relation_read v ws on_boards
      ∙ ap (λ (r : Reading ℕ). next (later 3 r) (λ x. good (relation_front v ws x)))
      (subst (λ (n : ℕ). meaning n (expression (take n (drop 3 ws))) ≡ r) width_of e)

  module _ (m : ℕ) (fails : Err m ≡ scan_found (expression lent)) where
    pub fails_within : m ≤ end - 3
    fails_within = omega (arith, part_length, (fails_meaning lent m (end - 3) fails).0)

    pub relation_fails : relation_line v ws ≡ refused 5 (end - m)
    relation_fails =
        let e : 3 + (end - 3 - m) ≡ end - m = omega (arith, fails_within, passes.ends) in
        line_read _ (fails_meaning lent m (end - 3) fails).1 ∙ ap (refused 5) e

  -- a whole expression of the set x, and the words after its line
  module _ (x : ℕ) (whole : expression lent ≡ value x []) where
    relation_whole : relation_line v ws ≡ good (relation_front v ws x)
    relation_whole = line_read (good x) (ap (meaning (end - 3)) whole)

    pub relation_line_told : Ok (length ws - end) ≡ relation_told (relation_line v ws)
    relation_line_told = rw (after_end ws passes.ends, relation_whole)

-- ---- a good line

-- the tests that it passes
pub good_passed : {ws : List ℕ} → (g : GoodLine ws) → OnBoards g.0 ws
good_passed {ws} (v, f, e) = (relation_out v ws f e).passed

module _ (v : ℕ) (ws : List ℕ) {f : Front RelationLine} (read : relation_line v ws ≡ good f) {end : ℕ} (ends : end ≡ 3 + get_or ws 2 0) where
  -- what is found of the part of it that code lends
  pub good_set : expression_found (expression (take (end - 3) (drop 3 ws))) ≡ found f.line.allowed 0
  good_set =
      let r = relation_out v ws f read in
      let n : end - 3 ≡ get_or ws 2 0 = omega (arith, ends) in
      rw (n) (means_found (expression (take (get_or ws 2 0) (drop 3 ws))) (get_or ws 2 0) r.allowed r.means)
      ∙ ap (λ (f : Front RelationLine). found f.line.allowed 0) r.front

  -- the line, by its words
  pub good_found : {p q x : ℕ} → p ≡ get_or ws 0 0 → q ≡ get_or ws 1 0 → x ≡ f.line.allowed
      → record { p = p; q = q; allowed = x; rest = length ws - end } ≡ relation_found f
  good_found {p} {q} {x} first second third =
      let r = relation_out v ws f read in
      let same : relation_front v ws f.line.allowed ≡ f =
      ap (λ (f : Front RelationLine). relation_front v ws f.line.allowed) (sym r.front) ∙ r.front in
      rw (first, second, third, after_end ws ends) (ap relation_found same)

-- what was told, read back
pub told_rest_out : (r : Reading (Front RelationLine)) (k : ℕ) → Ok k ≡ relation_told r
    → (f : Front RelationLine) × (r ≡ good f) × (length f.rest ≡ k)
told_rest_out (good f) k p = (f, refl, cc)
told_rest_out (refused n i) k p = clash (cc)

pub told_refused_out : (r : Reading (Front RelationLine)) (q : Refusal) → Err q ≡ relation_told r
    → (n k : ℕ) × (r ≡ refused n k) × (q ≡ refusal n k)
told_refused_out (good f) q p = clash (cc)
told_refused_out (refused n k) q p = (n, k, refl, cc)
