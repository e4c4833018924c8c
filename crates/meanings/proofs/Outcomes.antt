-- What a text comes to: it writes a description, or one of its lines is the first that is malformed. Assumes nothing.
use mathlib.Core.Path.{◌≡◌, refl, ap, ◌∙◌, subst}
use mathlib.Core.List.{List, [], ◌∷◌}
use Prim.Native.Nat.{ℕ, zero, suc, ◌+◌, ◌-◌, ◌≤◌, ◌<◌}
use native.Mathlib.Nat.{not-suc-le-zero}
use native.Mathlib.Omega.{arith}
use lib.ListN.{length, get_or}
use Rattle.rules.proofs.Tests.{clash}
use Rattle.typed.specs.Symbols.{Symbol, boards, number, Spelled, symbols_in, symbols}
use Rattle.typed.specs.Grammar.{RelationTyped, KindTyped, lines_of, LinesTyped, none, relation_next, kind_next, SheetTyped, LineTyped, relation_line, kind_line, LineWritten, line_at, FirstMalformed}
use Rattle.typed.specs.Sheets.{Line, malformed_line, relation_words, kind_words, line_of, First, no_boards, boards_of, first_of, Lines, stopped, lines, line_before, lines_from, Typed, malformed_at, made, description, opened, sheet, typed}
use Rattle.spelled.proofs.Spelling.{spelled_symbols, symbols_spelled}
use Rattle.meanings.proofs.Lines.{relation_made, made_relation, kind_made, made_kind, boards_made, made_boards}
use Rattle.meanings.proofs.Known.{relation_known, kind_known, boards_known}

-- ---- one line

-- a line makes what its symbols write
pub relation_line_lem : {l w : List ℕ} {ss : List Symbol} → Spelled l ss → RelationTyped ss w → line_of (symbols l) ≡ relation_words w
relation_line_lem s r = ap line_of (spelled_symbols s) ∙ relation_made r

pub kind_line_lem : {l w : List ℕ} {ss : List Symbol} → Spelled l ss → KindTyped ss w → line_of (symbols l) ≡ kind_words w
kind_line_lem s k = ap line_of (spelled_symbols s) ∙ kind_made k

pub first_line : {l : List ℕ} {v : ℕ} → Spelled l (boards ∷ number v ∷ []) → first_of (symbols l) ≡ boards_of v
first_line {v} s = ap first_of (spelled_symbols s) ∙ boards_made v

-- and writes what it makes
line_relation : (l w : List ℕ) → line_of (symbols l) ≡ relation_words w → Spelled l (symbols l) × RelationTyped (symbols l) w
line_relation l w e = let t = relation_known l w e in (symbols_spelled l t, made_relation (symbols l) w t e)

line_kind : (l w : List ℕ) → line_of (symbols l) ≡ kind_words w → Spelled l (symbols l) × KindTyped (symbols l) w
line_kind l w e = (symbols_spelled l (kind_known l w e), made_kind (symbols l) w e)

line_first : (l : List ℕ) (v : ℕ) → first_of (symbols l) ≡ boards_of v → Spelled l (boards ∷ number v ∷ [])
line_first l v e = subst (Spelled l) (made_boards (symbols l) v e) (symbols_spelled l (boards_known l v e))

-- a line that makes nothing is not well-formed
line_fault : {l : List ℕ} → line_of (symbols l) ≡ malformed_line → LineTyped l → ⊥
line_fault e (relation_line s r) = clash (cc (relation_line_lem s r))
line_fault e (kind_line s k) = clash (cc (kind_line_lem s k))

-- ---- the lines after the first

-- of these lines the one at place j is the first that is malformed
pub record Stopped (ls : List (List ℕ)) (j : ℕ) : Type 0 where
  pub inside : j < length ls
  pub before : (i : ℕ) → i < j → LineTyped (get_or ls i [])
  pub fault : LineTyped (get_or ls j []) → ⊥

stopped_here : {l : List ℕ} {ls : List (List ℕ)} → (LineTyped l → ⊥) → Stopped (l ∷ ls) 0
stopped_here f = record { inside = omega arith; before = λ i h. absurd (not-suc-le-zero h); fault = f }

stopped_later : {l : List ℕ} {ls : List (List ℕ)} {j : ℕ} → LineTyped l → Stopped ls j → Stopped (l ∷ ls) (suc j)
stopped_later {l} {ls} {j} t s = record { inside = omega arith; before = go; fault = s.fault }
  where
    go : (i : ℕ) → i < suc j → LineTyped (get_or (l ∷ ls) i [])
    go zero h = t
    go (suc i) h = s.before i (omega arith)

-- the lines from number n on are all well-formed, or one is the first that is malformed
pub data Follow (n : ℕ) (ls : List (List ℕ)) : Lines → Type 0 where
  all : {rs ks : List (List ℕ)} → LinesTyped ls rs ks → Follow n ls (lines rs ks)
  upto : (m j : ℕ) → m ≡ n + j → Stopped ls j → Follow n ls (stopped m)

-- so it is with what is made of them
pub follow : (n : ℕ) (ls : List (List ℕ)) → Follow n ls (lines_from n ls)
unfolding lines_from
follow n [] = all none
follow n (l ∷ ls) = go (line_of (symbols l)) refl (follow (suc n) ls)
  where
    go : (x : Line) → line_of (symbols l) ≡ x → {r : Lines} → Follow (suc n) ls r → Follow n (l ∷ ls) (line_before n x r)
    go malformed_line e f = upto n 0 (omega arith) (stopped_here (line_fault e))
    go (relation_words w) e (all d) = let (s, r) = line_relation l w e in all (relation_next s r d)
    go (relation_words w) e (upto m j q u) = let (s, r) = line_relation l w e in upto m (suc j) (omega arith) (stopped_later (relation_line s r) u)
    go (kind_words w) e (all d) = let (s, k) = line_kind l w e in all (kind_next s k d)
    go (kind_words w) e (upto m j q u) = let (s, k) = line_kind l w e in upto m (suc j) (omega arith) (stopped_later (kind_line s k) u)

-- ---- the text

-- the text writes a description, or a line is the first that is malformed
pub data Outcome (text : List ℕ) : Typed → Type 0 where
  writes : {ws : List ℕ} → SheetTyped text ws → Outcome text (made ws)
  fault_at : {n : ℕ} → FirstMalformed text n → Outcome text (malformed_at n)

-- a first line that makes nothing is malformed
first_fault : {text l : List ℕ} → line_at text 1 ≡ l → first_of (symbols l) ≡ no_boards → FirstMalformed text 1
first_fault e p =
    record {
      some = omega arith;
      inside = omega arith;
      before = λ i h k. let z : ⊥ = omega arith in absurd z;
      fault = λ w. clash (cc (first_line w.1));
    }

-- a text with a first line l and lines ls after it
module _ (text : List ℕ) {l : List ℕ} {ls : List (List ℕ)} (e : lines_of text ≡ l ∷ ls) where
  later_line : (i : ℕ) → line_at text (suc (suc i)) ≡ get_or ls i []
  later_line i = let q : suc (suc i) - 1 ≡ suc i = omega arith in rw (q, e)

  -- a line is well-formed if the first is, and it is the first or well-formed among the others
  pub line_written : {v : ℕ} → Spelled l (boards ∷ number v ∷ []) → (i : ℕ) → 1 ≤ i → ((j : ℕ) → i ≡ suc (suc j) → LineTyped (get_or ls j []))
      → LineWritten i (line_at text i)
  line_written s zero h f = absurd (not-suc-le-zero h)
  line_written {v} s (suc zero) h f = rw e (v, s)
  line_written s (suc (suc i)) h f = rw later_line (f i refl)

  later_fault : {v j : ℕ} → Spelled l (boards ∷ number v ∷ []) → Stopped ls j → FirstMalformed text (suc (suc j))
  later_fault s u =
      record {
        some = omega arith;
        inside = rw e (omega (arith, u.inside));
        before = λ i h k. line_written s i h (λ j q. u.before j (omega arith));
        fault = λ t. u.fault (rw later_line at t);
      }

  outcome_after : {v : ℕ} → Spelled l (boards ∷ number v ∷ []) → {r : Lines} → Follow 2 ls r → Outcome text (description v r)
  outcome_after {v} s (all {rs} {ks} d) =
      writes (record { v = v; first = l; rest = ls; relations = rs; kinds = ks; lines = e; opens = s; follow = d; makes = refl })
  outcome_after s (upto m j q u) = fault_at {n = m} (subst (FirstMalformed text) (omega arith) (later_fault s u))

-- so it is with what is made of it
pub outcome : (text : List ℕ) → Outcome text (typed text)
unfolding typed first_of symbols symbols_in
outcome text = go (lines_of text) refl
  where
    by_first : {l : List ℕ} {ls : List (List ℕ)} → lines_of text ≡ l ∷ ls → (f : First) → first_of (symbols l) ≡ f → Outcome text (opened f ls)
    by_first e no_boards p = fault_at (first_fault (ap (λ (ls : List (List ℕ)). get_or ls 0 []) e) p)
    by_first {l} {ls} e (boards_of v) p = outcome_after text e (line_first l v p) (follow 2 ls)

    go : (ls : List (List ℕ)) → lines_of text ≡ ls → Outcome text (sheet ls)
    go [] e = fault_at (first_fault (ap (λ (ls : List (List ℕ)). get_or ls 0 []) e) refl)
    go (l ∷ ls) e = by_first e (first_of (symbols l)) refl
