-- A walk along the kind lines that fill the words: after so many of them, and at the word where the next begins. Assumes nothing.
use mathlib.Core.Path.{◌≡◌, sym, ap, ap₂, ◌∙◌, subst}
use mathlib.Core.List.{List, [], ◌∷◌, ◌++◌}
use Prim.Native.Nat.{ℕ, ◌+◌, ◌-◌, ◌≤◌, ◌<◌}
use native.Mathlib.Nat.{zero-add}
use native.Mathlib.Omega.{arith}
use lib.ListN.{length, take, drop, length-append, length-drop}
use lib.Seq.{take-append_seam}
use Rattle.rules.specs.Descriptions.{KindLine, good, Front, kind_line, kind_words}
use Rattle.rules.proofs.Lines.{kind_suffix}
use Rattle.rules.proofs.KindWords.{line_words_lem, words_more}
use Rattle.rules.proofs.Walks.{Walk, walk_start, walk_none, walk_next, walk_passed, walk_lines}
use Rattle.kinds.specs.declared.KindLine as declared
use Rattle.kinds.specs.Lines.{kind_at, line_at, StandsIn}
use Rattle.kinds.specs.Sections.{Kinds}
use Rattle.kinds.proofs.Lines.{ReadAt}
use Rattle.kinds.proofs.Passing.{kind_met, met_at}

-- i of the `count` kind lines are passed, and the next begins at the word `at`
pub record After (v count : ℕ) (ws : List ℕ) (at i : ℕ) : Type 0 where
  pub left : ℕ
  pub counted : i + left ≡ count
  pub walk : Walk (kind_line v) count ws at left
  pub passed : length walk.done ≡ i
  pub words : at ≡ kind_words walk.done

pub after_start : (v count : ℕ) (ws : List ℕ) → After v count ws 0 0
unfolding kind_words
after_start v count ws =
    record { left = count; counted = zero-add count; walk = walk_start (kind_line v) count ws; passed = ap length (walk_none (kind_line v) count ws); words = sym (ap kind_words (walk_none (kind_line v) count ws)) }

module _ {v count : ℕ} {ws : List ℕ} {at i : ℕ} (a : After v count ws at i) {ks : List KindLine} (fill : Kinds v count ws ks) where
  -- the lines passed are the first i
  taken : a.walk.done ≡ take i ks
  taken =
      let (rest, d, e) = walk_lines (kind_line v) count ws a.walk ks fill in
      sym (take-append_seam a.walk.done rest) ∙ ap₂ (λ (n : ℕ) (ls : List KindLine). take n ls) a.passed (sym e)

  pub after_length : length (take i ks) ≡ i
  after_length = ap length (sym taken) ∙ a.passed

  -- and have the words before
  pub after_words : at ≡ kind_words (take i ks)
  after_words = a.words ∙ ap kind_words taken

module _ {v count : ℕ} {ws : List ℕ} {at i : ℕ} (a : After v count ws at i) {ks : List KindLine} (fill : Kinds v count ws ks) (more : i < count) where
  some_left : 0 < a.left
  some_left = omega (arith, a.counted)

  -- the next line
  met : (g : Front KindLine) × (kind_line v (drop at ws) ≡ good g)
  met = kind_met v count ws (ks, fill) a.walk some_left

  there : ReadAt v ws at met.0
  unfolding met
  there = met_at v count ws (ks, fill) a.walk some_left

  -- it has its first words
  pub after_there : at + 3 ≤ length ws
  after_there = there.three

  -- where it ends, one line more is passed
  on : After v count ws (length ws - length met.0.rest) (i + 1)
  on =
      let s = kind_suffix v (drop at ws) met.0 met.1 in
      record {
        left = a.left - 1;
        counted = omega (arith, a.counted, some_left);
        walk = (walk_next (kind_line v) count ws a.walk met.0 some_left met.1 s).1;
        passed = ap length (walk_passed (kind_line v) count ws a.walk met.0 some_left met.1 s)
            ∙ length-append a.walk.done (met.0.line ∷ []) ∙ ap (λ (n : ℕ). n + 1) a.passed;
        words = omega (arith, a.words, a.walk.within, length-drop at ws, line_words_lem v (drop at ws) met.0 met.1, words_more a.walk.done met.0.line)
            ∙ sym (ap kind_words (walk_passed (kind_line v) count ws a.walk met.0 some_left met.1 s));
      }

  on_line : take (i + 1) ks ≡ take i ks ++ (met.0.line ∷ [])
  unfolding on
  on_line =
      sym (taken on fill)
      ∙ walk_passed (kind_line v) count ws a.walk met.0 some_left met.1 (kind_suffix v (drop at ws) met.0 met.1)
      ∙ ap (λ (ls : List KindLine). ls ++ (met.0.line ∷ [])) (taken a fill)

  -- the next line, as code has found it by its place
  module _ {k : declared.KindLine} (found : k ≡ kind_at ws at) where
    pub after_stands : StandsIn v ws k
    after_stands = subst (StandsIn v ws) (sym found) there.stands

    pub after_next : After v count ws k.end (i + 1)
    after_next = subst (λ (m : ℕ). After v count ws m (i + 1)) (there.end ∙ sym (ap (λ (l : declared.KindLine). l.end) found)) on

    -- it is the line after the first i
    pub after_line : take (i + 1) ks ≡ take i ks ++ (line_at ws k ∷ [])
    after_line = on_line ∙ ap (λ (l : KindLine). take i ks ++ (l ∷ [])) (there.line ∙ sym (ap (line_at ws) found))
