-- Kind lines by number: those numbered below the count are the lines that fill the words; where each stands, and how early it begins. Assumes nothing.
use mathlib.Core.Path.{◌≡◌, refl, sym, ap, ◌∙◌, subst}
use mathlib.Core.Logic.{⊎_elim}
use mathlib.Core.List.Memᴰ
use mathlib.Core.List.{List, [], ◌∷◌, ◌++◌, Memᴰ}
use Prim.Native.Nat.{ℕ, zero, suc, ◌+◌, ◌-◌, ◌*◌, ◌≤◌, ◌<◌}
use native.Mathlib.Nat.{zero-add}
use native.Mathlib.Omega.{arith}
use lib.ListN.{length, get_or, drop, length-take}
use lib.Seq.{get_or-drop}
use Rattle.rules.specs.Descriptions.{most_ways, KindLine, good, Front, kind_line}
use Rattle.rules.specs.Arrangements.{width}
use Rattle.rules.proofs.Descriptions.{section_counted}
use Rattle.rules.proofs.Lines.{kind_out, kind_suffix}
use Rattle.rules.proofs.Walks.{section_met, Walk, walk_start, walk_none, walk_next, walk_passed, walk_lines}
use Rattle.kinds.specs.Lines.{kind_at, line_at, StandsIn}
use Rattle.kinds.specs.Sections.{Kinds, HasKinds}
use Rattle.kinds.proofs.Lines.{ReadAt, read_at}
use Rattle.by_board.specs.Found.{start_of, numbered}

-- ---- a walk along the lines

-- the first n lines are passed, and are those numbered below n
pub record Passed (v count : ℕ) (ws : List ℕ) (n : ℕ) : Type 0 where
  pub at : ℕ
  pub begins : at ≡ start_of ws n
  pub left : ℕ
  pub counted : n + left ≡ count
  pub walk : Walk (kind_line v) count ws at left
  pub those : (k : KindLine) → Memᴰ k walk.done → (m : ℕ) × (m < n) × (numbered ws m ≡ k)

passed_none : (v count : ℕ) (ws : List ℕ) → Passed v count ws 0
unfolding start_of
passed_none v count ws =
    record {
      at = 0;
      begins = refl;
      left = count;
      counted = zero-add count;
      walk = walk_start (kind_line v) count ws;
      those = λ k m. absurd (Memᴰ.not-nil (subst (Memᴰ k) (walk_none (kind_line v) count ws) m));
    }

module _ (v count : ℕ) (ws : List ℕ) (ks : List KindLine) (fill : Kinds v count ws ks) {n : ℕ} (p : Passed v count ws n) (more : n < count) where
  some_left : 0 < p.left
  some_left = omega (arith, p.counted)

  -- the next line, and how the lines go on with it
  met : (g : Front KindLine) × (kind_line v (drop p.at ws) ≡ good g) × (ls : List KindLine) × (ks ≡ p.walk.done ++ (g.line ∷ ls))
  met =
      let (rest, d, e) = walk_lines (kind_line v) count ws p.walk ks fill in
      let (g, f, ls, h) = section_met (kind_line v) p.left some_left (drop p.at ws) rest d in
      (g, f, ls, e ∙ ap (λ (js : List KindLine). p.walk.done ++ js) h)

  there : ReadAt v ws p.at met.0
  there = read_at v ws p.at p.walk.within met.0 met.1

  -- it is line n
  is_numbered : met.0.line ≡ numbered ws n
  is_numbered = there.line ∙ ap (λ (a : ℕ). line_at ws (kind_at ws a)) p.begins

  passed_next : Passed v count ws (suc n)
  unfolding start_of
  passed_next =
      let s = kind_suffix v (drop p.at ws) met.0 met.1 in
      record {
        at = length ws - length met.0.rest;
        begins = there.end ∙ ap (λ (a : ℕ). (kind_at ws a).end) p.begins;
        left = p.left - 1;
        counted = omega (arith, p.counted, some_left);
        walk = (walk_next (kind_line v) count ws p.walk met.0 some_left met.1 s).1;
        those = λ k m.
            ⊎_elim (λ d. let (i, l, e) = p.those k d in (i, omega (arith, l), e))
            (λ d. (n, omega arith, sym (Memᴰ.eq_of_singleton d ∙ is_numbered)))
            (Memᴰ.append_cases p.walk.done
            (subst (Memᴰ k) (walk_passed (kind_line v) count ws p.walk met.0 some_left met.1 s) m));
      }

module _ (v count : ℕ) (ws : List ℕ) (ks : List KindLine) (fill : Kinds v count ws ks) where
  passed : (n : ℕ) → n ≤ count → Passed v count ws n
  passed zero h = passed_none v count ws
  passed (suc n) h = passed_next v count ws ks fill (passed n (omega arith)) (omega arith)

  -- ---- the lines by number are the lines that there are

  pub numbered_in : (n : ℕ) → n < count → Memᴰ (numbered ws n) ks
  numbered_in n h =
      let p = passed n (omega arith) in
      let (g, e, ls, d) = met v count ws ks fill p h in
      subst (Memᴰ (numbered ws n)) (sym d)
      (Memᴰ.append_right p.walk.done (Memᴰ.head (sym (is_numbered v count ws ks fill p h))))

  pub numbered_out : (k : KindLine) → Memᴰ k ks → (n : ℕ) × (n < count) × (numbered ws n ≡ k)
  numbered_out k m =
      let p = passed count (omega arith) in
      let (rest, d, e) = walk_lines (kind_line v) count ws p.walk ks fill in
      let many : length rest ≡ p.left = section_counted (kind_line v) p.left (drop p.at ws) rest d in
      ⊎_elim (p.those k) (λ r. absurd (none rest (omega (arith, many, p.counted)) r))
      (Memᴰ.append_cases p.walk.done (subst (Memᴰ k) e m))
    where
      none : (rest : List KindLine) → length rest ≡ 0 → Memᴰ k rest → ⊥
      none [] e r = Memᴰ.not-nil r
      none (l ∷ ls) e r = let z : ⊥ = omega arith in z

-- ---- where they stand

module _ (v count : ℕ) (ws : List ℕ) (has : HasKinds v count ws) where
  module _ (n : ℕ) (h : n < count) where
    here : Passed v count ws n
    here = passed v count ws has.0 has.1 n (omega arith)

    read : ReadAt v ws here.at (met v count ws has.0 has.1 here h).0
    read = there v count ws has.0 has.1 here h

    pub numbered_stands : StandsIn v ws (kind_at ws (start_of ws n)) × (start_of ws n + 3 ≤ length ws)
    numbered_stands =
        (subst (λ (a : ℕ). StandsIn v ws (kind_at ws a)) here.begins read.stands, subst (λ (a : ℕ). a + 3 ≤ length ws) here.begins read.three)

    -- a line has few ways
    few_ways : get_or ws (start_of ws n + 2) 0 ≤ most_ways
    few_ways =
        let (g, e, ls, d) = met v count ws has.0 has.1 here h in
        subst (λ (a : ℕ). get_or ws (a + 2) 0 ≤ most_ways) here.begins
        (subst (λ (m : ℕ). m ≤ most_ways) (get_or-drop here.at ws 2 0) (kind_out v (drop here.at ws) g e).passed.fits.high)

    pub numbered_narrow : width (numbered ws n) ≤ most_ways
    numbered_narrow = simp length-take (omega (arith, few_ways))

  -- and so begins early
  pub numbered_early : (n : ℕ) → n ≤ count → start_of ws n ≤ (3 + most_ways) * n
  unfolding start_of
  numbered_early zero h = omega arith
  numbered_early (suc n) h = omega (arith, numbered_early n (omega arith), few_ways n (omega arith))
