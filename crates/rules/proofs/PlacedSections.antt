-- The places of refused sections: none is past the words, no word before it breaks the rule, and it moves as the words before it do. Assumes nothing.
use mathlib.Core.Path.{◌≡◌, refl, sym, ap, ◌∙◌, subst}
use mathlib.Core.Logic.{◌⊎◌, inl, inr, ⊎_elim}
use mathlib.Core.List.{List, [], ◌∷◌, ◌++◌}
use Prim.Native.Nat.{ℕ, zero, suc, ◌+◌, ◌-◌, ◌≤◌, ◌<◌}
use native.Mathlib.Omega.{arith}
use lib.Dec.{T}
use lib.ListN.{length, get_or, take, drop, length-append, length-drop}
use lib.Seq.{drop-drop}
use Rattle.rules.specs.Descriptions.{RelationLine, KindLine, Reading, good, refused, Front, next, later, boards_only, relation_line, kind_line, section}
use Rattle.rules.specs.Places.{SameBefore, Placing}
use Rattle.rules.proofs.Tests.{clash}
use Rattle.rules.proofs.Parts.{Suffix}
use Rattle.rules.proofs.Readings.{section_first}
use Rattle.rules.proofs.Lines.{after_line, OnBoards, means, relation_read, relation_out, relation_suffix, OnPanel, kind_read, kind_out, kind_suffix}
use Rattle.rules.proofs.PlacedReadings.{alike_back, alike_less, alike_after, alike_word, next_refused, Late, late_each, placing_late}
use Rattle.rules.proofs.PlacedLines.{placing_relation, placing_kind}

-- ---- a line that is read is the same whatever words stand after it

module _ {X : Type 0} (line : List ℕ → Reading (Front X)) where
  -- the line f of ws is one of us, where us has its words
  abbrev pub Shared : List ℕ → List ℕ → Front X → Type 0
  Shared ws us f = let n = length ws - length f.rest in SameBefore n ws us → line us ≡ good (record { line = f.line; rest = drop n us })

  -- what is left after a line ends the words, and the line is shared
  pub record Local : Type 0 where
    pub ends : (ws : List ℕ) (f : Front X) → line ws ≡ good f → Suffix ws f.rest
    pub same : (ws us : List ℕ) (f : Front X) → line ws ≡ good f → Shared ws us f

-- of words alike as far as a line goes: its first three words, the words that the third counts, and those after them
module _ (ws us : List ℕ) (three : 3 ≤ length ws) (room : get_or ws 2 0 ≤ length ws - 3) where
  abbrev line_words_lem : ℕ
  line_words_lem = length ws - length (drop (get_or ws 2 0) (drop 3 ws))

  counted : 3 + get_or ws 2 0 ≡ line_words_lem
  counted = omega (arith, after_line (get_or ws 2 0) ws)

  module _ (a : SameBefore line_words_lem ws us) where
    same_word : (i : ℕ) → i < 3 → get_or us i 0 ≡ get_or ws i 0
    same_word i h = alike_word a i (omega (arith, counted))

    same_counted : take (get_or us 2 0) (drop 3 us) ≡ take (get_or ws 2 0) (drop 3 ws)
    same_counted = rw (same_word 2 (omega arith)) (alike_after a 3 (get_or ws 2 0) counted).same

    same_after : drop (get_or us 2 0) (drop 3 us) ≡ drop line_words_lem us
    same_after = rw (same_word 2 (omega arith)) (drop-drop (get_or ws 2 0) 3 us ∙ ap (λ (n : ℕ). drop n us) counted)

-- relation lines are so, and kind lines
pub local_relation : (v : ℕ) → Local (relation_line v)
local_relation v = record { ends = relation_suffix v; same = same }
  where
    same : (ws us : List ℕ) (f : Front RelationLine) → relation_line v ws ≡ good f → Shared (relation_line v) ws us f
    same ws us f e =
        let r = relation_out v ws f e in
        let o = r.passed in
        let fits = o.fits in
        subst (Shared (relation_line v) ws us) r.front (λ a.
        let w = same_word ws us fits.three fits.room a in
        let many : length us ≡ length ws = a.many in
        let p = w 0 (omega arith) in
        let q = w 1 (omega arith) in
        let n = w 2 (omega arith) in
        let on : OnBoards v us = record {
          fits = record {
            three = omega (arith, fits.three);
            low = omega (arith, fits.low);
            high = omega (arith, fits.high);
            room = omega (arith, fits.room);
          };
          p_board = omega (arith, o.p_board);
          q_board = omega (arith, o.q_board);
        } in
        let sense : means v us ≡ means v ws = rw (same_counted ws us fits.three fits.room a, n) in
        relation_read v us on ∙ rw (sense, r.means, p, q, same_after ws us fits.three fits.room a))

pub local_kind : (v : ℕ) → Local (kind_line v)
local_kind v = record { ends = kind_suffix v; same = same }
  where
    same : (ws us : List ℕ) (f : Front KindLine) → kind_line v ws ≡ good f → Shared (kind_line v) ws us f
    same ws us f e =
        let r = kind_out v ws f e in
        let o = r.passed in
        let fits = o.fits in
        subst (Shared (kind_line v) ws us) r.front (λ a.
        let w = same_word ws us fits.three fits.room a in
        let many : length us ≡ length ws = a.many in
        let p = w 0 (omega arith) in
        let c = w 1 (omega arith) in
        let n = w 2 (omega arith) in
        let ways = same_counted ws us fits.three fits.room a in
        let on : OnPanel v us = record {
          fits = record { three = omega (arith, fits.three); high = omega (arith, fits.high); room = omega (arith, fits.room) };
          p_board = omega (arith, o.p_board);
          way_boards = subst (λ (ys : List ℕ). T (boards_only v ys)) (sym ways) o.way_boards;
        } in
        kind_read v us on ∙ rw (p, c, ways, same_after ws us fits.three fits.room a))

-- ---- sections

module _ {X : Type 0} (line : List ℕ → Reading (Front X)) (count : ℕ) (ws : List ℕ) where
  -- a section is refused at its first line, or after it
  pub section_at : (n k : ℕ) → section line (suc count) ws ≡ refused n k → (line ws ≡ refused n k) ⊎ ((f : Front X) × (line ws ≡ good f))
  unfolding section
  section_at n k e = ⊎_elim inl (λ (f, d, g). inr (f, d)) (next_refused (line ws) _ n k e)

  module _ (f : Front X) (d : line ws ≡ good f) where
    -- after a good line it is read on
    onward : section line (suc count) ws ≡ later (length ws - length f.rest) (next (section line count f.rest) (λ ls. good (f.line ∷ ls)))
    unfolding section
    onward = rw d

    -- there it is the lines after it that are refused, and the place counts the line's words
    pub section_after : (n k : ℕ) → section line (suc count) ws ≡ refused n k
        → (i : ℕ) × (section line count f.rest ≡ refused n i) × (k ≡ length ws - length f.rest + i)
    section_after n k e = go (section line count f.rest) refl (sym onward ∙ e)
      where
        go : (r : Reading (List X)) → section line count f.rest ≡ r
            → later (length ws - length f.rest) (next r (λ ls. good (f.line ∷ ls))) ≡ refused n k
            → (i : ℕ) × (section line count f.rest ≡ refused n i) × (k ≡ length ws - length f.rest + i)
        go (good ls) g h = clash (cc)
        go (refused m i) g h = (i, cc, cc)

    -- or all lines are read
    pub section_lines : (xs : List X) → section line (suc count) ws ≡ good xs
        → (ls : List X) × (section line count f.rest ≡ good ls) × (xs ≡ f.line ∷ ls)
    section_lines xs e =
        let (g, a, ls, b, c) = section_first line count ws xs e in
        let same : g ≡ f = cc in
        (ls, rw (← same) b, rw (← same) c)

module _ {X : Type 0} (line : List ℕ → Reading (Front X)) (p : Placing (λ ws. 0) line) (l : Local line) where
  -- the place is not past the words
  section_within : (count : ℕ) (ws : List ℕ) (n k : ℕ) → section line count ws ≡ refused n k → k ≤ length ws
  unfolding section
  section_within zero [] n k e = clash (cc)
  section_within zero (w ∷ ws) n k e = let z : 0 ≡ k = cc in omega arith
  section_within (suc count) ws n k e =
      ⊎_elim (p.within ws n k) (λ (f, d).
      let (i, g, h) = section_after line count ws f d n k e in omega (arith, section_within count f.rest n i g, (l.ends ws f d).shorter))
      (section_at line count ws n k e)

  -- by the first line: it is shared, or it is refused for both
  section_late : (count : ℕ) (ws us : List ℕ) (n k m j : ℕ) → section line count ws ≡ refused n k → section line count us ≡ refused m j
      → SameBefore k ws us → Late n k m j
  unfolding section
  section_late zero [] us n k m j e d a h b = clash (cc)
  section_late zero (w ∷ ws) us n k m j e d a h b = let z : 0 ≡ k = cc in omega arith
  section_late (suc count) ws us n k m j e d a h b =
      ⊎_elim (λ x. ⊎_elim (λ y. placing_late line p ws us n k m j y x a h b) (λ (f, y). first x f y) (section_at line count ws n k e))
      (λ (f, x).
      let u = length us - length f.rest in
      let s : Suffix us f.rest = l.ends us f x in
      let many : length us ≡ length ws = a.many in
      let (i, g, o) = section_after line count us f x m j d in
      let (q, r, t) = section_after line count ws _ (l.same us ws f x (alike_back (alike_less a u (omega arith)))) n k e in
      let c : u + q ≡ k = omega (arith, length-drop u ws, s.shorter) in
      section_late count (drop u ws) f.rest n q m i r g (rw s.end at (alike_after a u q c)) h (omega arith)) (section_at line count us m j d)
    where
      -- a good line of ws before the place is a line of us
      first : line us ≡ refused m j → (f : Front X) → line ws ≡ good f → ⊥
      first x f y =
          let (i, g, o) = section_after line count ws f y n k e in
          let z = l.same ws us f y (alike_less a (length ws - length f.rest) (omega arith)) in
          clash (cc)

  -- so sections keep their places, where their lines do
  pub placing_section : (count : ℕ) → Placing (λ ws. 0) (section line count)
  placing_section count = record {
    within = section_within count;
    before = λ ws us n k e a t. late_each n k (section line count us) (λ m j d. section_late count ws us n k m j e d a);
  }

pub placing_relations : (v count : ℕ) → Placing (λ ws. 0) (section (relation_line v) count)
placing_relations v = placing_section (relation_line v) (placing_relation v) (local_relation v)

pub placing_kinds : (v count : ℕ) → Placing (λ ws. 0) (section (kind_line v) count)
placing_kinds v = placing_section (kind_line v) (placing_kind v) (local_kind v)

-- a place moves as the words before it do
pub section_moved : {X : Type 0} (line : List ℕ → Reading (Front X)) (count : ℕ) (us ws : List ℕ) (f : Front X) → line (us ++ ws) ≡ good f → f.rest ≡ ws
    → (n k : ℕ) → section line count ws ≡ refused n k → section line (suc count) (us ++ ws) ≡ refused n (length us + k)
unfolding section
section_moved line count us ws f d c n k e =
    let l : length (us ++ ws) - length ws ≡ length us = omega (arith, length-append us ws) in rw (d, c, e, l)
