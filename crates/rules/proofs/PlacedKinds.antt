-- The places of refused kind sections, with those of lines that disagree: none is past the words, and no word before it breaks the rule. Assumes nothing.
use mathlib.Core.Path.{◌≡◌, refl, subst}
use mathlib.Core.Bool.{true, false}
use mathlib.Core.Logic.{⊎_elim}
use mathlib.Core.List.{List, [], ◌∷◌, ◌++◌}
use Prim.Native.Nat.{ℕ, zero, suc, ◌+◌, ◌-◌, ◌≤◌, ◌<◌}
use native.Mathlib.Omega.{arith}
use lib.Dec.{T_not, eqb}
use lib.ListN.{length, take, drop, length-drop}
use Rattle.rules.specs.Relations.{some_of}
use Rattle.rules.specs.Descriptions.{KindLine, Reading, good, refused, Front, next, kind_line, section, disagrees, first_disagreeing, kind_words, agreed}
use Rattle.rules.specs.Places.{SameBefore, Placing}
use Rattle.rules.proofs.Tests.{T-decide, T_true, T_false, T-differ}
use Rattle.rules.proofs.Readings.{next_out}
use Rattle.rules.proofs.Refusals.{Only, only_kinds}
use Rattle.rules.proofs.Arities.{first_here, first_later, first_few}
use Rattle.rules.proofs.Lines.{kind_out, kind_suffix}
use Rattle.rules.proofs.KindWords.{line_words_lem, section_words, words_before}
use Rattle.rules.proofs.Descriptions.{section_counted}
use Rattle.rules.proofs.PlacedReadings.{alike_less, alike_after, alike_word, OnlyAt, at_need, next_refused, late_each, placing_late}
use Rattle.rules.proofs.PlacedLines.{kind_at_lem}
use Rattle.rules.proofs.PlacedSections.{local_kind, section_at, section_after, section_lines, placing_kinds}

-- the place of 11 in lines that come after some: it is in the first line, or after that
place : List KindLine → List KindLine → ℕ
place earlier ks = kind_words (take (first_disagreeing earlier ks) ks) + 2

module _ (earlier : List KindLine) (k : KindLine) (ks : List KindLine) where
  place_here : some_of (disagrees k) earlier ≡ true → place earlier (k ∷ ks) ≡ 2
  unfolding place kind_words
  place_here e = rw (first_here earlier k ks e)

  place_onward : some_of (disagrees k) earlier ≡ false → place earlier (k ∷ ks) ≡ 3 + length k.ways + place (earlier ++ (k ∷ [])) ks
  unfolding place kind_words
  place_onward e = rw (first_later earlier k ks e) (omega arith)

module _ (v : ℕ) where
  -- a kind line has three words and its ways
  kind_long : (ws : List ℕ) (f : Front KindLine) → kind_line v ws ≡ good f → length ws - length f.rest ≡ 3 + length f.line.ways
  kind_long ws f e = omega (arith, line_words_lem v ws f e)

  -- one that has the panel of a good line is not refused before its number of ways
  kind_second : (ws us : List ℕ) (f : Front KindLine) → kind_line v ws ≡ good f → SameBefore 2 ws us → (m j : ℕ) → kind_line v us ≡ refused m j → 2 ≤ j
  kind_second ws us f e a m j d =
      let o = (kind_out v ws f e).passed in
      subst (OnlyAt P) d
      (kind_at_lem P v us (omega (arith, o.fits.three, a.many)) (λ three h. omega arith) (λ fits p. omega (arith, o.p_board, alike_word a 0 (omega arith)))
      (λ fits p h. omega arith))
    where
      P : ℕ → ℕ → Type 0
      P m j = 2 ≤ j

  -- lines that come after some are not refused before the place k, neither one of them nor, after all, with 11
  abbrev Past : List KindLine → ℕ → ℕ → List ℕ → Type 0
  Past earlier count k us =
      ((m j : ℕ) → section (kind_line v) count us ≡ refused m j → k ≤ j)
      × ((ls : List KindLine) → section (kind_line v) count us ≡ good ls → first_disagreeing earlier ls < length ls → k ≤ place earlier ls)

  -- us has the words before the place of 11 in f and some lines after it
  module _ (count : ℕ) (earlier : List KindLine) (ws us : List ℕ) (f : Front KindLine) (d : kind_line v ws ≡ good f) (ls : List KindLine)
      (a : SameBefore (place earlier (f.line ∷ ls)) ws us) where
    past_here : some_of (disagrees f.line) earlier ≡ true → Past earlier (suc count) (place earlier (f.line ∷ ls)) us
    unfolding place
    past_here t =
        let z = place_here earlier f.line ls t in (
          λ m j e.
              ⊎_elim (λ x. rw z (kind_second ws us f d (rw z at a) m j x))
              (λ (g, x). omega (arith, z, kind_long us g x, (section_after (kind_line v) count us g x m j e).2)) (section_at (kind_line v) count us m j e),
          λ ys e h. rw z (omega arith),
        )

    past_onward : some_of (disagrees f.line) earlier ≡ false → first_disagreeing earlier (f.line ∷ ls) < suc (length ls)
        → (let onward = earlier ++ (f.line ∷ []) in let rest = drop (length ws - length f.rest) us in
        first_disagreeing onward ls < length ls → SameBefore (place onward ls) f.rest rest → Past onward count (place onward ls) rest)
        → Past earlier (suc count) (place earlier (f.line ∷ ls)) us
    past_onward t h r =
        let u = length ws - length f.rest in
        let w : u ≡ 3 + length f.line.ways = kind_long ws f d in
        let z = place_onward earlier f.line ls t in
        let same = (local_kind v).same ws us f d (alike_less a u (omega arith)) in
        let after = alike_after a u (place (earlier ++ (f.line ∷ [])) ls) (omega arith) in
        let further = r (omega (arith, h, first_later earlier f.line ls t)) (rw (kind_suffix v ws f d).end at after) in (
          λ m j e.
              let (i, g, o) = section_after (kind_line v) count us _ same m j e in omega (arith, further.0 m i g, length-drop u us, a.many),
          λ ys e q.
              let (zs, g, o) = section_lines (kind_line v) count us _ same ys e in
              let some : first_disagreeing earlier (f.line ∷ zs) < suc (length zs) = rw o at q in
              rw o (omega (arith, further.1 zs g (omega (arith, first_later earlier f.line zs t)), place_onward earlier f.line zs t)),
        )

  -- that is so before the place of 11, if us has the words before it
  arity_late : (count : ℕ) (earlier : List KindLine) (ws us : List ℕ) (ks : List KindLine) → section (kind_line v) count ws ≡ good ks
      → first_disagreeing earlier ks < length ks → SameBefore (place earlier ks) ws us → Past earlier count (place earlier ks) us
  unfolding section
  arity_late zero earlier ws us ks e h a = absurd (omega (arith, section_counted (kind_line v) zero ws ks e))
  arity_late (suc count) earlier ws us ks e h a =
      let (f, d, g) = next_out (kind_line v ws) _ ks e in
      let (ls, x, y) = section_lines (kind_line v) count ws f d ks e in
      rw y (⊎_elim (λ t. past_here count earlier ws us f d ls (rw y at a) (T_true t))
      (λ t.
      past_onward count earlier ws us f d ls (rw y at a) (T_false (T_not (some_of (disagrees f.line) earlier) t)) (rw y at h)
      (arity_late count (earlier ++ (f.line ∷ [])) f.rest (drop (length ws - length f.rest) us) ls x))
      (T-decide (some_of (disagrees f.line) earlier)))

-- lines that are refused with 11 are so at that place
agreed_at : (ks : List KindLine) (n k : ℕ) → agreed ks ≡ refused n k → (n ≡ 11) × (k ≡ place [] ks) × (first_disagreeing [] ks < length ks)
unfolding agreed place
agreed_at ks n k e =
    subst (OnlyAt P) e
    (at_need P 11 (place [] ks) (eqb (first_disagreeing [] ks) (length ks)) (good ks)
    (λ f.
    let other : first_disagreeing [] ks ≡ length ks → ⊥ = T-differ {i = first_disagreeing [] ks} {j = length ks} f in
    (refl, refl, omega (arith, first_few [] ks))) (λ t. tt))
  where
    P : ℕ → ℕ → Type 0
    P n k = (n ≡ 11) × (k ≡ place [] ks) × (first_disagreeing [] ks < length ks)

-- the kind lines of a description, 11 included
abbrev pub agreed_lines : ℕ → ℕ → List ℕ → Reading (List KindLine)
agreed_lines v count ws = next (section (kind_line v) count ws) agreed

-- they keep their places: ws and us are refused at a line, or with 11
pub placing_agreed : (v count : ℕ) → Placing (λ ws. 0) (agreed_lines v count)
unfolding place
placing_agreed v count = record {
  within = λ ws n k e.
      ⊎_elim ((placing_kinds v count).within ws n k) (λ (ks, d, g).
      let (number, at, some) = agreed_at ks n k g in
      omega (arith, words_before ks (first_disagreeing [] ks) some, section_words v count ws ks d, at))
      (next_refused (section (kind_line v) count ws) agreed n k e);
  before = λ ws us n k e a t.
      late_each n k (agreed_lines v count us) (λ m j d h l.
      ⊎_elim
      (λ x.
      ⊎_elim (λ y. placing_late (section (kind_line v) count) (placing_kinds v count) ws us n k m j x y a h l) (λ (ls, y, g).
      omega (arith, (agreed_at ls m j g).0, subst (Only (λ n. n ≤ 4)) x (only_kinds (λ n. n ≤ 4) (omega arith) (omega arith) v count ws)))
      (next_refused (section (kind_line v) count us) agreed m j d))
      (λ (ks, x, g).
      let (number, at, some) = agreed_at ks n k g in
      let past = arity_late v count [] ws us ks x some (rw at at a) in
      ⊎_elim (λ y. omega (arith, past.0 m j y)) (λ (ls, y, o). let (eleven, here, more) = agreed_at ls m j o in omega (arith, past.1 ls y more))
      (next_refused (section (kind_line v) count us) agreed m j d))
      (next_refused (section (kind_line v) count ws) agreed n k e));
}
