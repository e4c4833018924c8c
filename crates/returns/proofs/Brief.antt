-- Words that are made of lines are read alike if the lines that are too long are cut to three words each. Assumes nothing.
use mathlib.Core.Path.{◌≡◌, refl, sym, ap, ap₂, ◌∙◌}
use mathlib.Core.Bool.{Bool, true, false}
use mathlib.Core.List.{List, [], ◌∷◌, ◌++◌, map}
use Prim.Native.Nat.{ℕ, suc, ◌+◌, ◌≤◌, ◌<◌}
use native.Mathlib.Omega.{arith}
use borrow.Author.Tests.{leb-true, leb-false}
use lib.Dec.{leb}
use lib.ListN.{length, get_or, length-map}
use Rattle.rules.specs.Descriptions.{most_expression_words, most_ways, RelationLine, KindLine, Sheet, Reading, good, refused, Front, later, relation_line, kind_line, agreed, read, describe}
use Rattle.rules.proofs.Members.{All}
use Rattle.rules.proofs.Readings.{never, next_out}
use Rattle.rules.proofs.Lines.{relation_no_length, relation_out, kind_no_number, kind_out}
use Rattle.typed.specs.Brief.{brief}
use Rattle.typed.proofs.Brief.{brief_whole}
use Rattle.returns.proofs.Sections.{IsLine, line, StandsAlone, leaving, relation_alone, kind_alone, line_by_line, section_lines, relation_section, kind_section, Reads, none, more, lines_read_lem}
use Rattle.returns.proofs.Headers.{in_range, range_out, kinds_at, lines_read, read_described}

-- ---- the lines, each by itself

-- words that describe lines are read by the numbers of boards and lines, and then line by line
whole_read : (v : ℕ) (rs ks : List (List ℕ)) → All IsLine rs → All IsLine ks
    → read (describe v rs ks)
    ≡ in_range v (length rs) (length ks) (lines_read v (kinds_at rs) (line_by_line (relation_line v) rs) (line_by_line (kind_line v) ks))
whole_read v rs ks h k = read_described v rs ks ∙ rw (relation_section v rs h, kind_section v ks k)

-- where they are good, each line is read by itself
pub lines_good : (v : ℕ) (rs ks : List (List ℕ)) → All IsLine rs → All IsLine ks → (s : Sheet) → read (describe v rs ks) ≡ good s
    → Reads (relation_line v) rs s.lines × Reads (kind_line v) ks s.kinds
lines_good v rs ks h k s e =
    go (line_by_line (relation_line v) rs) (line_by_line (kind_line v) ks) refl refl
    (range_out v (length rs) (length ks) _ s (sym (whole_read v rs ks h k) ∙ e)).1
  where
    go : (a : Reading (List RelationLine)) (b : Reading (List KindLine)) → line_by_line (relation_line v) rs ≡ a → line_by_line (kind_line v) ks ≡ b
        → lines_read v (kinds_at rs) a b ≡ good s → Reads (relation_line v) rs s.lines × Reads (kind_line v) ks s.kinds
    go (good ls) (good ms) p q d =
        let (ns, a, b) = next_out (later (kinds_at rs) (agreed ms)) _ s d in
        let same : record { boards = v; lines = ls; kinds = ms } ≡ s = cc in (
          lines_read_lem (relation_line v) rs s.lines (p ∙ ap (λ (t : Sheet). good t.lines) same),
          lines_read_lem (kind_line v) ks s.kinds (q ∙ ap (λ (t : Sheet). good t.kinds) same),
        )
    go (good ls) (refused n i) p q d = never n (kinds_at rs + i) s d
    go (refused n i) b p q d = never n (6 + i) s d

-- ---- the lines cut

-- where a line that is too long is refused by its length alone, three words with a length that is one too many stand for it
brief_alone : {X : Type 0} (read : List ℕ → Reading (Front X)) (m : ℕ) → StandsAlone read (λ w. w)
    → ((p q n : ℕ) (us : List ℕ) → m < n → read (p ∷ q ∷ n ∷ us) ≡ refused 3 2) → StandsAlone read (brief m)
unfolding brief
brief_alone read m alone long w rest (line p q es) = go (leb (length es) m) refl
  where
    go : (b : Bool) → leb (length es) m ≡ b
        → read (elim b [ true ↦ p ∷ q ∷ length es ∷ es | false ↦ p ∷ q ∷ suc m ∷ [] ] ++ rest) ≡ leaving rest (read (p ∷ q ∷ length es ∷ es))
    go true e = alone (p ∷ q ∷ length es ∷ es) rest (line p q es)
    go false e = long p q (suc m) rest (omega arith) ∙ sym (ap (leaving rest) (long p q (length es) es (leb-false (length es) m e)))

-- so do those of a relation line, and of a kind line
relation_brief : (v : ℕ) → StandsAlone (relation_line v) (brief most_expression_words)
relation_brief v =
    brief_alone (relation_line v) most_expression_words (relation_alone v)
    (λ p q n us h. relation_no_length v (p ∷ q ∷ n ∷ us) (omega arith) (λ low high. omega arith))

kind_brief : (v : ℕ) → StandsAlone (kind_line v) (brief most_ways)
kind_brief v =
    brief_alone (kind_line v) most_ways (kind_alone v) (λ p c n us h. kind_no_number v (p ∷ c ∷ n ∷ us) (omega arith) (omega arith))

-- a line has few words then
pub brief_few : (m : ℕ) {w : List ℕ} → IsLine w → length (brief m w) ≤ 3 + m
unfolding brief
brief_few m (line p q es) = go (leb (length es) m) refl
  where
    go : (b : Bool) → leb (length es) m ≡ b → length {A = ℕ} (elim b [ true ↦ p ∷ q ∷ length es ∷ es | false ↦ p ∷ q ∷ suc m ∷ [] ]) ≤ 3 + m
    go true e = omega (arith, leb-true (length es) m e)
    go false e = omega arith

-- ---- what is good is not cut

-- lines that are good are not too long
uncut : {X : Type 0} (read : List ℕ → Reading (Front X)) (m : ℕ) → ((w : List ℕ) (f : Front X) → read w ≡ good f → get_or w 2 0 ≤ m)
    → {ws : List (List ℕ)} {xs : List X} → Reads read ws xs → map (brief m) ws ≡ ws
uncut read m within none = refl
uncut read m within (more {w} f e r) = ap₂ (λ (u : List ℕ) (us : List (List ℕ)). u ∷ us) (brief_whole m w (within w f e)) (uncut read m within r)

-- so they have as many words
good_length : {X : Type 0} (read : List ℕ → Reading (Front X)) (m : ℕ) → ((w : List ℕ) (f : Front X) → read w ≡ good f → get_or w 2 0 ≤ m)
    → (w : List ℕ) (f : Front X) → read w ≡ good f → length (brief m w) ≡ length w
good_length read m within w f e = ap length (brief_whole m w (within w f e))

relation_high : (v : ℕ) (w : List ℕ) (f : Front RelationLine) → relation_line v w ≡ good f → get_or w 2 0 ≤ most_expression_words
relation_high v w f e = (relation_out v w f e).passed.fits.high

kind_high : (v : ℕ) (w : List ℕ) (f : Front KindLine) → kind_line v w ≡ good f → get_or w 2 0 ≤ most_ways
kind_high v w f e = (kind_out v w f e).passed.fits.high

-- words that describe lines are read as if the lines that are too long were cut
pub brief_read : (v : ℕ) (rs ks : List (List ℕ)) → All IsLine rs → All IsLine ks
    → read (describe v rs ks) ≡ read (describe v (map (brief most_expression_words) rs) (map (brief most_ways) ks))
brief_read v rs ks h k =
    let f = brief most_expression_words in
    let g = brief most_ways in
    let cut = section_lines (relation_line v) f (relation_brief v) (good_length (relation_line v) most_expression_words (relation_high v)) rs h in
    let cut-kinds = section_lines (kind_line v) g (kind_brief v) (good_length (kind_line v) most_ways (kind_high v)) ks k in
    whole_read v rs ks h k ∙ ap (in_range v (length rs) (length ks)) (go (line_by_line (relation_line v) rs) refl)
    ∙ sym (read_described v (map f rs) (map g ks) ∙ rw (cut, cut-kinds, length-map rs f, length-map ks g))
  where
    -- the kind lines begin elsewhere only if a relation line is cut, and then it is refused
    go : (r : Reading (List RelationLine)) → line_by_line (relation_line v) rs ≡ r
        → lines_read v (kinds_at rs) r (line_by_line (kind_line v) ks) ≡ lines_read v (kinds_at (map (brief most_expression_words) rs)) r (line_by_line (kind_line v) ks)
    go (refused n i) e = refl
    go (good ls) e = rw (uncut (relation_line v) most_expression_words (relation_high v) (lines_read_lem (relation_line v) rs ls e))

-- where the words are good, no line is cut
pub brief_good : (v : ℕ) (rs ks : List (List ℕ)) → All IsLine rs → All IsLine ks → (s : Sheet) → read (describe v rs ks) ≡ good s
    → describe v (map (brief most_expression_words) rs) (map (brief most_ways) ks) ≡ describe v rs ks
brief_good v rs ks h k s e =
    let (r, q) = lines_good v rs ks h k s e in
    ap₂ (describe v) (uncut (relation_line v) most_expression_words (relation_high v) r)
    (uncut (kind_line v) most_ways (kind_high v) q)
