-- The words of kind lines: those of a line, of the lines that fill a section, and of the first of them. Assumes nothing.
use mathlib.Core.Path.{◌≡◌, sym, ap, ◌∙◌, subst}
use mathlib.Core.List.{List, [], ◌∷◌, ◌++◌}
use Prim.Native.Nat.{ℕ, zero, suc, ◌+◌, ◌-◌, ◌≤◌, ◌<◌}
use native.Mathlib.Omega.{arith}
use lib.ListN.{length, get_or, take}
use lib.Seq.{get_or-drop}
use Rattle.rules.specs.Descriptions.{KindLine, good, Front, kind_line, section, kind_words}
use Rattle.rules.proofs.Tests.{clash}
use Rattle.rules.proofs.Readings.{never, section_first}
use Rattle.rules.proofs.Lines.{KindRead, kind_out, kind_suffix, ways_length, after_line}

-- a kind line has the words before those after it
pub line_words_lem : (v : ℕ) (ws : List ℕ) (f : Front KindLine) → kind_line v ws ≡ good f → 3 + length f.line.ways + length f.rest ≡ length ws
line_words_lem v ws f e =
    let r : KindRead v ws f = kind_out v ws f e in
    subst (λ (g : Front KindLine). 3 + length g.line.ways + length g.rest ≡ length ws) r.front
    (omega (arith, ways_length v ws r.passed.fits, after_line (get_or ws 2 0) ws, r.passed.fits.three, r.passed.fits.room))

-- kind lines that fill a section have all of its words
pub section_words : (v n : ℕ) (ws : List ℕ) (ks : List KindLine) → section (kind_line v) n ws ≡ good ks → kind_words ks ≡ length ws
unfolding section kind_words
section_words v zero [] ks e = let d : [] ≡ ks = cc in ap kind_words (sym d)
section_words v zero (w ∷ ws) ks e = never 3 0 ks e
section_words v (suc n) ws ks e =
    let (f, d, ls, a, same) = section_first (kind_line v) n ws ks e in
    ap kind_words same ∙ omega (arith, section_words v n f.rest ls a, line_words_lem v ws f d)

-- a line more has its words more
pub words_more : (ks : List KindLine) (k : KindLine) → kind_words (ks ++ (k ∷ [])) ≡ kind_words ks + (3 + length k.ways)
unfolding kind_words
words_more [] k = omega arith
words_more (x ∷ ks) k = omega (arith, words_more ks k)

-- the first so many lines, and a line after them
pub words_before : (ks : List KindLine) (n : ℕ) → n < length ks → kind_words (take n ks) + 3 ≤ kind_words ks
unfolding kind_words
words_before [] n h = let z : ⊥ = omega arith in absurd z
words_before (k ∷ ks) zero h = omega arith
words_before (k ∷ ks) (suc n) h = omega (arith, words_before ks n (omega (arith, h)))

-- the number of ways of a line, after the words of the lines before it and its first two
pub ways_word : (v n : ℕ) (ws : List ℕ) (xs : List KindLine) (k : KindLine) (ys : List KindLine) → section (kind_line v) n ws ≡ good (xs ++ (k ∷ ys))
    → get_or ws (kind_words xs + 2) 0 ≡ length k.ways
unfolding section kind_words
ways_word v zero [] [] k ys e = clash (cc)
ways_word v zero [] (x ∷ xs) k ys e = clash (cc)
ways_word v zero (w ∷ ws) xs k ys e = never 3 0 (xs ++ (k ∷ ys)) e
ways_word v (suc n) ws [] k ys e =
    let (f, d, ls, a, same) = section_first (kind_line v) n ws (k ∷ ys) e in
    let r : KindRead v ws f = kind_out v ws f d in
    let line : k ≡ f.line = cc in
    let number : length f.line.ways ≡ get_or ws 2 0 = subst (λ (g : Front KindLine). length g.line.ways ≡ get_or ws 2 0) r.front (ways_length v ws r.passed.fits) in
    sym number ∙ ap (λ (l : KindLine). length l.ways) (sym line)
ways_word v (suc n) ws (x ∷ xs) k ys e =
    let (f, d, ls, a, same) = section_first (kind_line v) n ws (x ∷ (xs ++ (k ∷ ys))) e in
    let line : x ≡ f.line = cc in
    let rest : ls ≡ xs ++ (k ∷ ys) = cc in
    let s = kind_suffix v ws f d in
    let u = length ws - length f.rest in
    let at : 3 + length x.ways + kind_words xs + 2 ≡ u + (kind_words xs + 2) = omega (arith, line_words_lem v ws f d, ap (λ (l : KindLine). length l.ways) line) in
    ap (λ (i : ℕ). get_or ws i 0) at ∙ sym (get_or-drop u ws (kind_words xs + 2) 0) ∙ ap (λ (us : List ℕ). get_or us (kind_words xs + 2) 0) s.end
    ∙ ways_word v n f.rest xs k ys (a ∙ ap good rest)
