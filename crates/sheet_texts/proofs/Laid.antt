-- How the words of a good description are laid out: a header, relation lines and kind lines, whose numbers are small. Assumes nothing.
use mathlib.Core.Path.{◌≡◌, refl, subst}
use mathlib.Core.Logic.{⊎_elim}
use mathlib.Core.List.Memᴰ
use mathlib.Core.List.{List, [], ◌∷◌, ◌++◌, flatten, append_assoc, append-nil}
use Prim.Native.Nat.{ℕ, ◌≤◌}
use native.Mathlib.Omega.{arith}
use lib.ListN.{length, get_or, drop, length-append}
use lib.Seq.{take-append_seam, take-length, drop-append_seam, drop-drop}
use Rattle.rules.specs.Expressions.{written}
use Rattle.rules.specs.Descriptions.{most_boards, Sheet, Reading, good, Front, relation_line, kind_line, read, describe}
use Rattle.rules.proofs.Members.{All, at_member}
use Rattle.rules.proofs.Headers.{InRange}
use Rattle.rules.proofs.Descriptions.{read_out}
use Rattle.rules.proofs.Lines.{relation_out, kind_out, boards_only_out}
use Rattle.typed.specs.Symbols.{most_number}
use Rattle.returns.proofs.Sections.{Reads, none, more}
use Rattle.returns.proofs.Brief.{lines_good}
use Rattle.returns.proofs.Written.{Typable, TypableRelation, typable_relation, relation_line_lem, TypableKind, typable_kind, kind_line_lem}
use Rattle.returns.proofs.Back.{read_lines}
use Rattle.sheet_texts.specs.Lines.{IsRelation, IsKind, HasLines}

-- the words of a slice, which are each at most 65535, can be typed
pub words_typable : (ws : List ℕ) → ((i : ℕ) → get_or ws i 0 ≤ most_number) → All Typable ws
words_typable ws h w m = let (i, l, e) = at_member ws w m in omega (arith, h i, e)

-- ---- a line

-- the words of such a line, and no others
data Stands (P : ℕ → ℕ → List ℕ → Type 0) : List ℕ → Type 0 where
  stands : (p q : ℕ) (es : List ℕ) → P p q es → Stands P (p ∷ q ∷ length es ∷ es)

-- a line that was read is one of these, for at most 16 boards
relation_stands : (v : ℕ) → v ≤ most_boards → {w : List ℕ} → TypableRelation w → ((f : Front _) × (relation_line v w ≡ good f)) → Stands IsRelation w
relation_stands v h (typable_relation p q e a b) (f, d) =
    let r = (relation_out v (p ∷ q ∷ length (written e) ∷ written e) f d).passed in
    stands p q (written e)
    (record { p_board = omega (arith, r.p_board); q_board = omega (arith, r.q_board); few = r.fits.high; phrase = e; words = refl })

kind_stands : (v : ℕ) → v ≤ most_boards → {w : List ℕ} → TypableKind w → ((f : Front _) × (kind_line v w ≡ good f)) → Stands IsKind w
kind_stands v h (typable_kind p c ys a b g) (f, d) =
    let r = (kind_out v (p ∷ c ∷ length ys ∷ ys) f d).passed in
    let all = rw (take-length ys) at r.way_boards in
    stands p c ys
    (record { p_board = omega (arith, r.p_board); code = b; few = r.fits.high; boards = λ i l. omega (arith, boards_only_out v ys all i l) })

-- each of some lines that were read was read
each_read : {X : Type 0} (read : List ℕ → Reading (Front X)) {ls : List (List ℕ)} {xs : List X} → Reads read ls xs
    → All (λ w. (f : Front X) × (read w ≡ good f)) ls
each_read read none w m = absurd (Memᴰ.not-nil m)
each_read read (more {w = u} f e r) w m =
    ⊎_elim (λ (d : w ≡ u). rw d (f, e)) (λ n. each_read read r w n) (Memᴰ.cases_cons m)

-- ---- the lines of a section

-- words that are made of such lines begin with them
lines_begin : (P : ℕ → ℕ → List ℕ → Type 0) (ls : List (List ℕ)) → All (Stands P) ls → (rest : List ℕ) → HasLines P (length ls) (flatten ls ++ rest)
unfolding HasLines flatten
lines_begin P [] h rest = tt
lines_begin P (w ∷ ls) h rest = go (h w (Memᴰ.head refl)) (lines_begin P ls (λ u m. h u (Memᴰ.tail m)) rest)
  where
    go : {w : List ℕ} → Stands P w → HasLines P (length ls) (flatten ls ++ rest) → HasLines P (length (w ∷ ls)) ((w ++ flatten ls) ++ rest)
    go (stands p q es such) others =
        let more = flatten ls ++ rest in
        rw (append_assoc es (flatten ls) rest) (
          record { inside = omega (arith, length-append es more); such = rw (take-append_seam es more) such },
          rw (← (drop-drop (length es) 3 (p ∷ q ∷ length es ∷ (es ++ more))), drop-append_seam es more) others,
        )

-- ---- a description

-- a header whose numbers are in range, the relation lines after it, and the kind lines where it says
pub record Laid (ws : List ℕ) : Type 0 where
  pub numbers : InRange ws
  pub within : get_or ws 4 0 ≤ length ws
  pub relations : HasLines IsRelation (get_or ws 1 0) (drop 6 ws)
  pub kinds : HasLines IsKind (get_or ws 2 0) (drop (get_or ws 4 0) ws)

described_laid : (v : ℕ) (rs ks : List (List ℕ)) → All TypableRelation rs → All TypableKind ks → (s : Sheet) → read (describe v rs ks) ≡ good s
    → Laid (describe v rs ks)
described_laid v rs ks f g s e =
    let ws = describe v rs ks in
    let r = (read_out ws s e).taken.numbers in
    let (a, b) = lines_good v rs ks (λ w m. relation_line_lem (f w m)) (λ w m. kind_line_lem (g w m)) s e in
    let last = lines_begin IsKind ks (λ w m. kind_stands v r.boards (g w m) (each_read (kind_line v) b w m)) [] in
    record {
      numbers = r;
      within = omega (arith, length-append (flatten rs) (flatten ks));
      relations = lines_begin IsRelation rs (λ w m. relation_stands v r.boards (f w m) (each_read (relation_line v) a w m)) (flatten ks);
      kinds = rw (← (drop-drop (length (flatten rs)) 6 ws), drop-append_seam (flatten rs) (flatten ks)) (rw append-nil at last);
    }

-- the words of a good description are laid out so
pub good_laid : (ws : List ℕ) (s : Sheet) → All Typable ws → read ws ≡ good s → Laid ws
good_laid ws s h e =
    let d = read_lines ws s h e in
    rw d.words
    (described_laid d.v d.relations d.kinds d.expressions d.ways s (subst (λ (us : List ℕ). read us ≡ good s) d.words e))
