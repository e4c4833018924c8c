-- A text that writes a description: no line of it is empty, and how its words are refused, or how many they are. Assumes nothing.
use mathlib.Core.Path.{◌≡◌, refl, sym, ap, ◌∙◌, subst}
use mathlib.Core.Bool.{◌&&◌}
use mathlib.Core.Logic.{◌⊎◌, inl, inr, ⊎_elim}
use mathlib.Core.List.Memᴰ
use mathlib.Core.List.{List, [], ◌∷◌, ◌++◌, map, flatten, Memᴰ}
use Prim.Native.Nat.{ℕ, ◌+◌, ◌≤◌, ◌<◌}
use native.Mathlib.Nat.{zero-add}
use native.Mathlib.Omega.{arith}
use lib.Dec.{T_not, leb, leb→le, nleb→lt}
use lib.ListN.{length, get_or, length-append}
use Rattle.rules.specs.Descriptions.{most_boards, most_lines, most_kinds, most_expression_words, most_ways, most_words, RelationLine, Sheet, Reading, good, refused, Front, later, relation_line, kind_line, section, both_read, read, describe}
use Rattle.rules.proofs.Tests.{clash, T-decide}
use Rattle.rules.proofs.Readings.{next_out, later_out}
use Rattle.rules.proofs.Headers.{between_in, between_out}
use Rattle.rules.proofs.Members.{All, append_left}
use Rattle.rules.proofs.Lines.{relation_no_length}
use Rattle.typed.specs.Symbols.{symbols_in, symbols}
use Rattle.typed.specs.Grammar.{lines_of, LinesTyped, none, relation_next, kind_next, SheetTyped}
use Rattle.typed.specs.Sheets.{malformed_line, line_of, no_boards, first_of}
use Rattle.typed.specs.Brief.{brief}
use Rattle.meanings.proofs.Outcomes.{relation_line_lem, kind_line_lem, first_line}
use Rattle.returns.proofs.Sections.{IsLine, line, line_by_line, relation_section, Reads, lines_read_lem}
use Rattle.returns.proofs.Sections as sections
use Rattle.reading.proofs.Making.{typed_lines}
use Rattle.returns.proofs.Headers.{range_boards, range_lines, range_kinds, range_in, InRange, range_out, kinds_at, lines_read, read_described, never_misplaced}
use Rattle.returns.proofs.Brief.{brief_good}
use Rattle.text_lines.proofs.Storing.{lines_few}
use Rattle.sheet_texts.specs.Sheets.{Good}

-- ---- empty lines

empty_malformed : line_of (symbols []) ≡ malformed_line
unfolding symbols symbols_in line_of
empty_malformed = refl

empty_no_boards : first_of (symbols []) ≡ no_boards
unfolding symbols symbols_in first_of
empty_no_boards = refl

none_empty : {ls rs ks : List (List ℕ)} → LinesTyped ls rs ks → Memᴰ [] ls → ⊥
none_empty none m = Memᴰ.not-nil m
none_empty (relation_next s r d) m = ⊎_elim (λ e. clash (cc (relation_line_lem s r, empty_malformed))) (none_empty d) (Memᴰ.cases_cons m)
none_empty (kind_next s k d) m = ⊎_elim (λ e. clash (cc (kind_line_lem s k, empty_malformed))) (none_empty d) (Memᴰ.cases_cons m)

-- no line of a text that writes a description is empty
pub typed_none_empty : {text ws : List ℕ} → SheetTyped text ws → Memᴰ [] (lines_of text) → ⊥
typed_none_empty t m =
    ⊎_elim (λ e. clash (cc (first_line t.opens, empty_no_boards))) (none_empty t.follow) (Memᴰ.cases_cons (rw t.lines at m))

-- ---- the words of lines

-- a line has three words at least
line_words_lem : {w : List ℕ} → IsLine w → 3 ≤ length w
line_words_lem (line p q es) = omega arith

-- ---- of words that describe lines

module _ (v : ℕ) (rs ks : List (List ℕ)) where
  abbrev rest : Reading Sheet
  rest = lines_read v (kinds_at rs) (section (relation_line v) (length rs) (flatten rs)) (section (kind_line v) (length ks) (flatten ks))

  -- too many lines of a sort, at their number; or at the number of boards, if that is out of range
  module _ (some : 1 ≤ v) (most : v ≤ most_boards) where
    many_relations : most_lines < length rs → read (describe v rs ks) ≡ refused 1 1
    many_relations h = read_described v rs ks ∙ range_lines v (length rs) (length ks) rest some most h

    many_kinds : length rs ≤ most_lines → most_kinds < length ks → read (describe v rs ks) ≡ refused 1 2
    many_kinds few h = read_described v rs ks ∙ range_kinds v (length rs) (length ks) rest some most few h

  many_refused : (most_lines < length rs) ⊎ (most_kinds < length ks) → (k : ℕ) × (read (describe v rs ks) ≡ refused 1 k)
  many_refused m =
      ⊎_elim
      (λ t.
      let (low, high) = between_out 1 v most_boards t in
      ⊎_elim (λ u. (2, many_kinds low high (leb→le (length rs) most_lines u) (kinds_many (leb→le (length rs) most_lines u) m)))
      (λ u. (1, many_relations low high (nleb→lt (length rs) most_lines u))) (T-decide (leb (length rs) most_lines)))
      (λ f.
      (0, read_described v rs ks ∙ range_boards v (length rs) (length ks) rest (λ a b. T_not (leb 1 v && leb v most_boards) f (between_in 1 v most_boards a b))))
      (T-decide (leb 1 v && leb v most_boards))
    where
      kinds_many : length rs ≤ most_lines → (most_lines < length rs) ⊎ (most_kinds < length ks) → most_kinds < length ks
      kinds_many l (inl h) = absurd (omega arith)
      kinds_many l (inr h) = h

  -- of good words: the numbers are in range, and the relation lines are read one by one
  good_within : (s : Sheet) → read (describe v rs ks) ≡ good s → InRange v (length rs) (length ks)
  good_within s e = (range_out v (length rs) (length ks) rest s (sym (read_described v rs ks) ∙ e)).0

  good_lines : All IsLine rs → (s : Sheet) → read (describe v rs ks) ≡ good s → (ls : List RelationLine) × Reads (relation_line v) rs ls
  good_lines h s e =
      let own = section (relation_line v) (length rs) (flatten rs) in
      let kinds = section (kind_line v) (length ks) (flatten ks) in
      let after = (range_out v (length rs) (length ks) rest s (sym (read_described v rs ks) ∙ e)).1 in
      let (u, m, a) = next_out (both_read v (later 6 own) (later (kinds_at rs) kinds)) _ s after in
      let (ls, d, f) = next_out (later 6 own) _ u m in
      (ls, lines_read_lem (relation_line v) rs ls (sym (relation_section v rs h) ∙ later_out 6 own ls d))

-- the first line that is refused refuses all, after the words of the lines before it
after_good : {X : Type 0} (reads : List ℕ → Reading (Front X)) (n k : ℕ) (r : List ℕ) (us : List (List ℕ)) → reads r ≡ refused n k
    → {rs : List (List ℕ)} {xs : List X} → Reads reads rs xs → line_by_line reads (rs ++ (r ∷ us)) ≡ refused n (length (flatten rs) + k)
unfolding line_by_line flatten
after_good reads n k r us e sections.none = rw (e, zero-add k)
after_good reads n k r us e (sections.more {w} {ws = rs} f d g) =
    let l : length w + (length (flatten rs) + k) ≡ length (w ++ flatten rs) + k = omega (arith, length-append w (flatten rs)) in
    rw (d, after_good reads n k r us e g, l)

-- too long an expression, at its length
long_refused : (v : ℕ) (rs us ks : List (List ℕ)) (r : List ℕ) → All IsLine (rs ++ (r ∷ us)) → length (rs ++ (r ∷ us)) ≤ most_lines
    → length ks ≤ most_kinds → Good (describe v rs []) → most_expression_words < get_or r 2 0
    → read (describe v (rs ++ (r ∷ us)) ks) ≡ refused 3 (6 + (length (flatten rs) + 2))
long_refused v rs us ks r h l k g m =
    let all = rs ++ (r ∷ us) in
    let (ls, d) = good_lines v rs [] (append_left IsLine rs (r ∷ us) h) g.sheet g.reads in
    let three : 3 ≤ length r = line_words_lem (h r (Memᴰ.append_right rs (Memᴰ.head refl))) in
    let misfit : relation_line v r ≡ refused 3 2 = relation_no_length v r three (λ low high. omega arith) in
    let boards = good_within v rs [] g.sheet g.reads in
    read_described v all ks ∙ range_in v (length all) (length ks) (rest v all ks) boards.some boards.boards l k
    ∙ rw (relation_section v all h, after_good (relation_line v) 3 2 r us misfit d)

-- ---- of words that a text writes

module _ {text ws : List ℕ} (t : SheetTyped text ws) where
  -- their header is right
  pub typed_never_2 : (k : ℕ) → read ws ≡ refused 2 k → ⊥
  typed_never_2 k e = never_misplaced t.v t.relations t.kinds k (rw t.makes at e)

  pub typed_many : (most_lines < length t.relations) ⊎ (most_kinds < length t.kinds) → (k : ℕ) × (read ws ≡ refused 1 k)
  typed_many m = let (k, e) = many_refused t.v t.relations t.kinds m in (k, rw t.makes e)

  -- with boards in range, at the number of the lines that are too many
  module _ (some : 1 ≤ t.v) (most : t.v ≤ most_boards) where
    pub typed_many_relations : most_lines < length t.relations → read ws ≡ refused 1 1
    typed_many_relations h = rw t.makes (many_relations t.v t.relations t.kinds some most h)

    pub typed_many_kinds : length t.relations ≤ most_lines → most_kinds < length t.kinds → read ws ≡ refused 1 2
    typed_many_kinds few h = rw t.makes (many_kinds t.v t.relations t.kinds some most few h)

  pub typed_long : length t.relations ≤ most_lines → length t.kinds ≤ most_kinds → (rs us : List (List ℕ)) (r : List ℕ)
      → t.relations ≡ rs ++ (r ∷ us) → Good (describe t.v rs []) → most_expression_words < get_or r 2 0
      → read ws ≡ refused 3 (6 + (length (flatten rs) + 2))
  typed_long l k rs us r e g m =
      rw (t.makes, e)
      (long_refused t.v rs us t.kinds r (subst (All IsLine) e (typed_lines t.follow).0) (rw e at l) k g m)

  -- no line of good words is cut, so they are no more than the longest description has
  pub typed_few : (s : Sheet) → read ws ≡ good s → length ws ≤ most_words
  typed_few s e =
      let (h, k) = typed_lines t.follow in
      let f = brief most_expression_words in
      let g = brief most_ways in
      let d : read (describe t.v t.relations t.kinds) ≡ good s = ap read (sym t.makes) ∙ e in
      let cut = brief_good t.v t.relations t.kinds h k s d in
      let n = good_within t.v t.relations t.kinds s d in
      omega (
        arith,
        ap length (t.makes ∙ sym cut),
        length-append (flatten (map f t.relations)) (flatten (map g t.kinds)),
        lines_few most_expression_words t.relations h,
        lines_few most_ways t.kinds k,
        n.relations,
        n.kinds,
      )
