-- The text of words that describe lines which can be typed writes these words. Assumes nothing.
use mathlib.Core.Path.{◌≡◌, refl, ap, subst}
use mathlib.Core.List.Memᴰ
use mathlib.Core.List.{List, [], ◌∷◌, ◌++◌, map, flatten, append_assoc, append-nil}
use Prim.Native.Nat.{ℕ, suc, ◌≤◌}
use native.Mathlib.Omega.{arith}
use lib.Dec.{T, le→leb}
use lib.ListN.{length, get_or, drop}
use lib.Seq.{take-append_seam, drop-append_seam, drop-drop}
use Rattle.rules.specs.Relations.{each_of}
use Rattle.rules.specs.Expressions.{Phrase, written}
use Rattle.rules.specs.Descriptions.{describe}
use Rattle.rules.proofs.Members.{All, all_one, all_append}
use Rattle.typed.specs.Symbols.{Symbol, boards, colon, left_paren, right_paren, number, most_number, known}
use Rattle.typed.specs.Grammar.{RelationTyped, relation, KindTyped, kind, LinesTyped, none, relation_next, kind_next, SheetTyped}
use Rattle.typed.specs.Writing.{typing, phrase_of, relation_typing, kind_typing, lines_typing, sheet_typing, text_of}
use Rattle.spelled.proofs.Words.{each_both}
use Rattle.phrases.proofs.Meaning.{phrase_of_written}
use Rattle.parens.proofs.Typing.{typing_writes, known_append, typing_known}
use Rattle.returns.proofs.Sections.{IsLine, line}
use Rattle.returns.proofs.Texts.{line_bytes, line_spelled, text_lines}

-- ---- the symbols of words that describe lines

-- a line's symbols, by its first two words and those after the length
abbrev symbols_of : (ℕ → ℕ → List ℕ → List Symbol) → List ℕ → List Symbol
symbols_of typing w = typing (get_or w 0 0) (get_or w 1 0) (drop 3 w)

-- lines are typed line by line
lines_typing_lem : (typing : ℕ → ℕ → List ℕ → List Symbol) (ls : List (List ℕ)) → All IsLine ls → (rest : List ℕ)
    → lines_typing typing (length ls) (flatten ls ++ rest) ≡ map (symbols_of typing) ls
unfolding lines_typing flatten
lines_typing_lem typing [] h rest = refl
lines_typing_lem typing (w ∷ ls) h rest = go (h w (Memᴰ.head refl)) (lines_typing_lem typing ls (λ u m. h u (Memᴰ.tail m)) rest)
  where
    go : {w : List ℕ} → IsLine w → lines_typing typing (length ls) (flatten ls ++ rest) ≡ map (symbols_of typing) ls
        → lines_typing typing (suc (length ls)) ((w ++ flatten ls) ++ rest) ≡ symbols_of typing w ∷ map (symbols_of typing) ls
    go (line p q es) e =
        let more = flatten ls ++ rest in
        rw (
          append_assoc es (flatten ls) rest,
          take-append_seam es more,
          ← (drop-drop (length es) 3 (p ∷ q ∷ length es ∷ (es ++ more))),
          drop-append_seam es more,
        )
        (ap (λ (ts : List (List Symbol)). typing p q es ∷ ts) e)

-- the symbols of words that describe lines: the number of boards, then those of each line
sheet_typing_lem : (v : ℕ) (rs ks : List (List ℕ)) → All IsLine rs → All IsLine ks
    → sheet_typing (describe v rs ks) ≡ (boards ∷ number v ∷ []) ∷ (map (symbols_of relation_typing) rs ++ map (symbols_of kind_typing) ks)
unfolding sheet_typing
sheet_typing_lem v rs ks h k =
    let last = rw append-nil at (lines_typing_lem kind_typing ks k []) in
    rw (
      lines_typing_lem relation_typing rs h (flatten ks),
      ← (drop-drop (length (flatten rs)) 6 (describe v rs ks)),
      drop-append_seam (flatten rs) (flatten ks),
      last,
    )

-- ---- lines that can be typed

-- the number is one that a symbol can be, as every word of 16 bits is
abbrev pub Typable : ℕ → Type 0
Typable n = n ≤ most_number

-- the words of a relation line of an expression, and of a kind line, whose numbers can be typed
pub data TypableRelation : List ℕ → Type 0 where
  typable_relation : (p q : ℕ) (e : Phrase) → Typable p → Typable q → TypableRelation (p ∷ q ∷ length (written e) ∷ written e)

pub data TypableKind : List ℕ → Type 0 where
  typable_kind : (p c : ℕ) (ys : List ℕ) → Typable p → Typable c → All Typable ys → TypableKind (p ∷ c ∷ length ys ∷ ys)

-- they are lines
pub relation_line_lem : {w : List ℕ} → TypableRelation w → IsLine w
relation_line_lem (typable_relation p q e h k) = line p q (written e)

pub kind_line_lem : {w : List ℕ} → TypableKind w → IsLine w
kind_line_lem (typable_kind p c ys h k f) = line p c ys

-- their symbols are known
numbers_known : (n : ℕ) (ss : List Symbol) → Typable n → T (each_of known ss) → T (each_of known (number n ∷ ss))
unfolding known
numbers_known n ss h t = each_both known (number n) ss (le→leb n most_number h) t

relation_known : {w : List ℕ} → TypableRelation w → T (each_of known (symbols_of relation_typing w))
relation_known (typable_relation p q e h k) =
    let t = typing 0 (phrase_of (written e)) in
    numbers_known p (t ++ (number q ∷ [])) h (known_append t (number q ∷ []) (typing_known 0 (phrase_of (written e))) (numbers_known q [] k tt))

ways_known : (ys : List ℕ) → All Typable ys → T (each_of known (map number ys ++ (right_paren ∷ [])))
unfolding known
ways_known [] h = tt
ways_known (y ∷ ys) h =
    numbers_known y (map number ys ++ (right_paren ∷ [])) (h y (Memᴰ.head refl)) (ways_known ys (λ x m. h x (Memᴰ.tail m)))

kind_known : {w : List ℕ} → TypableKind w → T (each_of known (symbols_of kind_typing w))
unfolding known
kind_known (typable_kind p c ys h k f) =
    let t = left_paren ∷ (map number ys ++ (right_paren ∷ [])) in
    numbers_known p (colon ∷ number c ∷ t) h (numbers_known c t k (ways_known ys f))

-- and write them
relation_typed : {w : List ℕ} → TypableRelation w → RelationTyped (symbols_of relation_typing w) w
relation_typed (typable_relation p q e h k) = rw phrase_of_written (relation p q (typing_writes 0 (omega arith) e))

kind_typed_lem : {w : List ℕ} → TypableKind w → KindTyped (symbols_of kind_typing w) w
kind_typed_lem (typable_kind p c ys h k f) = kind p c ys

-- so the lines that are written follow one another, relation lines first
kinds_follow : (ks : List (List ℕ)) → All TypableKind ks → LinesTyped (map line_bytes (map (symbols_of kind_typing) ks)) [] ks
kinds_follow [] g = none
kinds_follow (w ∷ ks) g =
    let k = g w (Memᴰ.head refl) in
    kind_next (line_spelled (symbols_of kind_typing w) (kind_known k)) (kind_typed_lem k) (kinds_follow ks (λ u m. g u (Memᴰ.tail m)))

lines_follow : (rs ks : List (List ℕ)) → All TypableRelation rs → All TypableKind ks
    → LinesTyped (map line_bytes (map (symbols_of relation_typing) rs ++ map (symbols_of kind_typing) ks)) rs ks
lines_follow [] ks f g = kinds_follow ks g
lines_follow (w ∷ rs) ks f g =
    let r = f w (Memᴰ.head refl) in
    relation_next (line_spelled (symbols_of relation_typing w) (relation_known r)) (relation_typed r) (lines_follow rs ks (λ u m. f u (Memᴰ.tail m)) g)

-- ---- the text

-- what holds of each element put through f holds of each of the list so made
pub all_map : {X Y : Type 0} (P : Y → Type 0) (f : X → Y) (xs : List X) → All (λ x. P (f x)) xs → All P (map f xs)
all_map P f xs h y m = let (x, n, e) = Memᴰ.of_map f xs m in subst P e (h x n)

-- the text of words that describe such lines writes these words
pub described_typed : (v : ℕ) (rs ks : List (List ℕ)) → Typable v → All TypableRelation rs → All TypableKind ks
    → SheetTyped (text_of (describe v rs ks)) (describe v rs ks)
unfolding text_of known
described_typed v rs ks h f g =
    let K : List Symbol → Type 0 = λ ss. T (each_of known ss) in
    let first = boards ∷ number v ∷ [] in
    let rest = map (symbols_of relation_typing) rs ++ map (symbols_of kind_typing) ks in
    let t : K first = numbers_known v [] h tt in
    let ts : All K rest =
    all_append K (map (symbols_of relation_typing) rs) (all_map K (symbols_of relation_typing) rs (λ w m. relation_known (f w m)))
    (all_map K (symbols_of kind_typing) ks (λ w m. kind_known (g w m))) in
    record {
      v = v;
      first = line_bytes first;
      rest = map line_bytes rest;
      relations = rs;
      kinds = ks;
      lines = rw (sheet_typing_lem v rs ks (λ w m. relation_line_lem (f w m)) (λ w m. kind_line_lem (g w m)))
          (text_lines (first ∷ rest) (all_append K (first ∷ []) (all_one K t) ts));
      opens = line_spelled first t;
      follow = lines_follow rs ks f g;
      makes = refl;
    }
