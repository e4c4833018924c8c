-- A good description that is written as a text and read back is the same, word for word. Assumes nothing.
use mathlib.Core.Path.{◌≡◌, refl, sym, ap, subst}
use mathlib.Core.List.Memᴰ
use mathlib.Core.List.{List, [], ◌∷◌, ◌++◌, map, flatten, flat_map, Memᴰ}
use Prim.Native.Nat.{ℕ, ◌≤◌, ◌<◌}
use native.Mathlib.Omega.{arith}
use borrow.Author.Tests.{le-leb}
use lib.Dec.{T, leb→le}
use lib.ListN.{length, drop}
use Rattle.rules.specs.Descriptions.{most_boards, KindLine, Sheet, good, WellFormed, read, describe}
use Rattle.rules.specs.Calls.{succeed}
use Rattle.rules.proofs.Members.{All, all_none, all_one, all_append, over_all, at_member, each_of_out}
use Rattle.rules.proofs.Descriptions.{read_well_formed}
use Rattle.clauses.specs.Clauses.{Description, line, sheet, formula_words, label_words, description_words, Writes}
use Rattle.clauses.proofs.Written.{read_writes}
use Rattle.typed.specs.Symbols.{Symbol, boards, right_paren, number, most_number, known}
use Rattle.typed.specs.Grammar.{RelationTyped, relation, KindTyped, kind, LinesTyped, none, relation_next, kind_next, SheetTyped}
use Rattle.typed.specs.Sheets.{made, typed}
use Rattle.typed.specs.Writing.{text_of}
use Rattle.typed.specs.Calls.{in_room, from_text}
use Rattle.spelled.proofs.Spelling.{spelled_known}
use Rattle.meanings.proofs.Sheets.{typed_made, made_typed}
use Rattle.returns.proofs.Written.{Typable, TypableRelation, typable_relation, TypableKind, typable_kind, all_map, described_typed}

-- ---- the lines of a good description

-- the words describe relation lines and kind lines that can be typed
pub record Described (ws : List ℕ) : Type 0 where
  pub v : ℕ
  pub relations : List (List ℕ)
  pub kinds : List (List ℕ)
  pub boards : Typable v
  pub expressions : All TypableRelation relations
  pub ways : All TypableKind kinds
  pub words : ws ≡ describe v relations kinds

-- the words of lines, one after the other
flatten_map : {X : Type 0} (f : X → List ℕ) (xs : List X) → flatten (map f xs) ≡ flat_map f xs
unfolding flatten flat_map
flatten_map f [] = refl
flatten_map f (x ∷ xs) = ap (λ (l : List ℕ). f x ++ l) (flatten_map f xs)

-- the code of a kind line is one of the words
code_typable : (φ : Description) → All Typable (description_words φ) → (k : KindLine) → Memᴰ k φ.labels → Typable k.code
code_typable φ h k m =
    let rs = flatten (map formula_words φ.formulas) in
    let ks = flatten (map label_words φ.labels) in
    let last : All Typable ks = λ w n.
    h w (Memᴰ.tail (Memᴰ.tail (Memᴰ.tail (Memᴰ.tail (Memᴰ.tail (Memᴰ.tail (Memᴰ.append_right rs n))))))) in
    over_all Typable label_words φ.labels (rw flatten_map at last) k m k.code (Memᴰ.tail (Memᴰ.head refl))

-- a good description is made of such lines: its boards are below v, which is at most 16, and its codes are words
pub read_lines : (ws : List ℕ) (s : Sheet) → All Typable ws → read ws ≡ good s → Described ws
read_lines ws s h e =
    let (φ, words, means) = read_writes ws s e in
    go φ words (subst WellFormed (sym means) (read_well_formed ws s e)) (subst (All Typable) words h)
  where
    go : (φ : Description) → Writes ws φ → WellFormed (sheet φ) → All Typable (description_words φ) → Described ws
    go φ w f h =
        let top : φ.boards ≤ most_boards = f.boards.1 in
        record {
          v = φ.boards;
          relations = map formula_words φ.formulas;
          kinds = map label_words φ.labels;
          boards = omega arith;
          expressions = all_map TypableRelation formula_words φ.formulas (λ x m.
              let b : (x.x < φ.boards) × (x.y < φ.boards) = f.lines.1 (line x) (Memᴰ.map line m) in
              typable_relation x.x x.y x.relation (omega arith) (omega arith));
          ways = all_map TypableKind label_words φ.labels (λ k m.
              let b = f.kinds.1 k m in
              typable_kind k.p k.code k.ways (omega (arith, b.0)) (code_typable φ h k m) (λ y n.
              let (i, l, e) = at_member k.ways y n in omega (arith, b.2 i l, e)));
          words = w;
        }

-- ---- there and back

-- the text of such lines writes them
described_back : (ws : List ℕ) → Described ws → SheetTyped (text_of ws) ws
described_back ws d = rw d.words (described_typed d.v d.relations d.kinds d.boards d.expressions d.ways)

-- the text of a good description writes it
pub text_typed : (ws : List ℕ) (s : Sheet) → All Typable ws → read ws ≡ good s → SheetTyped (text_of ws) ws
text_typed ws s h e = described_back ws (read_lines ws s h e)

-- so what is made of the text is the description
pub there_and_back : (ws : List ℕ) (s : Sheet) → All Typable ws → read ws ≡ good s → typed (text_of ws) ≡ made ws
there_and_back ws s h e = typed_made (text_typed ws s h e)

-- and the text reader leaves it in a room that is large enough, and answers its length
pub written_read : (ws : List ℕ) (s : Sheet) → All Typable ws → read ws ≡ good s → (room : List ℕ) → length ws ≤ length room
    → from_text (text_of ws) room ≡ succeed (length ws) (ws ++ drop (length ws) room)
unfolding from_text in_room
written_read ws s h e room l = rw (there_and_back ws s h e, e, le-leb (length ws) (length room) l, in_room)

-- ---- back and there

-- a known number can be typed, so the words of a typed line are those of a relation line or of a kind line
number_typable : (n : ℕ) → T (known (number n)) → Typable n
unfolding known
number_typable n t = leb→le n most_number t

relation_words_lem : {ss : List Symbol} {w : List ℕ} → RelationTyped ss w → All (λ s. T (known s)) ss → TypableRelation w
relation_words_lem (relation {s} {e} p q d) f =
    typable_relation p q e (number_typable p (f (number p) (Memᴰ.head refl)))
    (number_typable q (f (number q) (Memᴰ.tail (Memᴰ.append_right s (Memᴰ.head refl)))))

kind_words_lem : {ss : List Symbol} {w : List ℕ} → KindTyped ss w → All (λ s. T (known s)) ss → TypableKind w
kind_words_lem (kind p c ys) f =
    typable_kind p c ys (number_typable p (f (number p) (Memᴰ.head refl)))
    (number_typable c (f (number c) (Memᴰ.tail (Memᴰ.tail (Memᴰ.head refl))))) (λ y m.
    number_typable y
    (f (number y) (Memᴰ.tail (Memᴰ.tail (Memᴰ.tail (Memᴰ.tail (Memᴰ.append_left (right_paren ∷ []) (Memᴰ.map number m))))))))

-- so are those of all lines
lines_words : {ls rs ks : List (List ℕ)} → LinesTyped ls rs ks → All TypableRelation rs × All TypableKind ks
lines_words none = (all_none TypableRelation, all_none TypableKind)
lines_words (relation_next {w} {ss} s r d) =
    let (f, g) = lines_words d in
    (all_append TypableRelation (w ∷ []) (all_one TypableRelation (relation_words_lem r (each_of_out known ss (spelled_known s)))) f, g)
lines_words (kind_next {w} {ss} s k d) =
    let (f, g) = lines_words d in
    (f, all_append TypableKind (w ∷ []) (all_one TypableKind (kind_words_lem k (each_of_out known ss (spelled_known s)))) g)

-- so what a text writes is made of such lines
typed_described : {text ws : List ℕ} → SheetTyped text ws → Described ws
typed_described t =
    let (f, g) = lines_words t.follow in
    record {
      v = t.v;
      relations = t.relations;
      kinds = t.kinds;
      boards = number_typable t.v
          (each_of_out known (boards ∷ number t.v ∷ []) (spelled_known t.opens) (number t.v) (Memᴰ.tail (Memᴰ.head refl)));
      expressions = f;
      ways = g;
      words = t.makes;
    }

-- what a text makes, good or not, is made again of its own text
pub read_written_read : (text ws : List ℕ) → typed text ≡ made ws → typed (text_of ws) ≡ made ws
read_written_read text ws e = typed_made (described_back ws (typed_described (made_typed text ws e)))
