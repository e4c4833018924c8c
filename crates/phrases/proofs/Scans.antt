-- From the grammar to the function: symbols that write an expression are scanned as its words, each at its depth. Assumes nothing.
use mathlib.Core.Path.{◌≡◌, refl, sym, ap, ◌∙◌}
use mathlib.Core.Bool.{Bool, true, false, ◌&&◌, ◌||◌}
use mathlib.Core.Logic.{◌⊎◌, inl, inr}
use mathlib.Core.List.{List, [], ◌∷◌, ◌++◌, append_assoc, append-nil}
use Prim.Native.Nat.{ℕ, suc, ◌≤◌, ◌<◌}
use native.Mathlib.Nat.{le_refl, le_trans}
use native.Mathlib.Omega.{arith}
use lib.Dec.{T, leb, ltb, eqb, ltb→lt, leb→le, eqb→eq, le→leb}
use lib.ListN.{length}
use Rattle.rules.specs.Expressions.{Phrase, written}
use Rattle.rules.proofs.Members.{All, all_none, all_one, all_append}
use Rattle.rules.proofs.Tests.{and_T, T-and_left, T-and_right, T-or, true_T}
use borrow.Author.Tests.{ltb-false, eq-eqb}
use Rattle.typed.specs.Symbols.{Symbol, right_paren, word, number}
use Rattle.typed.specs.Grammar.{Writes, same_board, strictly_above, strictly_below, on_the_side, in_parens, negated, inverted, both, either, tighter}
use Rattle.typed.specs.Scanning.{Item, tightness, level, joins, outranks, chief_from, prefixed_in, prefixed, Scanned, malformed, scanned, preceded, scan}
use Rattle.phrases.proofs.Prefixed.{prefixed_length, prefixed_split}

-- ---- words that bind at least so tightly

-- the word stands deeper than d, or at depth d and binds at least as tightly as n
record AtLeast (d n : ℕ) (x : Item) : Type 0 where
  inside : d ≤ x.depth
  tight : d ≡ x.depth → n ≤ level x.code

deeper : (d n : ℕ) (x : Item) → AtLeast (suc d) 0 x → AtLeast d n x
deeper d n x h = omega arith

looser : (d n m : ℕ) → m ≤ n → (x : Item) → AtLeast d n x → AtLeast d m x
looser d n m l x h = record { inside = h.inside; tight = λ e. le_trans l (h.tight e) }

-- a word that joins two operands outranks those before it that bind as tightly
outranks_before : (d k : ℕ) → T (joins k) → (x : Item) → AtLeast d (level k) x → T (outranks (record { code = k; depth = d }) x)
unfolding outranks
outranks_before d k j x h = go (ltb d x.depth) refl
  where
    go : (b : Bool) → ltb d x.depth ≡ b → T (b || (eqb d x.depth && (joins k && leb (level k) (level x.code))))
    go true e = tt
    go false e =
        let same : d ≡ x.depth = omega (arith, ltb-false d x.depth e) in
        and_T (eqb d x.depth) _ (true_T (eq-eqb d x.depth same))
        (and_T (joins k) _ j (le→leb (level k) (level x.code) (h.tight same)))

-- a word is outranked by none after it that binds tighter, or that joins no operands
not_outranked : (d n k : ℕ) → (n < 2 → level k < n) → (z : Item) → AtLeast d n z → T (outranks z (record { code = k; depth = d })) → ⊥
unfolding outranks
not_outranked d n k f z h t = go (T-or (ltb z.depth d) _ t)
  where
    go : T (ltb z.depth d) ⊎ T (eqb z.depth d && (joins z.code && leb (level z.code) (level k))) → ⊥
    go (inl l) = omega (arith, ltb→lt z.depth d l)
    go (inr r) =
        let same = eqb→eq z.depth d (T-and_left (eqb z.depth d) _ r) in
        let l = T-and_right (eqb z.depth d) _ r in
        let joining = ltb→lt (level z.code) 2 (T-and_left (joins z.code) _ l) in
        let loose = leb→le (level z.code) (level k) (T-and_right (joins z.code) _ l) in
        let tight = h.tight (sym same) in
        omega (arith, f (omega arith))

-- ---- symbols that are scanned as the words of an expression

preceded_twice : (xs ys : List Item) (v : Scanned) → preceded xs (preceded ys v) ≡ preceded (xs ++ ys) v
preceded_twice xs ys malformed = refl
preceded_twice xs ys (scanned zs q) = ap (λ (l : List Item). scanned l q) (sym (append_assoc xs ys zs))

-- Where an operand is expected, d parentheses deep, the symbols are scanned as these words of the expression, and none is expected after them.
record Scans (d n : ℕ) (s : List Symbol) (e : Phrase) : Type 0 where
  items : List Item
  tight : All (AtLeast d n) items
  prefix : prefixed items ≡ written e
  reads : (rest : List Symbol) → scan d true (s ++ rest) ≡ preceded items (scan d false rest)

-- a word at depth d, by itself or with its operands
module _ (d k : ℕ) where
  abbrev this : Item
  this = record { code = k; depth = d }

  -- the word is kept, and an operand is expected after it or not
  abbrev Kept : Bool → Bool → Type 0
  Kept b c = (rest : List Symbol) → scan d b (word k ∷ rest) ≡ preceded (this ∷ []) (scan d c rest)

  tight_onto : (n : ℕ) {xs : List Item} → n ≤ level k → All (AtLeast d n) xs → All (AtLeast d n) (this ∷ xs)
  tight_onto n l = all_append (AtLeast d n) (this ∷ []) (all_one (AtLeast d n) (record { inside = omega arith; tight = λ e. l }))

  reads_onto : (b : Bool) {n : ℕ} {s : List Symbol} {e : Phrase} → Kept b true → (r : Scans d n s e) (rest : List Symbol)
      → scan d b (word k ∷ (s ++ rest)) ≡ preceded (this ∷ r.items) (scan d false rest)
  reads_onto b {s} keep r rest =
      keep (s ++ rest) ∙ ap (preceded (this ∷ [])) (r.reads rest) ∙ preceded_twice (this ∷ []) r.items (scan d false rest)

  -- a relation by itself
  scans_name : (n : ℕ) {e : Phrase} → n ≤ level k → Kept true false → written e ≡ k ∷ [] → Scans d n (word k ∷ []) e
  unfolding prefixed prefixed_in chief_from
  scans_name n l keep w = record { items = this ∷ []; tight = tight_onto n l (all_none (AtLeast d n)); prefix = sym w; reads = keep }

  -- an operator before its operand
  scans_unary : {s : List Symbol} {e f : Phrase} → 2 ≤ level k → Kept true true → written f ≡ k ∷ written e → Scans d 2 s e → Scans d 2 (word k ∷ s) f
  unfolding prefixed prefixed_in
  scans_unary l keep w r =
      record {
        items = this ∷ r.items;
        tight = tight_onto 2 l r.tight;
        prefix =
            prefixed_split [] this r.items (all_none (λ x. T (outranks this x))) (λ z m. not_outranked d 2 k (omega arith) z (r.tight z m))
            ∙ cc r.prefix;
        reads = reads_onto true keep r;
      }

  -- an operator between its operands
  scans_binary : {s t : List Symbol} {e f g : Phrase} → T (joins k) → Kept false true → written g ≡ k ∷ (written e ++ written f)
      → Scans d (level k) s e → Scans d (suc (level k)) t f → Scans d (level k) (s ++ (word k ∷ t)) g
  scans_binary {s} {t} j keep w a b =
      record {
        items = a.items ++ (this ∷ b.items);
        tight =
            all_append (AtLeast d (level k)) a.items a.tight
            (tight_onto (level k) (le_refl (level k)) (λ x m. looser d _ _ (omega arith) x (b.tight x m)));
        prefix =
            prefixed_split a.items this b.items (λ x m. outranks_before d k j x (a.tight x m))
            (λ z m. not_outranked d (suc (level k)) k (omega arith) z (b.tight z m))
            ∙ cc (a.prefix, b.prefix);
        reads = λ rest.
            rw append_assoc
            (a.reads (word k ∷ (t ++ rest)) ∙ ap (preceded a.items) (reads_onto false keep b rest)
            ∙ preceded_twice a.items (this ∷ b.items) (scan d false rest));
      }

-- symbols that write an expression are scanned as its words, and none of these binds looser than the symbols do
scans : {n : ℕ} {s : List Symbol} {e : Phrase} → Writes n s e → (d : ℕ) → Scans d n s e
unfolding scan tightness written
scans same_board d = scans_name d 0 2 (omega arith) (λ rest. refl) refl
scans strictly_above d = scans_name d 1 2 (omega arith) (λ rest. refl) refl
scans strictly_below d = scans_name d 2 2 (omega arith) (λ rest. refl) refl
scans on_the_side d = scans_name d 3 2 (omega arith) (λ rest. refl) refl
scans (in_parens w) d =
    let r = scans w (suc d) in
    record {
      items = r.items;
      tight = λ x m. deeper d 2 x (r.tight x m);
      prefix = r.prefix;
      reads = λ rest. rw append_assoc (r.reads (right_paren ∷ rest));
    }
scans (negated w) d = scans_unary d 6 (omega arith) (λ rest. refl) refl (scans w d)
scans (inverted w) d = scans_unary d 7 (omega arith) (λ rest. refl) refl (scans w d)
scans (both v w) d = scans_binary d 5 tt (λ rest. refl) refl (scans v d) (scans w d)
scans (either v w) d = scans_binary d 4 tt (λ rest. refl) refl (scans v d) (scans w d)
scans (tighter {n} w) d =
    let r = scans w d in
    record { items = r.items; tight = λ x m. looser d (suc n) n (omega arith) x (r.tight x m); prefix = r.prefix; reads = r.reads }

-- an expression with a board after it is scanned as its words and the board: in prefix order they are the words that write it
pub writes_scan : {s : List Symbol} {e : Phrase} → Writes 0 s e → (q : ℕ)
    → (xs : List Item) × (scan 0 true (s ++ (number q ∷ [])) ≡ scanned xs q) × (prefixed xs ≡ written e) × (length xs ≡ length (written e))
unfolding scan
writes_scan w q =
    let r = scans w 0 in
    (r.items, rw append-nil at (r.reads (number q ∷ [])), r.prefix, sym (prefixed_length r.items) ∙ ap length r.prefix)
