-- The words of a relation line, put after what it came to. Assumes nothing.
use mathlib.Core.Path.{◌≡◌, refl, sym, ap, ◌∙◌, subst}
use mathlib.Core.Bool.{Bool, true, false}
use mathlib.Core.List.{List, [], ◌∷◌}
use Prim.Native.Nat.{ℕ, suc, ◌+◌, ◌≤◌, ◌<◌}
use native.Mathlib.Omega.{arith}
use borrow.Author.Tests.{le-leb, lt-leb, leb-true, leb-false}
use lib.Dec.{leb}
use lib.ListN.{length, take}
use lib.Seq.{sets, length-take-le}
use Rattle.std.specs.Prelude.{Some, None}
use Rattle.rules.specs.Descriptions.{most_expression_words}
use Rattle.rules.proofs.Tests.{clash}
use Rattle.typed.specs.Brief.{brief}
use Rattle.typed.specs.Scanning.{Item, Scanned, malformed, scanned, prefixed}
use Rattle.typed.specs.Sheets.{relation_of}
use Rattle.phrases.proofs.Prefixed.{prefixed_length}
use Rattle.taken.specs.Lines.{Took, Begun}
use Rattle.typed.proofs.Brief.{brief_whole, brief_cut}
use Rattle.relation_texts.specs.declared.Expression.{Expression}
use Rattle.relation_texts.specs.Scans.{Holds, Held, kept, PutRelation}

-- ---- what is put

module _ {x : Expression} {words : List ℕ} {next first second : ℕ} where
  -- only the first three words, where those of the expression are too many
  pub put_over : {after : List ℕ} {n : ℕ} → most_expression_words < x.count → Begun words next first second x.count after n
      → PutRelation x words next first second after n
  put_over {after} {n} l b =
      let e : kept (leb x.count most_expression_words) x ≡ [] =
      ap (λ (b : Bool). kept b x) (lt-leb x.count most_expression_words l) in
      record {
        words = b.words ∙ ap (λ (ws : List ℕ). sets words next (first ∷ second ∷ x.count ∷ ws)) (sym e);
        place = omega (arith, b.place, ap length e);
      }

  -- all words, where they are not
  pub put_all : {started after : List ℕ} {n : ℕ} → length x.items ≡ most_expression_words → x.count ≤ most_expression_words
      → Begun words next first second x.count started n
      → after ≡ sets started n (prefixed (take x.count x.items)) → PutRelation x words next first second after (n + x.count)
  put_all {started} {after} {n} room l b p =
      let count = x.count in
      let items = take count x.items in
      let xs = prefixed items in
      let e : kept (leb count most_expression_words) x ≡ xs = ap (λ (b : Bool). kept b x) (le-leb count most_expression_words l) in
      let k : length xs ≡ count = prefixed_length items ∙ length-take-le count x.items (omega (arith, room)) in
      let j : n ≡ suc (suc (suc next)) = omega (arith, b.place) in
      record {
        words =
            p ∙ ap (λ (ws : List ℕ). sets ws n xs) b.words ∙ ap (λ (i : ℕ). sets (sets words next (first ∷ second ∷ count ∷ [])) i xs) j
            ∙ ap (λ (ws : List ℕ). sets words next (first ∷ second ∷ count ∷ ws)) (sym e);
        place = omega (arith, b.place, ap length e);
      }

-- ---- what is taken

module _ (p : ℕ) (words : List ℕ) (next : ℕ) where
  -- a malformed line leaves the words as they came
  pub took_nothing : (s : Scanned) (x : Expression) → Held s x None → Took most_expression_words (relation_of p s) words next words None
  took_nothing malformed x h = record { answer = refl; words = refl }
  took_nothing (scanned xs q) x h = absurd h

  module _ (x : Expression) (last : ℕ) where
    -- a well-formed one has a board after its expression, and its words are kept
    pub record Well (s : Scanned) : Type 0 where
      pub items : List Item
      pub is : s ≡ scanned items last
      pub held : Holds items x

    pub held_well : (s : Scanned) → Held s x (Some last) → Well s
    held_well malformed h = clash (cc)
    held_well (scanned xs q) h = record { items = xs; is = ap (scanned xs) (sym h.0); held = h.1 }

    module _ (s : Scanned) (h : Held s x (Some last)) where
      pub held_few : x.count ≤ suc most_expression_words
      held_few = omega (arith, (held_well s h).held.count)

      -- the words of the line, as far as they are not too many
      brief_words : (xs : List Item) → Holds xs x
          → brief most_expression_words (p ∷ last ∷ length xs ∷ prefixed xs)
          ≡ p ∷ last ∷ x.count ∷ kept (leb x.count most_expression_words) x
      brief_words xs t = go (leb (length xs) most_expression_words) refl
        where
          w : List ℕ
          w = p ∷ last ∷ length xs ∷ prefixed xs

          go : (b : Bool) → leb (length xs) most_expression_words ≡ b
              → brief most_expression_words w ≡ p ∷ last ∷ x.count ∷ kept (leb x.count most_expression_words) x
          go true e =
              let l : length xs ≤ most_expression_words = leb-true (length xs) most_expression_words e in
              let k : length xs ≡ x.count = omega (arith, t.count) in
              brief_whole most_expression_words w l ∙ ap (λ (n : ℕ). p ∷ last ∷ n ∷ prefixed xs) k
              ∙ ap (λ (ys : List Item). p ∷ last ∷ x.count ∷ prefixed ys) (sym (t.words l))
              ∙ ap (λ (b : Bool). p ∷ last ∷ x.count ∷ kept b x) (sym (le-leb x.count most_expression_words (omega arith)))
          go false e =
              let l : most_expression_words < length xs = leb-false (length xs) most_expression_words e in
              let k : suc most_expression_words ≡ x.count = omega (arith, t.count) in
              brief_cut most_expression_words w l ∙ ap (λ (n : ℕ). p ∷ last ∷ n ∷ []) k
              ∙ ap (λ (b : Bool). p ∷ last ∷ x.count ∷ kept b x) (sym (lt-leb x.count most_expression_words (omega arith)))

      pub took_words : {after : List ℕ} {n : ℕ} → PutRelation x words next p last after n → Took most_expression_words (relation_of p s) words next after (Some n)
      took_words {after} {n} w =
          let g = held_well s h in
          let e = brief_words g.items g.held in
          let k : n ≡ next + length (brief most_expression_words (p ∷ last ∷ length g.items ∷ prefixed g.items)) = omega (arith, w.place, ap length e) in
          subst (λ (z : Scanned). Took most_expression_words (relation_of p z) words next after (Some n)) (sym g.is)
          (record { answer = ap Some k; words = w.words ∙ ap (sets words next) (sym e) })
