-- A section of lines that say how long they are is read line by line. Assumes nothing.
use mathlib.Core.Path.{◌≡◌, refl, sym, ap, ◌∙◌}
use mathlib.Core.Bool.{Bool, true, false, ◌&&◌}
use mathlib.Core.List.Memᴰ
use mathlib.Core.List.{List, [], ◌∷◌, ◌++◌, map, map-id, flatten}
use Prim.Native.Nat.{ℕ, ◌+◌, ◌-◌}
use native.Mathlib.Nat.{le_refl}
use native.Mathlib.Omega.{arith}
use borrow.Author.Tests.{le-leb}
use lib.Dec.{leb, ltb}
use lib.ListN.{length, take, drop, length-append}
use lib.Seq.{take-append_seam, drop-append_seam, take-length}
use Rattle.rules.specs.Expressions.{expression}
use Rattle.rules.specs.Descriptions.{most_expression_words, most_ways, Reading, good, refused, Front, need, next, later, meaning, boards_before, boards_only, relation_line, kind_line, section}
use Rattle.rules.proofs.Members.{All}
use Rattle.rules.proofs.Readings.{next_out, later_out}

-- ---- a line

-- the words are a line: two words, a length and as many words as that says
pub data IsLine : List ℕ → Type 0 where
  line : (p q : ℕ) (es : List ℕ) → IsLine (p ∷ q ∷ length es ∷ es)

-- what is read of a line, with these words left after it
abbrev pub leaving : {X : Type 0} → List ℕ → Reading (Front X) → Reading (Front X)
leaving rest r = next r (λ f. good (record { line = f.line; rest = rest }))

-- a line put so stands for itself, whatever words come after it
abbrev pub StandsAlone : {X : Type 0} → (List ℕ → Reading (Front X)) → (List ℕ → List ℕ) → Type 0
StandsAlone {X} read put = (w rest : List ℕ) → IsLine w → read (put w ++ rest) ≡ leaving rest (read w)

-- words after a line change neither the test of its length nor the words that are read
module _ (es rest : List ℕ) where
  enough : leb (length es) (length (es ++ rest)) ≡ true
  enough = le-leb (length es) (length (es ++ rest)) (omega (arith, length-append es rest))

  enough_alone : leb (length es) (length es) ≡ true
  enough_alone = le-leb (length es) (length es) (le_refl (length es))

  same_words : take (length es) (es ++ rest) ≡ take (length es) es
  same_words = take-append_seam es rest ∙ sym (take-length es)

-- what the tests and the meaning of an expression come to, with these words left
abbrev relation_answer : {X : Type 0} → (ℕ → X) → Bool → Bool → Bool → Reading ℕ → List ℕ → Reading (Front X)
relation_answer f b c d m rest = need 3 2 b (need 4 0 c (need 4 1 d (next m (λ x. good (record { line = f x; rest = rest })))))

relation_leaves : {X : Type 0} (f : ℕ → X) (b c d : Bool) (m : Reading ℕ) (us rest : List ℕ)
    → relation_answer f b c d m rest ≡ leaving rest (relation_answer f b c d m us)
relation_leaves f true true true (good x) us rest = refl
relation_leaves f true true true (refused n k) us rest = refl
relation_leaves f true true false m us rest = refl
relation_leaves f true false d m us rest = refl
relation_leaves f false c d m us rest = refl

-- words after a relation line make no difference to it
pub relation_alone : (v : ℕ) → StandsAlone (relation_line v) (λ w. w)
unfolding relation_line
relation_alone v w rest (line p q es) =
    let n = length es in
    rw (enough es rest, enough_alone es rest, same_words es rest, drop-append_seam es rest)
    (relation_leaves (λ x. record { p = p; q = q; allowed = x }) (leb 1 n && leb n most_expression_words) (ltb p v) (ltb q v)
    (later 3 (meaning n (expression (take n es)))) (drop n es) rest)

kind_leaves : {X : Type 0} (x : X) (b c d : Bool) (k : ℕ) (us rest : List ℕ)
    → need 3 2 b (need 4 0 c (need 4 k d (good (record { line = x; rest = rest }))))
    ≡ leaving rest (need 3 2 b (need 4 0 c (need 4 k d (good (record { line = x; rest = us })))))
kind_leaves x true true true k us rest = refl
kind_leaves x true true false k us rest = refl
kind_leaves x true false d k us rest = refl
kind_leaves x false c d k us rest = refl

-- nor to a kind line
pub kind_alone : (v : ℕ) → StandsAlone (kind_line v) (λ w. w)
unfolding kind_line
kind_alone v w rest (line p c es) =
    let n = length es in
    rw (enough es rest, enough_alone es rest, same_words es rest, drop-append_seam es rest)
    (kind_leaves (record { p = p; code = c; ways = take n es }) (leb n most_ways) (ltb p v) (boards_only v (take n es)) (3 + boards_before v (take n es)) (drop n es) rest)

-- ---- a section

module _ {X : Type 0} (read : List ℕ → Reading (Front X)) where
  -- the lines, each read by itself, up to the first that is refused
  unfoldable pub line_by_line : List (List ℕ) → Reading (List X)
  line_by_line [] = good []
  line_by_line (w ∷ ws) = next (read w) (λ f. later (length w) (next (line_by_line ws) (λ xs. good (f.line ∷ xs))))

  -- a section of lines is read line by line, where good lines are put with as many words
  pub section_lines : (put : List ℕ → List ℕ) → StandsAlone read put → ((w : List ℕ) (f : Front X) → read w ≡ good f → length (put w) ≡ length w)
      → (ws : List (List ℕ)) → All IsLine ws → section read (length (map put ws)) (flatten (map put ws)) ≡ line_by_line ws
  unfolding section flatten line_by_line
  section_lines put alone whole [] h = refl
  section_lines put alone whole (w ∷ ws) h =
      let us = flatten (map put ws) in
      rw (alone w us (h w (Memᴰ.head refl)))
      (go us (length (map put ws)) (section_lines put alone whole ws (λ u m. h u (Memᴰ.tail m))) (read w) refl)
    where
      go : (us : List ℕ) (n : ℕ) → section read n us ≡ line_by_line ws → (r : Reading (Front X)) → read w ≡ r
          → next (leaving us r) (λ f. later (length (put w ++ us) - length f.rest) (next (section read n f.rest) (λ xs. good (f.line ∷ xs))))
          ≡ next r (λ f. later (length w) (next (line_by_line ws) (λ xs. good (f.line ∷ xs))))
      go us n e (good f) d =
          let many : length (put w ++ us) - length us ≡ length w = omega (arith, length-append (put w) us, whole w f d) in
          rw many (ap (λ (s : Reading (List X)). later (length w) (next s (λ xs. good (f.line ∷ xs)))) e)
      go us n e (refused m k) d = refl

  -- the lines are read as these, each by itself
  pub data Reads : List (List ℕ) → List X → Type 0 where
    none : Reads [] []
    more : {w : List ℕ} {ws : List (List ℕ)} {xs : List X} (f : Front X) → read w ≡ good f → Reads ws xs → Reads (w ∷ ws) (f.line ∷ xs)

  -- so they are where the section is good
  pub lines_read_lem : (ws : List (List ℕ)) (xs : List X) → line_by_line ws ≡ good xs → Reads ws xs
  unfolding line_by_line
  lines_read_lem [] xs e = let d : [] ≡ xs = cc in rw (← d) none
  lines_read_lem (w ∷ ws) xs e =
      let (f, d, g) = next_out (read w) _ xs e in
      let (ys, a, b) = next_out (line_by_line ws) _ xs (later_out (length w) (next (line_by_line ws) (λ ls. good (f.line ∷ ls))) xs g) in
      let c : f.line ∷ ys ≡ xs = cc in
      rw (← c) (more f d (lines_read_lem ws ys a))

-- so relation lines, and kind lines, are read line by line
pub relation_section : (v : ℕ) (rs : List (List ℕ)) → All IsLine rs
    → section (relation_line v) (length rs) (flatten rs) ≡ line_by_line (relation_line v) rs
relation_section v rs h = rw map-id at (section_lines (relation_line v) (λ w. w) (relation_alone v) (λ w f e. refl) rs h)

pub kind_section : (v : ℕ) (ks : List (List ℕ)) → All IsLine ks → section (kind_line v) (length ks) (flatten ks) ≡ line_by_line (kind_line v) ks
kind_section v ks h = rw map-id at (section_lines (kind_line v) (λ w. w) (kind_alone v) (λ w f e. refl) ks h)
