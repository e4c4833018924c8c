-- Words of lines stored one after the other. Assumes nothing.
use mathlib.Core.Path.{◌≡◌, refl, sym, ap, ◌∙◌, subst}
use mathlib.Core.Bool.{Bool, true, false}
use mathlib.Core.List.Memᴰ
use mathlib.Core.List.{List, [], ◌∷◌, ◌++◌, map, flatten, append_assoc, append-nil}
use Prim.Native.Nat.{ℕ, ◌+◌, ◌*◌, ◌≤◌, ◌<◌}
use native.Mathlib.Nat.{mul-suc}
use native.Mathlib.Omega.{arith}
use borrow.Author.Tests.{ltb-true, ltb-false}
use lib.Dec.{ltb}
use lib.ListN.{length, take, drop, length-append, length-drop}
use lib.Seq.{sets, sets-eq, take-add, take_at, drop_at, length-take-le, take-append-le, take_all}
use Rattle.rules.proofs.Members.{All}
use Rattle.typed.specs.Brief.{brief}
use Rattle.returns.proofs.Sections.{IsLine}
use Rattle.returns.proofs.Brief.{brief_few}
use Rattle.text_lines.specs.Lines.{moved_on}
use Rattle.text_lines.specs.Gatherings.{Stored}

-- ---- words put after others

-- what stands from a place on, once words are put after the first L of it
module _ (ws : List ℕ) (from L : ℕ) (xs : List ℕ) (h : from + L + length xs ≤ length ws) where
  after_put : drop from (sets ws (from + L) xs) ≡ take L (drop from ws) ++ (xs ++ drop (from + L + length xs) ws)
  after_put =
      let a : length (take from ws) ≡ from = length-take-le from ws (omega arith) in
      ap (drop from) (sets-eq xs ws (from + L) h ∙ simp append_assoc)
      ∙ ap (λ (l : List ℕ). drop from (l ++ (xs ++ drop (from + L + length xs) ws))) (take-add from L ws)
      ∙ ap (drop from) (append_assoc (take from ws) (take L (drop from ws)) (xs ++ drop (from + L + length xs) ws))
      ∙ drop_at (take from ws) (take L (drop from ws) ++ (xs ++ drop (from + L + length xs) ws)) from a

  first_length : length (take L (drop from ws)) ≡ L
  first_length = length-take-le L (drop from ws) (omega (arith, length-drop from ws))

  -- the first L stay
  put_still : take L (drop from (sets ws (from + L) xs)) ≡ take L (drop from ws)
  put_still = ap (take L) after_put ∙ take_at (take L (drop from ws)) (xs ++ drop (from + L + length xs) ws) L first_length

  -- and then come those put
  pub put_more : take (L + length xs) (drop from (sets ws (from + L) xs)) ≡ take L (drop from ws) ++ xs
  put_more =
      ap (take (L + length xs)) (after_put ∙ sym (append_assoc (take L (drop from ws)) xs (drop (from + L + length xs) ws)))
      ∙ take_at (take L (drop from ws) ++ xs) (drop (from + L + length xs) ws) (L + length xs)
      (length-append (take L (drop from ws)) xs ∙ ap (λ (n : ℕ). n + length xs) first_length)

-- ---- lines

flatten_snoc : (f : List ℕ → List ℕ) (ls : List (List ℕ)) (w : List ℕ) → flatten (map f (ls ++ (w ∷ []))) ≡ flatten (map f ls) ++ f w
unfolding flatten
flatten_snoc f [] w = append-nil (f w)
flatten_snoc f (l ∷ ls) w = ap (λ (ys : List ℕ). f l ++ ys) (flatten_snoc f ls w) ∙ sym (append_assoc (f l) (flatten (map f ls)) (f w))

-- each line takes at most 3 + m words
pub lines_few : (m : ℕ) (ls : List (List ℕ)) → All IsLine ls → length (flatten (map (brief m) ls)) ≤ (3 + m) * length ls
unfolding flatten
lines_few m [] h = omega arith
lines_few m (l ∷ ls) h =
    omega (
      arith,
      length-append (brief m l) (flatten (map (brief m) ls)),
      brief_few m (h l (Memᴰ.head refl)),
      lines_few m ls (λ w i. h w (Memᴰ.tail i)),
      mul-suc (3 + m) (length ls),
    )

-- ---- what is stored

pub stored_none : (m from : ℕ) (ws : List ℕ) → Stored m from ws from []
unfolding flatten
stored_none m from ws = record { place = omega arith; words = refl }

module _ {m from : ℕ} {ws : List ℕ} {to : ℕ} {ls : List (List ℕ)} (s : Stored m from ws to ls) where
  -- words put after them leave them
  stored_still : (xs : List ℕ) → to + length xs ≤ length ws → Stored m from (sets ws to xs) to ls
  stored_still xs h =
      let L = length (flatten (map (brief m) ls)) in
      let e : to ≡ from + L = s.place in
      record {
        place = s.place;
        words =
            ap (λ (n : ℕ). take L (drop from (sets ws n xs))) e ∙ put_still ws from L xs (omega arith) ∙ s.words;
      }

  -- the words of another line after them
  stored_more : (w : List ℕ) → to + length (brief m w) ≤ length ws → Stored m from (sets ws to (brief m w)) (to + length (brief m w)) (ls ++ (w ∷ []))
  stored_more w h =
      let L = length (flatten (map (brief m) ls)) in
      let e : to ≡ from + L = s.place in
      let f : flatten (map (brief m) (ls ++ (w ∷ []))) ≡ flatten (map (brief m) ls) ++ brief m w = flatten_snoc (brief m) ls w in
      let l : length (flatten (map (brief m) (ls ++ (w ∷ [])))) ≡ L + length (brief m w) = ap length f ∙ length-append (flatten (map (brief m) ls)) (brief m w) in
      record {
        place = omega arith;
        words =
            ap (λ (n : ℕ). take n (drop from (sets ws to (brief m w)))) l
            ∙ ap (λ (n : ℕ). take (L + length (brief m w)) (drop from (sets ws n (brief m w)))) e
            ∙ put_more ws from L (brief m w) (omega arith) ∙ ap (λ (xs : List ℕ). xs ++ brief m w) s.words ∙ sym f;
      }

-- another line: its words count as long as there are not too many lines
pub stored_next : (most : ℕ) {m from : ℕ} {ws ws' : List ℕ} {to n : ℕ} (ls : List (List ℕ)) {w : List ℕ} → Stored m from ws to (take most ls) → IsLine w
    → to + (3 + m) ≤ length ws → ws' ≡ sets ws to (brief m w) → n ≡ to + length (brief m w)
    → Stored m from ws' (moved_on (ltb (length ls) most) n to) (take most (ls ++ (w ∷ [])))
stored_next most {m} {from} {ws} {ws'} {to} {n} ls {w} s i h e d =
    subst (λ (us : List ℕ). Stored m from us (moved_on (ltb (length ls) most) n to) (take most (ls ++ (w ∷ [])))) (sym e)
    (go (ltb (length ls) most) refl)
  where
    few : to + length (brief m w) ≤ length ws
    few = omega (arith, brief_few m i)

    go : (b : Bool) → ltb (length ls) most ≡ b → Stored m from (sets ws to (brief m w)) (moved_on b n to) (take most (ls ++ (w ∷ [])))
    go true t =
        let l : length ls < most = ltb-true (length ls) most t in
        let f : take most ls ++ (w ∷ []) ≡ take most (ls ++ (w ∷ [])) =
        ap (λ (us : List (List ℕ)). us ++ (w ∷ [])) (take_all most ls (omega arith))
        ∙ sym (take_all most (ls ++ (w ∷ [])) (omega (arith, length-append ls (w ∷ [])))) in
        subst (λ (k : ℕ). Stored m from (sets ws to (brief m w)) k (take most (ls ++ (w ∷ [])))) (sym d)
        (subst (Stored m from (sets ws to (brief m w)) (to + length (brief m w))) f (stored_more s w few))
    go false t =
        subst (Stored m from (sets ws to (brief m w)) to) (sym (take-append-le most ls (w ∷ []) (ltb-false (length ls) most t))) (stored_still s (brief m w) few)
