-- The places of refused lines: none is past the words, and no word before it breaks the rule. Assumes nothing.
use mathlib.Core.Path.{◌≡◌, refl, sym, ap, ◌∙◌, subst}
use mathlib.Core.Bool.{Bool, true, false, ◌&&◌}
use mathlib.Core.List.{List, [], ◌∷◌}
use Prim.Native.Nat.{ℕ, suc, ◌+◌, ◌-◌, ◌≤◌, ◌<◌}
use native.Mathlib.Omega.{arith}
use borrow.Author.Tests.{ltb-false}
use lib.Dec.{T_not, leb, ltb, leb→le, nleb→lt, ltb→lt, nltb→le}
use lib.ListN.{length, get_or, take, drop, length-drop}
use lib.Seq.{take-take, get_or-take, length-take-le}
use Rattle.rules.specs.Expressions.{expression, Begins, Longest}
use Rattle.rules.specs.Descriptions.{most_expression_words, most_ways, Reading, good, refused, next, later, meaning, boards_before, boards_only, relation_line, kind_line}
use Rattle.rules.specs.Places.{SameBefore, Placing}
use Rattle.rules.proofs.Beginnings.{meaning_place}
use Rattle.rules.proofs.Lines.{length_in, length_out, boards_before_lem, before_boards, LengthFits, OnBoards, means, relation_no_length, relation_no_p, relation_no_q, WaysFit, kind_no_number, kind_no_panel, ways_length, kind_no_way}
use Rattle.rules.proofs.PlacedReadings.{alike_after, alike_word, OnlyAt, at_need, one_place, Within, Late, late}

-- ---- relation lines

-- the tests of a relation line in turn: what the words are at one that fails
module _ (P : ℕ → ℕ → Type 0) (v : ℕ) where
  relation_at : (ws : List ℕ) → P 3 (length ws)
      → (3 ≤ length ws → (1 ≤ get_or ws 2 0 → get_or ws 2 0 ≤ most_expression_words → ⊥) → P 3 2)
      → (LengthFits ws → v ≤ get_or ws 0 0 → P 4 0)
      → (LengthFits ws → get_or ws 0 0 < v → v ≤ get_or ws 1 0 → P 4 1)
      → (OnBoards v ws → (n i : ℕ) → means v ws ≡ refused n i → P n (3 + i)) → OnlyAt P (relation_line v ws)
  unfolding relation_line
  relation_at [] short long first second sense = short
  relation_at (p ∷ []) short long first second sense = short
  relation_at (p ∷ q ∷ []) short long first second sense = short
  relation_at (p ∷ q ∷ n ∷ ws) short long first second sense =
      at_need P 3 2 (leb 1 n && leb n most_expression_words) _
      (λ f. long (omega arith) (λ a b. T_not (leb 1 n && leb n most_expression_words) f (length_in n a b))) (λ s.
      at_need P 3 (3 + length ws) (leb n (length ws)) _ (λ f. subst (P 3) (omega arith) short) (λ t.
      let (low, high) = length_out n s in
      let fits : LengthFits (p ∷ q ∷ n ∷ ws) = record { three = omega arith; low = low; high = high; room = omega (arith, leb→le n (length ws) t) } in
      at_need P 4 0 (ltb p v) _ (λ f. first fits (nltb→le p v f)) (λ a.
      at_need P 4 1 (ltb q v) _ (λ f. second fits (ltb→lt p v a) (nltb→le q v f)) (λ b.
      at_meaning (meaning n (expression (take n ws))) _ (sense (record { fits = fits; p_board = ltb→lt p v a; q_board = ltb→lt q v b }))))))
    where
      at_meaning : {X : Type 0} (r : Reading ℕ) (f : ℕ → X) → ((m i : ℕ) → r ≡ refused m i → P m (3 + i)) → OnlyAt P (next (later 3 r) (λ x. good (f x)))
      at_meaning (good x) f h = tt
      at_meaning (refused m i) f h = h m i refl

module _ (v : ℕ) (ws : List ℕ) where
  -- an expression has as many words as its line says
  expression_length : LengthFits ws → length (take (get_or ws 2 0) (drop 3 ws)) ≡ get_or ws 2 0
  expression_length l = length-take-le (get_or ws 2 0) (drop 3 ws) (omega (arith, length-drop 3 ws, l.room))

  -- and is refused after the longest beginning of one
  means_place : LengthFits ws → (n i : ℕ) → means v ws ≡ refused n i → (n ≡ 5) × Longest (take (get_or ws 2 0) (drop 3 ws)) i
  means_place l n i d =
      let words = take (get_or ws 2 0) (drop 3 ws) in meaning_place words n i (ap (λ (m : ℕ). meaning m (expression words)) (expression_length l) ∙ d)

module _ (v : ℕ) (ws : List ℕ) (n k : ℕ) (e : relation_line v ws ≡ refused n k) where
  -- the place is not past the words
  relation_within : k ≤ length ws
  relation_within =
      subst (OnlyAt (Within (length ws))) e
      (relation_at (Within (length ws)) v ws (omega arith) (λ three f. omega arith) (λ l p. omega (arith, l.three)) (λ l p q. omega (arith, l.three)) (λ o m i d.
      omega (arith, o.fits.three, o.fits.room, expression_length v ws o.fits, (means_place v ws o.fits m i d).1.within)))

  -- what is refused with 4 or 5 passed the tests of 3, and what is refused with 5 those of 4
  relation_fits : 4 ≤ n → LengthFits ws
  relation_fits =
      subst (OnlyAt P) e
      (relation_at P v ws (λ h. absurd (omega arith)) (λ three f h. absurd (omega arith)) (λ l p h. l) (λ l p q h. l) (λ o m i d h. o.fits))
    where
      P : ℕ → ℕ → Type 0
      P m j = 4 ≤ m → LengthFits ws

  relation_means : 5 ≤ n → OnBoards v ws × (i : ℕ) × (means v ws ≡ refused n i) × (3 + i ≡ k)
  relation_means =
      subst (OnlyAt P) e
      (relation_at P v ws (λ h. absurd (omega arith)) (λ three f h. absurd (omega arith)) (λ l p h. absurd (omega arith)) (λ l p q h. absurd (omega arith))
      (λ o m i d h. (o, i, d, refl)))
    where
      P : ℕ → ℕ → Type 0
      P m j = 5 ≤ m → OnBoards v ws × (i : ℕ) × (means v ws ≡ refused m i) × (3 + i ≡ j)

  -- a test that us fails before the place is one that ws fails
  relation_late : (us : List ℕ) → SameBefore k ws us → OnlyAt (Late n k) (relation_line v us)
  relation_late us a =
      relation_at (Late n k) v us (λ h l. omega (arith, relation_within, a.many))
      (λ three f h l. let w = alike_word a 2 l in at 3 2 (relation_no_length v ws (omega (arith, a.many)) (λ x y. f (omega arith) (omega arith))) l)
      (λ fits p h l. let w = alike_word a 0 l in at 4 0 (relation_no_p v ws (relation_fits h) (omega arith)) l)
      (λ fits p q h l.
      let w = alike_word a 0 (omega arith) in
      let x = alike_word a 1 l in
      at 4 1 (relation_no_q v ws (relation_fits h) (omega arith) (omega arith)) l)
      (λ o m i d h l.
      let (five, most) = means_place v us o.fits m i d in
      let (on, x, g, y) = relation_means (omega arith) in
      let (number, long) = means_place v ws on.fits n x g in
      let w = alike_word a 2 (omega arith) in
      let top : x ≤ get_or ws 2 0 = omega (arith, long.within, expression_length v ws on.fits) in
      let same : take x (take (get_or ws 2 0) (drop 3 ws)) ≡ take x (take (get_or us 2 0) (drop 3 us)) =
      take-take x (get_or ws 2 0) (drop 3 ws) top ∙ sym (alike_after a 3 x y).same ∙ sym (take-take x (get_or us 2 0) (drop 3 us) (omega arith)) in
      let z : x ≤ i = most.longest x (omega (arith, expression_length v us o.fits)) (subst Begins same long.begins) in
      omega arith)
    where
      at : (m j : ℕ) → relation_line v ws ≡ refused m j → j < k → ⊥
      at m j = one_place (relation_line v ws) n m k j e

-- relation lines keep their places
pub placing_relation : (v : ℕ) → Placing (λ ws. 0) (relation_line v)
placing_relation v = record {
  within = relation_within v;
  before = λ ws us n k e a t. late n k (relation_line v us) (relation_late v ws n k e us a);
}

-- ---- kind lines

-- the word after the boards is none
after_boards : (v : ℕ) (ys : List ℕ) → boards_before v ys < length ys → v ≤ get_or ys (boards_before v ys) 0
unfolding boards_before
after_boards v [] h = absurd (omega arith)
after_boards v (y ∷ ys) h = go (ltb y v) refl h (after_boards v ys)
  where
    go : (b : Bool) → ltb y v ≡ b → elim b [ true ↦ suc (boards_before v ys) | false ↦ 0 ] < length (y ∷ ys)
        → (boards_before v ys < length ys → v ≤ get_or ys (boards_before v ys) 0) → v ≤ get_or (y ∷ ys) (elim b [ true ↦ suc (boards_before v ys) | false ↦ 0 ]) 0
    go true e h f = f (omega (arith, h))
    go false e h f = ltb-false y v e

-- the tests of a kind line in turn: what the words are at one that fails
module _ (P : ℕ → ℕ → Type 0) (v : ℕ) where
  pub kind_at_lem : (ws : List ℕ) → P 3 (length ws)
      → (3 ≤ length ws → most_ways < get_or ws 2 0 → P 3 2)
      → (WaysFit ws → v ≤ get_or ws 0 0 → P 4 0)
      → (WaysFit ws → get_or ws 0 0 < v → let i = boards_before v (take (get_or ws 2 0) (drop 3 ws)) in i < get_or ws 2 0 → P 4 (3 + i))
      → OnlyAt P (kind_line v ws)
  unfolding kind_line
  kind_at_lem [] short many first ways = short
  kind_at_lem (p ∷ []) short many first ways = short
  kind_at_lem (p ∷ c ∷ []) short many first ways = short
  kind_at_lem (p ∷ c ∷ n ∷ ws) short many first ways =
      at_need P 3 2 (leb n most_ways) _ (λ f. many (omega arith) (nleb→lt n most_ways f)) (λ s.
      at_need P 3 (3 + length ws) (leb n (length ws)) _ (λ f. subst (P 3) (omega arith) short) (λ t.
      let fits : WaysFit (p ∷ c ∷ n ∷ ws) = record { three = omega arith; high = leb→le n most_ways s; room = omega (arith, leb→le n (length ws) t) } in
      at_need P 4 0 (ltb p v) _ (λ f. first fits (nltb→le p v f)) (λ a.
      at_need P 4 (3 + boards_before v (take n ws)) (boards_only v (take n ws)) _
      (λ f.
      ways fits (ltb→lt p v a) (omega (arith, nleb→lt (length (take n ws)) (boards_before v (take n ws)) f, ways_length v (p ∷ c ∷ n ∷ ws) fits)))
      (λ b. tt))))

module _ (v : ℕ) (ws : List ℕ) (n k : ℕ) (e : kind_line v ws ≡ refused n k) where
  -- the place is not past the words
  kind_within : k ≤ length ws
  kind_within =
      subst (OnlyAt (Within (length ws))) e
      (kind_at_lem (Within (length ws)) v ws (omega arith) (λ three h. omega arith) (λ l p. omega (arith, l.three)) (λ l p h. omega (arith, l.three, l.room)))

  -- what is refused with 4 passed the tests of 3
  kind_fits : 4 ≤ n → WaysFit ws
  kind_fits = subst (OnlyAt P) e (kind_at_lem P v ws (λ h. absurd (omega arith)) (λ three f h. absurd (omega arith)) (λ l p h. l) (λ l p f h. l))
    where
      P : ℕ → ℕ → Type 0
      P m j = 4 ≤ m → WaysFit ws

  -- a test that us fails before the place is one that ws fails
  kind_late : (us : List ℕ) → SameBefore k ws us → OnlyAt (Late n k) (kind_line v us)
  kind_late us a =
      kind_at_lem (Late n k) v us (λ h l. omega (arith, kind_within, a.many))
      (λ three f h l. let w = alike_word a 2 l in at 3 2 (kind_no_number v ws (omega (arith, a.many)) (omega arith)) l)
      (λ fits p h l. let w = alike_word a 0 l in at 4 0 (kind_no_panel v ws (kind_fits h) (omega arith)) l)
      (λ fits p f h l.
      let w = alike_word a 0 (omega arith) in
      let c = alike_word a 2 (omega arith) in
      let ours = take (get_or us 2 0) (drop 3 us) in
      let ways = take (get_or ws 2 0) (drop 3 ws) in
      let i = boards_before v ours in
      let way : (j : ℕ) → j ≤ i → get_or ways j 0 ≡ get_or ours j 0 =
      λ j x.
      get_or-take (get_or ws 2 0) (drop 3 ws) j 0 (omega arith) ∙ sym (alike_word (alike_after a 3 (k - 3) (omega arith)) j (omega arith))
      ∙ sym (get_or-take (get_or us 2 0) (drop 3 us) j 0 (omega arith)) in
      let same : boards_before v ways ≡ i =
      boards_before_lem v ways i (omega (arith, ways_length v ws (kind_fits h))) (λ j x. omega (arith, way j (omega arith), before_boards v ours j x))
      (omega (arith, way i (omega arith), after_boards v ours (omega (arith, ways_length v us fits)))) in
      at 4 (3 + i) (kind_no_way v ws (kind_fits h) (omega arith) (omega arith) ∙ ap (λ (j : ℕ). refused 4 (3 + j)) same) l)
    where
      at : (m j : ℕ) → kind_line v ws ≡ refused m j → j < k → ⊥
      at m j = one_place (kind_line v ws) n m k j e

-- kind lines keep their places
pub placing_kind : (v : ℕ) → Placing (λ ws. 0) (kind_line v)
placing_kind v = record {
  within = kind_within v;
  before = λ ws us n k e a t. late n k (kind_line v us) (kind_late v ws n k e us a);
}
