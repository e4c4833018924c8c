-- The places of refused descriptions: none is past the words, and no word before it breaks the rule. Assumes nothing.
use mathlib.Core.Path.{◌≡◌, refl, sym, ◌∙◌, subst}
use mathlib.Core.Bool.{Bool, true, false}
use mathlib.Core.List.{List}
use Prim.Native.Nat.{ℕ, ◌+◌, ◌-◌, ◌≤◌, ◌<◌}
use native.Mathlib.Nat.{le_refl}
use native.Mathlib.Omega.{arith}
use lib.ListN.{length, get_or, take, drop, length-drop}
use lib.Seq.{length-take-le}
use Rattle.rules.specs.Descriptions.{RelationLine, KindLine, Sheet, Reading, good, refused, need, next, later, relation_line, kind_line, section, after_numbers, after_offsets, after_header, relation_lines, kind_lines, both_read, meant, agreed, agreed_sheet, read}
use Rattle.rules.specs.Places.{SameBefore, Placing}
use Rattle.rules.proofs.Tests.{clash}
use Rattle.rules.proofs.Headers.{Placed, numbers_in, places_in}
use Rattle.rules.proofs.PlacedReadings.{alike_less, alike_after, alike_front, alike_word, OnlyAt, Within, Late, late, placing_late}
use Rattle.rules.proofs.PlacedSections.{placing_relations}
use Rattle.rules.proofs.PlacedKinds.{agreed_lines, placing_agreed}
use Rattle.rules.proofs.PlacedHeaders.{range_alike, placed_alike, header_within, header_late}

-- what comes after a reading with a header comes after its header
module _ {X Y : Type 0} where
  next_need : (n k : ℕ) (b : Bool) (r : Reading Y) (f : Y → Reading X) → next (need n k b r) f ≡ need n k b (next r f)
  next_need n k true r f = refl
  next_need n k false r f = refl

  next_headed : (ws : List ℕ) (r : Reading Y) (f : Y → Reading X) → next (after_header ws r) f ≡ after_header ws (next r f)
  unfolding after_numbers after_offsets
  next_headed ws r f = simp next_need

module _ (ws : List ℕ) where
  -- the lines of the two sections, 11 included
  relation_part : Reading (List RelationLine)
  relation_part = section (relation_line (get_or ws 0 0)) (get_or ws 1 0) (take (get_or ws 4 0 - 6) (drop 6 ws))

  kind_part : Reading (List KindLine)
  kind_part = agreed_lines (get_or ws 0 0) (get_or ws 2 0) (drop (get_or ws 4 0) ws)

  -- what is read after the header
  body : Reading Sheet
  body = next (both_read (get_or ws 0 0) (relation_lines ws) (kind_lines ws)) (agreed_sheet (get_or ws 4 0))

  read_headed : read ws ≡ after_header ws body
  unfolding read meant body
  read_headed = next_headed ws _ _

  -- it is refused in the relation section, or after that in the kind section
  body_at : (P : ℕ → ℕ → Type 0) → ((n i : ℕ) → relation_part ≡ refused n i → P n (6 + i))
      → ((ls : List RelationLine) → relation_part ≡ good ls → (n i : ℕ) → kind_part ≡ refused n i → P n (get_or ws 4 0 + i)) → OnlyAt P body
  unfolding relation_part kind_part body relation_lines kind_lines
  body_at P = go relation_part (section (kind_line (get_or ws 0 0)) (get_or ws 2 0) (drop (get_or ws 4 0) ws))
    where
      last : (r : Reading (List KindLine)) (s : Sheet) → ((n i : ℕ) → r ≡ refused n i → P n (get_or ws 4 0 + i))
          → OnlyAt P (next (later (get_or ws 4 0) r) (λ ks. good s))
      last (good ks) s f = tt
      last (refused n i) s f = f n i refl

      go : (r : Reading (List RelationLine)) (s : Reading (List KindLine)) → ((n i : ℕ) → r ≡ refused n i → P n (6 + i))
          → ((ls : List RelationLine) → r ≡ good ls → (n i : ℕ) → next s agreed ≡ refused n i → P n (get_or ws 4 0 + i))
          → OnlyAt P (next (both_read (get_or ws 0 0) (later 6 r) (later (get_or ws 4 0) s)) (agreed_sheet (get_or ws 4 0)))
      go (refused n i) s f g = f n i refl
      go (good ls) (refused n i) f g = g ls refl n i refl
      go (good ls) (good ks) f g = last (agreed ks) _ (g ls refl)

  module _ (p : Placed ws) where
    -- the words of the relation section
    relations_length : length (take (get_or ws 4 0 - 6) (drop 6 ws)) ≡ get_or ws 4 0 - 6
    relations_length = length-take-le (get_or ws 4 0 - 6) (drop 6 ws) (omega (arith, length-drop 6 ws, p.before, p.total))

    -- a place in the relation section is at most the kind offset
    relations_within : (n i : ℕ) → relation_part ≡ refused n i → 6 + i ≤ get_or ws 4 0
    unfolding relation_part
    relations_within n i e =
        omega (arith, relations_length, p.after, (placing_relations (get_or ws 0 0) (get_or ws 1 0)).within (take (get_or ws 4 0 - 6) (drop 6 ws)) n i e)

    -- and one in either section is not past the words
    body_within : OnlyAt (Within (length ws)) body
    unfolding kind_part
    body_within =
        body_at (Within (length ws)) (λ n i e. omega (arith, relations_within n i e, p.before, p.total)) (λ ls x n i e.
        omega (arith, (placing_agreed (get_or ws 0 0) (get_or ws 2 0)).within (drop (get_or ws 4 0) ws) n i e, length-drop (get_or ws 4 0) ws, p.before, p.total))

-- us has the header of ws, so its sections are read alike
module _ (k : ℕ) (ws us : List ℕ) (a : SameBefore k ws us) (six : 6 ≤ k) where
  relations_alike : relation_part us ≡ section (relation_line (get_or ws 0 0)) (get_or ws 1 0) (take (get_or ws 4 0 - 6) (drop 6 us))
  unfolding relation_part
  relations_alike = rw (alike_word a 0 (omega arith), alike_word a 1 (omega arith), alike_word a 4 (omega arith))

  kinds_alike : kind_part us ≡ agreed_lines (get_or ws 0 0) (get_or ws 2 0) (drop (get_or ws 4 0) us)
  unfolding kind_part
  kinds_alike = rw (alike_word a 0 (omega arith), alike_word a 2 (omega arith), alike_word a 4 (omega arith))

  -- the whole relation section is the same
  relations_same : 6 ≤ get_or ws 4 0 → get_or ws 4 0 ≤ k → relation_part us ≡ relation_part ws
  unfolding relation_part
  relations_same l h = relations_alike ∙ rw (alike_after (alike_less a (get_or ws 4 0) h) 6 (get_or ws 4 0 - 6) (omega arith)).same

-- so us is not refused before ws in one section, nor in one before it
module _ (ws us : List ℕ) where
  relations_late : Placed ws → (n x m i : ℕ) → relation_part ws ≡ refused n x → relation_part us ≡ refused m i → SameBefore (6 + x) ws us → Late n (6 + x) m (6 + i)
  unfolding relation_part
  relations_late p n x m i e d a h l =
      let v = get_or ws 0 0 in
      let o = get_or ws 4 0 - 6 in
      placing_late (section (relation_line v) (get_or ws 1 0)) (placing_relations v (get_or ws 1 0)) (take o (drop 6 ws)) (take o (drop 6 us)) n x m i e
      (sym (relations_alike (6 + x) ws us a (omega arith)) ∙ d)
      (alike_front (alike_after a 6 x refl) o (omega (arith, relations_within ws p n x e))) h (omega arith)

  kinds_late : Placed ws → (n x m i : ℕ) → kind_part ws ≡ refused n x → kind_part us ≡ refused m i → SameBefore (get_or ws 4 0 + x) ws us
      → Late n (get_or ws 4 0 + x) m (get_or ws 4 0 + i)
  unfolding kind_part
  kinds_late p n x m i e d a h l =
      let v = get_or ws 0 0 in
      let o = get_or ws 4 0 in
      placing_late (agreed_lines v (get_or ws 2 0)) (placing_agreed v (get_or ws 2 0)) (drop o ws) (drop o us) n x m i e
      (sym (kinds_alike (o + x) ws us a (omega (arith, p.after))) ∙ d) (alike_after a o x refl) h (omega arith)

  body_late : (n k : ℕ) → SameBefore k ws us → Placed us → (6 ≤ k → Placed ws × (body ws ≡ refused n k)) → OnlyAt (Late n k) (body us)
  body_late n k a p f =
      body_at us (Late n k) (λ m i d h l.
      let (q, e) = f (omega arith) in
      subst (OnlyAt (P m (6 + i))) e
      (body_at ws (P m (6 + i)) (λ o x g b. relations_late q o x m i g d b)
      (λ ls y o x g b s t.
      let z = relations_same (get_or ws 4 0 + x) ws us b (omega (arith, q.after)) q.after (omega arith) in clash (cc))) a h l)
      (λ ls y m i d h l.
      let (q, e) = f (omega (arith, p.after)) in
      let w = alike_word a 4 (omega (arith, p.after)) in
      subst (OnlyAt (P m (get_or us 4 0 + i))) e
      (body_at ws (P m (get_or us 4 0 + i)) (λ o x g b s t. omega (arith, relations_within ws q o x g))
      (λ ls y o x g b. rw w (kinds_late q o x m i g d b))) a h l)
    where
      P : ℕ → ℕ → ℕ → ℕ → Type 0
      P m j n k = SameBefore k ws us → Late n k m j

-- a place is at most most, if all words are where they are too few or as many as the header says, and if that is at least the header's last place
module _ (ws : List ℕ) (most : ℕ) (short : length ws < 6 → length ws ≤ most) (last : 6 ≤ length ws → 5 ≤ most) (whole : Placed ws → length ws ≤ most) where
  wider : (p : Placed ws) (r : Reading Sheet) → OnlyAt (Within (length ws)) r → OnlyAt (Within most) r
  wider p (good s) h = tt
  wider p (refused n k) h = omega (arith, h, whole p)

  place_within : (n k : ℕ) → read ws ≡ refused n k → k ≤ most
  place_within n k e =
      subst (OnlyAt (Within most)) (sym (read_headed ws) ∙ e) (header_within most ws (body ws) short last (λ p. wider p (body ws) (body_within ws p)))

-- it is never past the total and the header's last place, which are small numbers
pub place_small : (ws : List ℕ) (n k : ℕ) → read ws ≡ refused n k → k ≤ 5 + get_or ws 5 0
place_small ws = place_within ws (5 + get_or ws 5 0) (λ h. omega arith) (λ h. omega arith) (λ p. omega (arith, p.total))

-- descriptions keep their places
pub placing_read : Placing (λ ws. get_or ws 5 0) read
placing_read = record {
  within = λ ws n k e. place_within ws (length ws) (λ h. le_refl (length ws)) (λ h. omega arith) (λ p. le_refl (length ws)) n k e;
  before = λ ws us n k e a t.
      let h = sym (read_headed ws) ∙ e in
      late n k (read us) (rw (read_headed us) (header_late ws us (body ws) (body us) n k a h t (λ i p.
      body_late ws us n k a p (λ six.
      let q = placed_alike k ws us a (omega arith) t p in
      (q, sym (numbers_in ws (after_offsets ws (body ws)) (range_alike k ws us a (omega arith) i) ∙ places_in ws (body ws) q) ∙ h)))));
}
