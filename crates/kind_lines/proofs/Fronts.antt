-- What is found at the front of a section's words, by the first way that is no board of the part that is lent. Assumes nothing.
use mathlib.Core.Path.{◌≡◌, refl, sym, ap, ◌∙◌}
use mathlib.Core.Bool.{Bool, true, false, cond}
use mathlib.Core.List.{List, ◌∷◌}
use Prim.Native.Nat.{ℕ, ◌+◌, ◌-◌, ◌≤◌, ◌<◌}
use native.Mathlib.Omega.{arith}
use borrow.Author.Tests.{ltb-false, leb-true, leb-false}
use lib.Dec.{T, le→leb, leb, ltb, ltb→lt, lt→ltb}
use lib.ListN.{length, get_or, take, drop}
use Rattle.std.specs.Prelude.{Some, None, Ok, Err}
use Rattle.std.specs.List.{position, position_or_len}
use Rattle.std.proofs.lemmas.List.Recursion.{is_position_or_len}
use Rattle.std.proofs.lemmas.List.Quantifiers.{position-Some}
use Rattle.std.proofs.lemmas.Option.{none-some}
use Rattle.rules.specs.Descriptions.{KindLine, Reading, good, refused, Front, boards_before, boards_only, kind_line}
use Rattle.rules.proofs.Parts.{part}
use Rattle.rules.proofs.Tests.{clash, T_true, T_false}
use Rattle.rules.proofs.Lines.{WaysFit, boards_before_lem, kind_no_way, kind_read, ways_length, after_line}
use Rattle.answers.specs.declared.refusals.Refusal.{Refusal}
use Rattle.answers.specs.Answers.{refusal}
use Rattle.kind_lines.specs.Found.{kind_found}

-- the boards before the first way that is none, by its place
one_way : (v y : ℕ) (ys : List ℕ) → boards_before v (y ∷ ys) ≡ cond (leb v y) 0 (1 + boards_before v ys)
unfolding boards_before
one_way v y ys = go (leb v y) refl
  where
    go : (b : Bool) → leb v y ≡ b → boards_before v (y ∷ ys) ≡ cond b 0 (1 + boards_before v ys)
    go true e = let f : ltb y v ≡ false = T_false (λ t. let l = ltb→lt y v t in omega (arith, leb-true v y e, l)) in rw (f, boards_before)
    go false e = let f : ltb y v ≡ true = T_true (lt→ltb y v (leb-false v y e)) in rw (f, boards_before) (omega arith)

boards_by : (v : ℕ) (ys : List ℕ) → boards_before v ys ≡ position_or_len (leb v) ys
unfolding boards_before
boards_by v = is_position_or_len (boards_before v) (leb v) refl (one_way v)

all_boards : (v : ℕ) (ys : List ℕ) → None ≡ position (leb v) ys → length ys ≤ boards_before v ys
all_boards v ys none = go (ltb (position_or_len (leb v) ys) (length ys)) refl none
  where
    go : (b : Bool) → ltb (position_or_len (leb v) ys) (length ys) ≡ b → None ≡ cond b (Some (position_or_len (leb v) ys)) None → length ys ≤ boards_before v ys
    go true e h = absurd (none-some _ h)
    go false e h = omega (arith, boards_by v ys, ltb-false _ _ e)

-- of the ways that code lends
module _ (v : ℕ) (ws : List ℕ) (k : ℕ) (width : k ≡ get_or ws 2 0) (fits : WaysFit ws) (panel : get_or ws 0 0 < v) where
  abbrev lent : List ℕ
  lent = take (3 + k - 3) (drop 3 ws)

  abbrev ways : List ℕ
  ways = take (get_or ws 2 0) (drop 3 ws)

  lent_ways : lent ≡ ways
  lent_ways = ap (λ (m : ℕ). take m (drop 3 ws)) (part k (get_or ws 2 0) width)

  -- a line with a way that is no board
  pub kind_way_found : (i : ℕ) → Some i ≡ position (leb v) lent → kind_line v ws ≡ refused 4 (3 + i)
  kind_way_found i found =
      let first = position-Some (leb v) ways i 0 (ap (position (leb v)) (sym lent_ways) ∙ sym found) in
      let at : boards_before v ways ≡ i =
      boards_before_lem v ways i first.0 (λ j h. leb-false v (get_or ways j 0) (first.2 j h)) (leb-true v (get_or ways i 0) first.1) in
      kind_no_way v ws fits panel (omega (arith, at, first.0, ways_length v ws fits)) ∙ ap (λ (m : ℕ). refused 4 (3 + m)) at

  -- a line whose ways are boards
  pub kind_line_found : None ≡ position (leb v) lent → Ok (length ws - (3 + k)) ≡ kind_found (kind_line v ws)
  kind_line_found found =
      let all : T (boards_only v ways) = le→leb (length ways) (boards_before v ways) (all_boards v ways (found ∙ ap (position (leb v)) lent_ways)) in
      rw (width, kind_read v ws (record { fits = fits; p_board = panel; way_boards = all }), after_line (get_or ws 2 0) ws)

-- what was found, read back
pub kind_line_out : (r : Reading (Front KindLine)) (k : ℕ) → Ok k ≡ kind_found r → (f : Front KindLine) × (r ≡ good f) × (length f.rest ≡ k)
kind_line_out (good f) k p = (f, refl, cc)
kind_line_out (refused n i) k p = clash (cc)

pub kind_refused_out : (r : Reading (Front KindLine)) (q : Refusal) → Err q ≡ kind_found r
    → (n k : ℕ) × (r ≡ refused n k) × (q ≡ refusal n k)
kind_refused_out (good f) q p = clash (cc)
kind_refused_out (refused n k) q p = (n, k, refl, cc)
