-- The walk along the pairs of boards: the pairs of one board follow each other, and then come those of the next. Assumes nothing.
use mathlib.Core.Path.{◌≡◌, refl, sym, ap, ◌∙◌}
use mathlib.Core.Bool.{Bool, true, false}
use mathlib.Core.Logic.{⊎_elim}
use mathlib.Core.List.{List, [], ◌∷◌, ◌++◌, flat_map}
use Prim.Native.Nat.{ℕ, zero, suc, ◌+◌, ◌*◌, ◌-◌, ◌≤◌, ◌<◌}
use native.Mathlib.Nat.{eq-or-lt_of_le, add-suc}
use native.Mathlib.Numerals.{add-one}
use native.Mathlib.Omega.{arith}
use lib.Dec.{T, leb, leb→le, ltb, lt→ltb, ltb→lt}
use lib.ListN.{length, get_or, drop, length-append, length-drop, get_or-append}
use lib.Seq.{drop-drop, drop_at, get_or-drop}
use Rattle.rules.specs.Descriptions.{most_pairs, most_boards}
use Rattle.rules.specs.Tables.{range, up_to}
use Rattle.rules.specs.Search.{places}
use Rattle.rules.proofs.Tests.{true_T}
use Rattle.rules.proofs.Members.{each_of_out, up_to_in, member_at}
use Rattle.rules.proofs.Inside.{in_range_lem}
use Rattle.rules.proofs.Choices.{all_places}
use Rattle.choosing.specs.declared.pairs.Pair.{Pair}
use Rattle.choosing.specs.Pairs.{pair_cell, before, IsPair}

-- ---- ranges of numbers

range_length : (n i : ℕ) → length (range i n) ≡ n
range_length zero i = refl
range_length (suc n) i = ap suc (range_length n (suc i))

range_at : (n i k : ℕ) → k < n → get_or (range i n) k 0 ≡ i + k
range_at zero i k h = let z : ⊥ = omega arith in absurd z
range_at (suc n) i zero h = omega arith
range_at (suc n) i (suc k) h = omega (arith, range_at n (suc i) k (omega arith))

-- ---- the pairs of one board

module _ (v p : ℕ) where
  -- the pair of p and q, if p comes before q
  abbrev one : ℕ → List ℕ
  one q = elim (ltb p q) [ true ↦ (v * p + q) ∷ [] | false ↦ [] ]

  one_in : (q : ℕ) → p < q → one q ≡ (v * p + q) ∷ []
  one_in q h = go (ltb p q) (lt→ltb p q h)
    where
      go : (b : Bool) → T b → ◌≡◌ {A = List ℕ} (elim b [ true ↦ (v * p + q) ∷ [] | false ↦ [] ]) ((v * p + q) ∷ [])
      go true t = refl
      go false t = absurd t

  one_out : (q : ℕ) → q ≤ p → one q ≡ []
  one_out q h = go (ltb p q) refl
    where
      go : (b : Bool) → ltb p q ≡ b → ◌≡◌ {A = List ℕ} (elim b [ true ↦ (v * p + q) ∷ [] | false ↦ [] ]) []
      go true e = let l : p < q = ltb→lt p q (true_T e) in let z : ⊥ = omega arith in absurd z
      go false e = refl

  row_past : (n i : ℕ) → p < i → flat_map one (range i n) ≡ range (v * p + i) n
  unfolding flat_map
  row_past zero i h = refl
  row_past (suc n) i h =
      ap (λ (l : List ℕ). l ++ flat_map one (range (suc i) n)) (one_in i h)
      ∙ ap (λ (l : List ℕ). (v * p + i) ∷ l) (row_past n (suc i) (omega arith) ∙ ap (λ (j : ℕ). range j n) (add-suc (v * p) i))

  row_from : (n i : ℕ) → i ≤ suc p → flat_map one (range i n) ≡ range (v * p + suc p) (i + n - suc p)
  unfolding flat_map
  row_from zero i h = let e : 0 ≡ i + 0 - suc p = omega arith in ap (range (v * p + suc p)) e
  row_from (suc n) i h =
      ⊎_elim
      (λ (e : i ≡ suc p). let d : suc n ≡ i + suc n - suc p = omega arith in
      row_past (suc n) i (omega arith) ∙ ap (λ (j : ℕ). range (v * p + j) (suc n)) e ∙ ap (range (v * p + suc p)) d)
      (λ (l : i < suc p). let d : suc i + n - suc p ≡ i + suc n - suc p = omega arith in
      ap (λ (l : List ℕ). l ++ flat_map one (range (suc i) n)) (one_out i (omega arith)) ∙ row_from n (suc i) l ∙ ap (range (v * p + suc p)) d)
      (eq-or-lt_of_le h)

  abbrev row : List ℕ
  row = flat_map one (up_to v)

  row_range : row ≡ range (v * p + suc p) (v - suc p)
  row_range = let d : 0 + v - suc p ≡ v - suc p = omega arith in row_from v 0 (omega arith) ∙ ap (range (v * p + suc p)) d

  row_length : length row ≡ v - suc p
  row_length = ap length row_range ∙ range_length (v - suc p) (v * p + suc p)

  row_at : (k : ℕ) → k < v - suc p → get_or row k 0 ≡ v * p + suc p + k
  row_at k h = ap (λ (l : List ℕ). get_or l k 0) row_range ∙ range_at (v - suc p) (v * p + suc p) k h

-- ---- the pairs of all boards

module _ (v : ℕ) where
  -- the pairs of n boards from p on
  abbrev rows : ℕ → ℕ → List ℕ
  rows p n = flat_map (row v) (range p n)

  rows_cons : (p n : ℕ) → rows p (suc n) ≡ row v p ++ rows (suc p) n
  unfolding flat_map
  rows_cons p n = refl

  places_rows : places v ≡ rows 0 v
  unfolding places
  places_rows = refl

  rows_length : (n p : ℕ) → length (rows p n) + before v p ≡ before v (p + n)
  unfolding flat_map before
  rows_length zero p = let e : p ≡ p + 0 = omega arith in let d : before v p ≡ before v (p + 0) = ap (before v) e in omega arith
  rows_length (suc n) p =
      let e : suc p + n ≡ p + suc n = omega arith in
      let d : before v (suc p + n) ≡ before v (p + suc n) = ap (before v) e in
      let l : length (rows p (suc n)) ≡ length (row v p) + length (rows (suc p) n) = length-append (row v p) (rows (suc p) n) in
      omega (arith, row_length v p, rows_length n (suc p))

  -- there are as many pairs as come before those of the board v
  pub places_length : length (places v) ≡ before v v
  unfolding before
  places_length =
      let e : 0 + v ≡ v = omega arith in
      let d : before v (0 + v) ≡ before v v = ap (before v) e in
      let l : length (places v) ≡ length (rows 0 v) = ap length places_rows in
      omega (arith, rows_length v 0)

  rows_first : (p : ℕ) → p < v → rows p (v - p) ≡ row v p ++ rows (suc p) (v - suc p)
  rows_first p h = let e : v - p ≡ suc (v - suc p) = omega arith in ap (rows p) e ∙ rows_cons p (v - suc p)

  -- the pairs from those of the board p on
  places_from : (p : ℕ) → p ≤ v → drop (before v p) (places v) ≡ rows p (v - p)
  unfolding before
  places_from zero h = let e : v ≡ v - 0 = omega arith in places_rows ∙ ap (rows 0) e
  places_from (suc p) h =
      sym (drop-drop (v - suc p) (before v p) (places v)) ∙ ap (drop (v - suc p)) (places_from p (omega arith) ∙ rows_first p h)
      ∙ drop_at (row v p) (rows (suc p) (v - suc p)) (v - suc p) (row_length v p)

  module _ (p k : ℕ) (h : suc p + k < v) where
    places_row : drop (before v p) (places v) ≡ row v p ++ rows (suc p) (v - suc p)
    places_row = places_from p (omega arith) ∙ rows_first p (omega arith)

    places_at_lem : pair_cell v (before v p + k) ≡ v * p + suc p + k
    places_at_lem =
        sym (get_or-drop (before v p) (places v) k 0) ∙ ap (λ (l : List ℕ). get_or l k 0) places_row
        ∙ get_or-append (row v p) (rows (suc p) (v - suc p)) 0 k (omega (arith, row_length v p)) ∙ row_at v p k (omega arith)

    places_within : before v p + k < length (places v)
    places_within =
        let l : length (drop (before v p) (places v)) ≡ length (row v p) + length (rows (suc p) (v - suc p)) =
        ap length places_row ∙ length-append (row v p) (rows (suc p) (v - suc p)) in
        omega (arith, row_length v p, length-drop (before v p) (places v))

-- ---- where a pair stands

module _ {v : ℕ} {at : Pair} (h : IsPair v at) where
  -- both are boards
  pub pair_board : at.q < v → at.p < v
  pair_board l = omega arith

  -- its cell
  pub pair_place : at.q < v → pair_cell v at.index ≡ v * at.p + at.q
  pair_place l =
      let k : ℕ = at.q - suc at.p in
      let e : at.index ≡ before v at.p + k = omega arith in
      let d : v * at.p + suc at.p + k ≡ v * at.p + at.q = omega arith in
      ap (pair_cell v) e ∙ places_at_lem v at.p k (omega arith) ∙ d

  pub pair_within : at.q < v → at.index < length (places v)
  pair_within l = omega (arith, places_within v at.p (at.q - suc at.p) (omega arith))

  past : at.q ≡ v → at.index ≡ length (places v)
  unfolding before
  past e =
      let l : at.p + 1 ≡ v = h.last e in
      let s : v ≡ suc at.p = omega arith in
      let b : before v v ≡ before v at.p + (v - suc at.p) = ap (before v) s in
      omega (arith, places_length v)

  -- past the last pair its number is how many there are; before that it is less
  pub pair_end : (at.q < v → ⊥) → at.index ≡ length (places v)
  pair_end f = ⊎_elim past (λ l. absurd (f l)) (eq-or-lt_of_le h.most)

  pub pair_open : at.index < length (places v) → at.q < v
  pair_open l = ⊎_elim (λ e. let z : ⊥ = omega (arith, past e) in absurd z) (λ m. m) (eq-or-lt_of_le h.most)

-- each pair's cell is one of the table's
pub place_cell : (v m : ℕ) → m < length (places v) → pair_cell v m < v * v
place_cell v m h =
    all_places (λ k. k < v * v) v (λ p q l g. in_range_lem v p q (omega arith) g) (pair_cell v m) (member_at (places v) m h)

-- the most boards have this many pairs, and fewer boards have no more
pub pairs_most : (v : ℕ) → v ≤ most_boards → length (places v) ≤ most_pairs
unfolding places flat_map
pairs_most v h =
    leb→le (length (places v)) most_pairs
    (each_of_out (λ n. leb (length (places n)) most_pairs) (up_to (suc most_boards)) tt v (up_to_in {n = suc most_boards} {j = v} (omega arith)))

-- ---- steps

pub first_pair : {v : ℕ} → 0 < v → IsPair v record { p = 0; q = 1; index = 0 }
unfolding before
first_pair h = record { below = omega arith; most = h; last = λ e. omega arith; counted = refl }

before_next : (v p : ℕ) → before v (p + 1) ≡ before v p + (v - suc p)
unfolding before
before_next v p = ap (before v) (add-one p)

before_back : (v p : ℕ) → 0 < p → before v p ≡ before v (p - 1) + (v - p)
unfolding before
before_back v zero h = let z : ⊥ = omega arith in absurd z
before_back v (suc p) h = let e : p ≡ suc p - 1 = omega arith in ap (λ (n : ℕ). before v n + (v - suc p)) e

module _ {v : ℕ} {at : Pair} (h : IsPair v at) where
  -- the first pair of the next board
  pub next_first : at.q < v → v ≤ at.q + 1 → IsPair v record { p = at.p + 1; q = at.p + 2; index = at.index + 1 }
  next_first l m = record { below = omega arith; most = omega arith; last = λ e. omega arith; counted = omega (arith, before_next v at.p) }

  -- a board's first pair that is not the first of all is one of a later board, and before it comes the last pair of the board before
  pub later_board : 0 < at.index → at.q ≤ at.p + 1 → 0 < at.p
  unfolding before
  later_board l m = go at.p refl
    where
      go : (p : ℕ) → at.p ≡ p → 0 < p
      go zero e = let b : before v at.p ≡ 0 = ap (before v) e in let z : ⊥ = omega arith in absurd z
      go (suc p) e = omega arith

  pub last_pair : 0 < at.index → at.q ≤ at.p + 1 → IsPair v record { p = at.p - 1; q = v - 1; index = at.index - 1 }
  last_pair l m =
      let g : 0 < at.p = later_board l m in
      record { below = omega arith; most = omega arith; last = λ e. omega arith; counted = omega (arith, before_back v at.p g) }
