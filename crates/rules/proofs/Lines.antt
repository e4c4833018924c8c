-- A line by its words: the tests that it passes, in turn, and what it then is. Assumes nothing.
use mathlib.Core.Path.{◌≡◌, refl, sym, ap, ◌∙◌, subst}
use mathlib.Core.Bool.{Bool, true, false, ◌&&◌}
use mathlib.Core.List.{List, [], ◌∷◌}
use Prim.Native.Nat.{ℕ, zero, suc, ◌+◌, ◌-◌, ◌≤◌, ◌<◌}
use native.Mathlib.Omega.{arith}
use lib.Dec.{T, leb, ltb, leb→le, le→leb, ltb→lt, lt→ltb}
use lib.ListN.{length, get_or, take, drop, length-drop}
use lib.Seq.{drop-drop, length-take-le}
use Rattle.rules.specs.Expressions.{expression}
use Rattle.rules.specs.Descriptions.{most_expression_words, most_ways, RelationLine, KindLine, Reading, good, refused, Front, need, next, later, meaning, boards_before, boards_only, relation_line, kind_line}
use Rattle.rules.proofs.Tests.{true_T, T_true, T_false, and_T, T-and_left, T-and_right}
use Rattle.rules.proofs.Parts.{Suffix, drop_suffix}
use Rattle.rules.proofs.Readings.{never, need_passed, need_failed, need_out, next_out, later_out}

-- ---- the tests as orders of numbers

pub length_in : (n : ℕ) → 1 ≤ n → n ≤ most_expression_words → T (leb 1 n && leb n most_expression_words)
length_in n a b = and_T (leb 1 n) (leb n most_expression_words) (le→leb 1 n a) (le→leb n most_expression_words b)

pub length_out : (n : ℕ) → T (leb 1 n && leb n most_expression_words) → (1 ≤ n) × (n ≤ most_expression_words)
length_out n t =
    (leb→le 1 n (T-and_left (leb 1 n) (leb n most_expression_words) t), leb→le n most_expression_words (T-and_right (leb 1 n) (leb n most_expression_words) t))

-- ---- the boards before the first word that is none

module _ (v y : ℕ) (ys : List ℕ) where
  before_board : y < v → boards_before v (y ∷ ys) ≡ suc (boards_before v ys)
  unfolding boards_before
  before_board h = let e : ltb y v ≡ true = T_true (lt→ltb y v h) in rw (e, boards_before)

  before_stranger : v ≤ y → boards_before v (y ∷ ys) ≡ 0
  unfolding boards_before
  before_stranger h = let e : ltb y v ≡ false = T_false (λ t. let l = ltb→lt y v t in omega arith) in rw (e, boards_before)

-- so many words are boards, and then comes one that is none
pub boards_before_lem : (v : ℕ) (ys : List ℕ) (i : ℕ) → i < length ys → ((j : ℕ) → j < i → get_or ys j 0 < v) → v ≤ get_or ys i 0 → boards_before v ys ≡ i
boards_before_lem v [] i h f l = let z : ⊥ = omega arith in absurd z
boards_before_lem v (y ∷ ys) zero h f l = before_stranger v y ys l
boards_before_lem v (y ∷ ys) (suc i) h f l =
    before_board v y ys (f 0 (omega arith)) ∙ ap suc (boards_before_lem v ys i (omega (arith, h)) (λ j k. f (suc j) (omega arith)) l)

-- or all of them are boards
pub boards_all : (v : ℕ) (ys : List ℕ) → ((j : ℕ) → j < length ys → get_or ys j 0 < v) → boards_before v ys ≡ length ys
unfolding boards_before
boards_all v [] f = refl
boards_all v (y ∷ ys) f = before_board v y ys (f 0 (omega arith)) ∙ ap suc (boards_all v ys (λ j k. f (suc j) (omega arith)))

-- those before are boards, and are no more than there are words
pub before_boards : (v : ℕ) (ys : List ℕ) (i : ℕ) → i < boards_before v ys → get_or ys i 0 < v
unfolding boards_before
before_boards v [] i h = let z : ⊥ = omega arith in absurd z
before_boards v (y ∷ ys) i h = go (ltb y v) refl i h (before_boards v ys)
  where
    go : (b : Bool) → ltb y v ≡ b → (i : ℕ) → i < elim b [ true ↦ suc (boards_before v ys) | false ↦ 0 ]
        → ((j : ℕ) → j < boards_before v ys → get_or ys j 0 < v) → get_or (y ∷ ys) i 0 < v
    go true e zero h f = ltb→lt y v (true_T e)
    go true e (suc i) h f = f i (omega (arith, h))
    go false e i h f = let z : ⊥ = omega arith in absurd z

pub boards_only_out : (v : ℕ) (ys : List ℕ) → T (boards_only v ys) → (i : ℕ) → i < length ys → get_or ys i 0 < v
boards_only_out v ys t i h = before_boards v ys i (omega (arith, h, leb→le (length ys) (boards_before v ys) t))

-- the words after a line's first three and n more
pub after_line : (n : ℕ) (ws : List ℕ) → length (drop n (drop 3 ws)) ≡ length ws - (3 + n)
after_line n ws = ap length (drop-drop n 3 ws) ∙ length-drop (3 + n) ws

line_suffix : (n : ℕ) (ws : List ℕ) → 3 ≤ length ws → n ≤ length ws - 3 → Suffix ws (drop n (drop 3 ws))
line_suffix n ws h l = subst (Suffix ws) (sym (drop-drop n 3 ws)) (drop_suffix (3 + n) ws (omega arith))

-- ---- relation lines

-- the tests of 3 are passed, and those of 4
pub record LengthFits (ws : List ℕ) : Type 0 where
  pub three : 3 ≤ length ws
  pub low : 1 ≤ get_or ws 2 0
  pub high : get_or ws 2 0 ≤ most_expression_words
  pub room : get_or ws 2 0 ≤ length ws - 3

pub record OnBoards (v : ℕ) (ws : List ℕ) : Type 0 where
  pub fits : LengthFits ws
  pub p_board : get_or ws 0 0 < v
  pub q_board : get_or ws 1 0 < v

module _ (v : ℕ) (ws : List ℕ) where
  -- what the words then come to, by the expression's set
  abbrev pub relation_front : ℕ → Front RelationLine
  relation_front x = record { line = record { p = get_or ws 0 0; q = get_or ws 1 0; allowed = x }; rest = drop (get_or ws 2 0) (drop 3 ws) }

  -- what the expression's words mean, and the line by that
  abbrev pub means : Reading ℕ
  means = meaning (get_or ws 2 0) (expression (take (get_or ws 2 0) (drop 3 ws)))

  abbrev pub read_relation : Reading (Front RelationLine)
  read_relation = next (later 3 means) (λ x. good (relation_front x))

  length_test : Bool
  length_test = leb 1 (get_or ws 2 0) && leb (get_or ws 2 0) most_expression_words

  room_test : Bool
  room_test = leb (get_or ws 2 0) (length (drop 3 ws))

  -- the tests of 4, one for each board
  on_boards : Reading (Front RelationLine)
  on_boards = need 4 0 (ltb (get_or ws 0 0) v) (need 4 1 (ltb (get_or ws 1 0) v) read_relation)

  room_in : 3 ≤ length ws → get_or ws 2 0 ≤ length ws - 3 → T room_test
  unfolding room_test
  room_in three h = le→leb (get_or ws 2 0) (length (drop 3 ws)) (omega (arith, length-drop 3 ws))

  no_room_in : length ws - 3 < get_or ws 2 0 → T room_test → ⊥
  unfolding room_test
  no_room_in h t = let z : ⊥ = omega (arith, leb→le (get_or ws 2 0) (length (drop 3 ws)) t, length-drop 3 ws) in z

  -- the section's end, from the line's first three words on
  end_place : 3 ≤ length ws → 3 + length (drop 3 ws) ≡ length ws
  end_place three = omega (arith, length-drop 3 ws)

pub relation_short : (v : ℕ) (ws : List ℕ) → length ws < 3 → relation_line v ws ≡ refused 3 (length ws)
unfolding relation_line
relation_short v [] h = refl
relation_short v (p ∷ []) h = refl
relation_short v (p ∷ q ∷ []) h = refl
relation_short v (p ∷ q ∷ n ∷ ws) h = let z : ⊥ = omega arith in absurd z

relation_words_lem : (v : ℕ) (ws : List ℕ) → 3 ≤ length ws
    → relation_line v ws ≡ need 3 2 (length_test v ws) (need 3 (3 + length (drop 3 ws)) (room_test v ws) (on_boards v ws))
unfolding relation_line length_test room_test on_boards
relation_words_lem v [] h = let z : ⊥ = omega arith in absurd z
relation_words_lem v (p ∷ []) h = let z : ⊥ = omega arith in absurd z
relation_words_lem v (p ∷ q ∷ []) h = let z : ⊥ = omega arith in absurd z
relation_words_lem v (p ∷ q ∷ n ∷ ws) h = refl

module _ (v : ℕ) (ws : List ℕ) where
  -- 3, at the length or at the section's end
  pub relation_no_length : 3 ≤ length ws → (1 ≤ get_or ws 2 0 → get_or ws 2 0 ≤ most_expression_words → ⊥) → relation_line v ws ≡ refused 3 2
  unfolding length_test
  relation_no_length three f =
      relation_words_lem v ws three ∙ need_failed 3 2 (length_test v ws) _ (λ t. let (a, b) = length_out (get_or ws 2 0) t in f a b)

  module _ (three : 3 ≤ length ws) (low : 1 ≤ get_or ws 2 0) (high : get_or ws 2 0 ≤ most_expression_words) where
    lengthy : relation_line v ws ≡ need 3 (3 + length (drop 3 ws)) (room_test v ws) (on_boards v ws)
    unfolding length_test
    lengthy = relation_words_lem v ws three ∙ need_passed 3 2 (length_test v ws) _ (length_in (get_or ws 2 0) low high)

    pub relation_past : length ws - 3 < get_or ws 2 0 → relation_line v ws ≡ refused 3 (length ws)
    relation_past h =
        lengthy ∙ need_failed 3 (3 + length (drop 3 ws)) (room_test v ws) _ (no_room_in v ws h) ∙ ap (refused 3) (end_place v ws three)

  module _ (l : LengthFits ws) where
    fitting : relation_line v ws ≡ on_boards v ws
    fitting = lengthy l.three l.low l.high ∙ need_passed 3 (3 + length (drop 3 ws)) (room_test v ws) _ (room_in v ws l.three l.room)

    -- 4, at p or at q
    pub relation_no_p : v ≤ get_or ws 0 0 → relation_line v ws ≡ refused 4 0
    unfolding on_boards
    relation_no_p h = fitting ∙ need_failed 4 0 (ltb (get_or ws 0 0) v) _ (λ t. let a = ltb→lt (get_or ws 0 0) v t in omega arith)

    pub relation_no_q : get_or ws 0 0 < v → v ≤ get_or ws 1 0 → relation_line v ws ≡ refused 4 1
    unfolding on_boards
    relation_no_q p h =
        fitting ∙ need_passed 4 0 (ltb (get_or ws 0 0) v) _ (lt→ltb (get_or ws 0 0) v p)
        ∙ need_failed 4 1 (ltb (get_or ws 1 0) v) _ (λ t. let a = ltb→lt (get_or ws 1 0) v t in omega arith)

  pub relation_read : OnBoards v ws → relation_line v ws ≡ read_relation v ws
  unfolding on_boards
  relation_read o =
      fitting o.fits ∙ need_passed 4 0 (ltb (get_or ws 0 0) v) _ (lt→ltb (get_or ws 0 0) v o.p_board)
      ∙ need_passed 4 1 (ltb (get_or ws 1 0) v) _ (lt→ltb (get_or ws 1 0) v o.q_board)

  -- a line that is read passed the tests, and is what its words come to
  pub record RelationRead (f : Front RelationLine) : Type 0 where
    pub passed : OnBoards v ws
    pub allowed : ℕ
    pub means : means v ws ≡ good allowed
    pub front : relation_front v ws allowed ≡ f

pub relation_out : (v : ℕ) (ws : List ℕ) (f : Front RelationLine) → relation_line v ws ≡ good f → RelationRead v ws f
unfolding relation_line
relation_out v [] f e = never 3 0 f e
relation_out v (p ∷ []) f e = never 3 1 f e
relation_out v (p ∷ q ∷ []) f e = never 3 2 f e
relation_out v (p ∷ q ∷ n ∷ ws) f e =
    let (fits, e1) = need_out 3 2 (leb 1 n && leb n most_expression_words) _ f e in
    let (room, e2) = need_out 3 (3 + length ws) (leb n (length ws)) _ f e1 in
    let (first, e3) = need_out 4 0 (ltb p v) _ f e2 in
    let (second, e4) = need_out 4 1 (ltb q v) _ f e3 in
    let (x, m, g) = next_out (later 3 (meaning n (expression (take n ws)))) _ f e4 in
    let same : good (relation_front v (p ∷ q ∷ n ∷ ws) x) ≡ good f = g in
    let (low, high) = length_out n fits in
    record {
      passed = record {
        fits = record { three = omega arith; low = low; high = high; room = omega (arith, leb→le n (length ws) room) };
        p_board = ltb→lt p v first;
        q_board = ltb→lt q v second;
      };
      allowed = x;
      means = later_out 3 (meaning n (expression (take n ws))) x m;
      front = cc;
    }

pub relation_suffix : (v : ℕ) (ws : List ℕ) (f : Front RelationLine) → relation_line v ws ≡ good f → Suffix ws f.rest
relation_suffix v ws f e =
    let r = relation_out v ws f e in
    subst (λ (g : Front RelationLine). Suffix ws g.rest) r.front
    (line_suffix (get_or ws 2 0) ws r.passed.fits.three r.passed.fits.room)

-- ---- kind lines

-- the tests of 3 are passed, and those of 4
pub record WaysFit (ws : List ℕ) : Type 0 where
  pub three : 3 ≤ length ws
  pub high : get_or ws 2 0 ≤ most_ways
  pub room : get_or ws 2 0 ≤ length ws - 3

pub record OnPanel (v : ℕ) (ws : List ℕ) : Type 0 where
  pub fits : WaysFit ws
  pub p_board : get_or ws 0 0 < v
  pub way_boards : T (boards_only v (take (get_or ws 2 0) (drop 3 ws)))

module _ (v : ℕ) (ws : List ℕ) where
  -- what the words then come to
  abbrev pub kind_front : Front KindLine
  kind_front =
      record { line = record { p = get_or ws 0 0; code = get_or ws 1 0; ways = take (get_or ws 2 0) (drop 3 ws) }; rest = drop (get_or ws 2 0) (drop 3 ws) }

  -- the tests of 4, for the panel and for its ways in order
  on_panel : Reading (Front KindLine)
  on_panel =
      let ways = take (get_or ws 2 0) (drop 3 ws) in
      need 4 0 (ltb (get_or ws 0 0) v) (need 4 (3 + boards_before v ways) (boards_only v ways) (good kind_front))

pub kind_short : (v : ℕ) (ws : List ℕ) → length ws < 3 → kind_line v ws ≡ refused 3 (length ws)
unfolding kind_line
kind_short v [] h = refl
kind_short v (p ∷ []) h = refl
kind_short v (p ∷ q ∷ []) h = refl
kind_short v (p ∷ q ∷ n ∷ ws) h = let z : ⊥ = omega arith in absurd z

kind_words_lem : (v : ℕ) (ws : List ℕ) → 3 ≤ length ws
    → kind_line v ws ≡ need 3 2 (leb (get_or ws 2 0) most_ways) (need 3 (3 + length (drop 3 ws)) (room_test v ws) (on_panel v ws))
unfolding kind_line room_test on_panel
kind_words_lem v [] h = let z : ⊥ = omega arith in absurd z
kind_words_lem v (p ∷ []) h = let z : ⊥ = omega arith in absurd z
kind_words_lem v (p ∷ q ∷ []) h = let z : ⊥ = omega arith in absurd z
kind_words_lem v (p ∷ q ∷ n ∷ ws) h = refl

module _ (v : ℕ) (ws : List ℕ) where
  -- 3, at the number of ways or at the section's end
  pub kind_no_number : 3 ≤ length ws → most_ways < get_or ws 2 0 → kind_line v ws ≡ refused 3 2
  kind_no_number three h =
      kind_words_lem v ws three
      ∙ need_failed 3 2 (leb (get_or ws 2 0) most_ways) _ (λ t. let z : ⊥ = omega (arith, h, leb→le (get_or ws 2 0) most_ways t) in z)

  module _ (three : 3 ≤ length ws) (high : get_or ws 2 0 ≤ most_ways) where
    numbered : kind_line v ws ≡ need 3 (3 + length (drop 3 ws)) (room_test v ws) (on_panel v ws)
    numbered = kind_words_lem v ws three ∙ need_passed 3 2 (leb (get_or ws 2 0) most_ways) _ (le→leb (get_or ws 2 0) most_ways high)

    pub kind_past : length ws - 3 < get_or ws 2 0 → kind_line v ws ≡ refused 3 (length ws)
    kind_past h =
        numbered ∙ need_failed 3 (3 + length (drop 3 ws)) (room_test v ws) _ (no_room_in v ws h) ∙ ap (refused 3) (end_place v ws three)

  module _ (w : WaysFit ws) where
    -- there are as many ways as the line says
    pub ways_length : length (take (get_or ws 2 0) (drop 3 ws)) ≡ get_or ws 2 0
    ways_length = length-take-le (get_or ws 2 0) (drop 3 ws) (omega (arith, length-drop 3 ws, w.room))

    kind_fitting : kind_line v ws ≡ on_panel v ws
    kind_fitting = numbered w.three w.high ∙ need_passed 3 (3 + length (drop 3 ws)) (room_test v ws) _ (room_in v ws w.three w.room)

    -- 4, at the panel or at a way
    pub kind_no_panel : v ≤ get_or ws 0 0 → kind_line v ws ≡ refused 4 0
    unfolding on_panel
    kind_no_panel h = kind_fitting ∙ need_failed 4 0 (ltb (get_or ws 0 0) v) _ (λ t. let a = ltb→lt (get_or ws 0 0) v t in omega arith)

    pub kind_no_way : get_or ws 0 0 < v → boards_before v (take (get_or ws 2 0) (drop 3 ws)) < get_or ws 2 0
        → kind_line v ws ≡ refused 4 (3 + boards_before v (take (get_or ws 2 0) (drop 3 ws)))
    unfolding on_panel
    kind_no_way p h =
        let ways = take (get_or ws 2 0) (drop 3 ws) in
        kind_fitting ∙ need_passed 4 0 (ltb (get_or ws 0 0) v) _ (lt→ltb (get_or ws 0 0) v p)
        ∙ need_failed 4 (3 + boards_before v ways) (boards_only v ways) _ (λ t.
        let z : ⊥ = omega (arith, h, leb→le (length ways) (boards_before v ways) t, ways_length) in z)

  pub kind_read : OnPanel v ws → kind_line v ws ≡ good (kind_front v ws)
  unfolding on_panel
  kind_read o =
      let ways = take (get_or ws 2 0) (drop 3 ws) in
      kind_fitting o.fits ∙ need_passed 4 0 (ltb (get_or ws 0 0) v) _ (lt→ltb (get_or ws 0 0) v o.p_board)
      ∙ need_passed 4 (3 + boards_before v ways) (boards_only v ways) _ o.way_boards

  -- a line that is read passed the tests, and is what its words come to
  pub record KindRead (f : Front KindLine) : Type 0 where
    pub passed : OnPanel v ws
    pub front : kind_front v ws ≡ f

pub kind_out : (v : ℕ) (ws : List ℕ) (f : Front KindLine) → kind_line v ws ≡ good f → KindRead v ws f
unfolding kind_line
kind_out v [] f e = never 3 0 f e
kind_out v (p ∷ []) f e = never 3 1 f e
kind_out v (p ∷ q ∷ []) f e = never 3 2 f e
kind_out v (p ∷ q ∷ n ∷ ws) f e =
    let (high, e1) = need_out 3 2 (leb n most_ways) _ f e in
    let (room, e2) = need_out 3 (3 + length ws) (leb n (length ws)) _ f e1 in
    let (panel, e3) = need_out 4 0 (ltb p v) _ f e2 in
    let (ways, e4) = need_out 4 (3 + boards_before v (take n ws)) (boards_only v (take n ws)) _ f e3 in
    let same : good (kind_front v (p ∷ q ∷ n ∷ ws)) ≡ good f = e4 in
    record {
      passed = record {
        fits = record { three = omega arith; high = leb→le n most_ways high; room = omega (arith, leb→le n (length ws) room) };
        p_board = ltb→lt p v panel;
        way_boards = ways;
      };
      front = cc;
    }

pub kind_suffix : (v : ℕ) (ws : List ℕ) (f : Front KindLine) → kind_line v ws ≡ good f → Suffix ws f.rest
kind_suffix v ws f e =
    let r = kind_out v ws f e in
    subst (λ (g : Front KindLine). Suffix ws g.rest) r.front
    (line_suffix (get_or ws 2 0) ws r.passed.fits.three r.passed.fits.room)
