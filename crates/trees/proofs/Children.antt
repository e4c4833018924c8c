-- The child number of a board of an arrangement: its position among the ways of its panel, or else the least board that is the same.
-- Assumes nothing.
use mathlib.Core.Path.{◌≡◌, refl, sym, ◌∙◌, subst}
use mathlib.Core.Bool.{Bool}
use mathlib.Core.Logic.{◌⊎◌, inl, inr, ⊎_elim}
use mathlib.Core.List.{List, Memᴰ}
use Prim.Native.Nat.{ℕ, ◌<◌}
use native.Mathlib.Omega.{arith}
use lib.Dec.{T, eqb, eqb→eq, T_not}
use Rattle.rules.specs.Relations.{some_of, some_below, E, A}
use Rattle.rules.specs.Descriptions.{KindLine, Sheet, WellFormed}
use Rattle.rules.specs.Tables.{at}
use Rattle.rules.specs.Arrangements.{way, width, Arrangement}
use Rattle.rules.proofs.Tests.{T-decide, some_in, some_out}
use Rattle.rules.proofs.Members.{some_of_in, some_of_out}
use Rattle.rules.proofs.Arrangements.{panel, fed}
use Rattle.boards.proofs.Order.{Over, over_decide, over_refl, over_trans, over_chain, over_both, above_over, same_turned, same_trans}
use Rattle.boards.proofs.Groups.{chief, same_chief, chief_equal}
use Rattle.boards.proofs.Panels.{above_way}
use Rattle.boards.proofs.Feeding.{one_feeder, fed_directly}
use Rattle.trees.proofs.Paths.{Forest, Same, Strictly, Top, Parent, Numbered, parents_same, parent_same}

-- ---- the order of the boards

module _ {s : Sheet} {t : List ℕ} (a : Arrangement s t) where
  -- by what is at or above what the boards are a forest
  pub boards_forest : Forest s.boards (Over s t)
  boards_forest = record { decide = over_decide a; itself = over_refl a; along = over_trans a; chain = over_chain a }

  module _ {p q : ℕ} (hp : p < s.boards) (hq : q < s.boards) where
    -- the same boards in the order have E in their cell
    pub over_same : Same (Over s t) p q → at s t p q ≡ E
    over_same d = over_both a p q hp hq d.0 d.1

    -- boards with E in their cell are the same in the order
    pub same_over : at s t p q ≡ E → Same (Over s t) p q
    same_over e = (inl e, inl (same_turned a p q hp hq e))

    -- a board above another in the order has A in their cell
    strictly_above_lem : Strictly (Over s t) p q → at s t p q ≡ A
    strictly_above_lem (inl e, n) = absurd (n (inl (same_turned a p q hp hq e)))
    strictly_above_lem (inr e, n) = e

    -- a board with A in its cell to another is above it in the order
    pub above_strictly : at s t p q ≡ A → Strictly (Over s t) p q
    above_strictly e = (inr e, λ g. let z : A ≡ E = sym e ∙ over_both a p q hp hq (inr e) g in omega arith)

  -- the least board that is the same may be each board's number
  pub chiefs_numbered : Numbered s.boards (Over s t) (chief s t)
  chiefs_numbered = record {
    alike = λ p q hp hq d. same_chief a p q hp hq (over_same hp hq d);
    tops = λ p q hp hq c d e. same_over hp hq (chief_equal a p q hp hq e);
    siblings = λ c d p q hp hq f g h e. same_over hp hq (chief_equal a p q hp hq e);
  }

-- ---- the numbers

-- b is the same as a way of some kind line
pub record Fed (s : Sheet) (t : List ℕ) (b : ℕ) : Type 0 where
  pub line : KindLine
  pub listed : Memᴰ line s.kinds
  pub position : ℕ
  pub among : position < width line
  pub same : at s t (way line position) b ≡ E

module _ (s : Sheet) (t : List ℕ) (b : ℕ) where
  is_way : KindLine → ℕ → Bool
  is_way k i = eqb (at s t (way k i) b) E

  has_way : KindLine → Bool
  has_way k = some_below (width k) (is_way k)

  fed_decide : Fed s t b ⊎ (Fed s t b → ⊥)
  unfolding is_way has_way
  fed_decide =
      ⊎_elim (λ d. inl (from (some_of_out has_way s.kinds d))) (λ d. inr (λ r. T_not (some_of has_way s.kinds) d (into r)))
      (T-decide (some_of has_way s.kinds))
    where
      from : (k : KindLine) × Memᴰ k s.kinds × T (has_way k) → Fed s t b
      from (k, m, d) =
          let n = some_out (width k) (is_way k) d in
          record { line = k; listed = m; position = n.0; among = n.1; same = eqb→eq (at s t (way k n.0) b) E n.2 }

      into : Fed s t b → T (some_of has_way s.kinds)
      into r =
          some_of_in has_way s.kinds r.line r.listed
          (some_in (width r.line) (is_way r.line) r.position r.among (subst (λ (x : ℕ). T (eqb x E)) (sym r.same) tt))

  number_if : Fed s t b ⊎ (Fed s t b → ⊥) → ℕ
  number_if (inl r) = r.position
  number_if (inr n) = chief s t b

  -- the position of b among the ways of its panel, or else the least board that is the same as b
  pub number : ℕ
  number = number_if fed_decide

module _ {s : Sheet} (f : WellFormed s) {t : List ℕ} (a : Arrangement s t) where
  fed_way : {b : ℕ} (r : Fed s t b) → way r.line r.position < s.boards
  fed_way r = fed f r.line r.listed r.position r.among

  -- a way has its position for its number
  pub number_fed : {b : ℕ} → b < s.boards → (r : Fed s t b) → number s t b ≡ r.position
  unfolding number number_if
  number_fed {b} h r = go (fed_decide s t b)
    where
      go : (d : Fed s t b ⊎ (Fed s t b → ⊥)) → number_if s t b d ≡ r.position
      go (inl g) =
          (one_feeder f a g.line g.listed g.position g.among r.line r.listed r.position r.among
          (same_trans a (way g.line g.position) b (way r.line r.position) (fed_way g) h (fed_way r) g.same
          (same_turned a (way r.line r.position) b (fed_way r) h r.same))).1
      go (inr n) = absurd (n r)

  number_unfed : {b : ℕ} → (Fed s t b → ⊥) → number s t b ≡ chief s t b
  unfolding number number_if
  number_unfed {b} n = go (fed_decide s t b)
    where
      go : (d : Fed s t b ⊎ (Fed s t b → ⊥)) → number_if s t b d ≡ chief s t b
      go (inl g) = absurd (n g)
      go (inr m) = refl

  fed_same : {b c : ℕ} → b < s.boards → c < s.boards → at s t b c ≡ E → Fed s t b → Fed s t c
  fed_same {b} {c} h k e r = record {
    line = r.line;
    listed = r.listed;
    position = r.position;
    among = r.among;
    same = same_trans a (way r.line r.position) b c (fed_way r) h k r.same e;
  }

  -- the panel of a way is the lowest board above it
  pub way_parent : {b : ℕ} → b < s.boards → (r : Fed s t b) → Parent s.boards (Over s t) r.line.p b
  way_parent {b} h r = record {
    board = p;
    over = above_strictly a p h
        (above_over a r.line.p w b p (fed_way r) h (a.rule5 r.line r.listed r.position r.among) (inl r.same));
    lowest = λ c k d. above_way f a r.line r.listed r.position r.among c k
        (above_over a c b w k h (fed_way r) (strictly_above_lem a k h d) (inl (same_turned a w b (fed_way r) h r.same)));
  }
    where
      p : r.line.p < s.boards
      p = panel f r.line r.listed

      w : ℕ
      w = way r.line r.position

  -- a board whose lowest board above it is a panel is one of the panel's ways, and its number is the position
  pub parent_feeds : (k : KindLine) → Memᴰ k s.kinds → {b : ℕ} → b < s.boards → Parent s.boards (Over s t) k.p b
      → (number s t b < width k) × (at s t (way k (number s t b)) b ≡ E)
  parent_feeds k m {b} h c =
      from (fed_directly f a k m b h (strictly_above_lem a (panel f k m) h c.over) (λ d l e. c.lowest d l (above_strictly a l h e)))
    where
      from : (i : ℕ) × (i < width k) × (at s t (way k i) b ≡ E) → (number s t b < width k) × (at s t (way k (number s t b)) b ≡ E)
      from (i, l, e) =
          rw (number_fed h (record { line = k; listed = m; position = i; among = l; same = e })) (l, e)

  -- ---- the numbers tell the boards apart

  alike : (p q : ℕ) → p < s.boards → q < s.boards → at s t p q ≡ E → number s t p ≡ number s t q
  unfolding fed_same
  alike p q hp hq e = ⊎_elim fed_alike unfed_alike (fed_decide s t p)
    where
      fed_alike : Fed s t p → number s t p ≡ number s t q
      fed_alike r = number_fed hp r ∙ sym (number_fed hq (fed_same hp hq e r))

      unfed_alike : (Fed s t p → ⊥) → number s t p ≡ number s t q
      unfed_alike n =
          number_unfed n ∙ same_chief a p q hp hq e ∙ sym (number_unfed (λ r. n (fed_same hq hp (same_turned a p q hp hq e) r)))

  -- no way is at the top
  top_unfed : {b : ℕ} → b < s.boards → Top s.boards (Over s t) b → Fed s t b → ⊥
  top_unfed h d r = let c = way_parent h r in d r.line.p c.board c.over

  module _ {p q b c : ℕ} (h : b < s.boards) (k : c < s.boards) (g : Parent s.boards (Over s t) p b) (d : Parent s.boards (Over s t) q c)
      (e : Same (Over s t) p q)
    where
      -- the panel of a way is the lowest board above its siblings too
      sibling_parent : (r : Fed s t b) → Parent s.boards (Over s t) r.line.p c
      sibling_parent r =
          let o = boards_forest a in
          let w = way_parent h r in
          let i = over_refl a b h in
          parent_same o k w.board (parent_same o k g.board d (e.1, e.0)) (parents_same o h h (i, i) g w)

      sibling_same : Fed s t b → number s t b ≡ number s t c → at s t b c ≡ E
      sibling_same r i =
          let x = way r.line r.position in
          let n = parent_feeds r.line r.listed k (sibling_parent r) in
          same_trans a b x c h (fed_way r) k (same_turned a x b (fed_way r) h r.same) (rw (sym (number_fed h r), i) n.1)

      sibling_fed : Fed s t b → Fed s t c
      sibling_fed r =
          let n = parent_feeds r.line r.listed k (sibling_parent r) in
          record { line = r.line; listed = r.listed; position = number s t c; among = n.0; same = n.1 }

  siblings : (p q b c : ℕ) → b < s.boards → c < s.boards → Parent s.boards (Over s t) p b → Parent s.boards (Over s t) q c
      → Same (Over s t) p q → number s t b ≡ number s t c → at s t b c ≡ E
  siblings p q b c h k g d e i = ⊎_elim (λ r. sibling_same h k g d e r i) unfed (fed_decide s t b)
    where
      unfed : (Fed s t b → ⊥) → at s t b c ≡ E
      unfed n = chief_equal a b c h k (sym (number_unfed n) ∙ i ∙ number_unfed (λ r. n (sibling_fed k h d g (e.1, e.0) r)))

  -- the numbers tell apart the boards at the top, and those that have the same lowest board above them
  pub numbers_numbered : Numbered s.boards (Over s t) (number s t)
  numbers_numbered = record {
    alike = λ p q hp hq d. alike p q hp hq (over_same a hp hq d);
    tops = λ p q hp hq c d e. same_over a hp hq (chief_equal a p q hp hq (sym (number_unfed (top_unfed hp c)) ∙ e ∙ number_unfed (top_unfed hq d)));
    siblings = λ p q b c h k g d e i. same_over a h k (siblings p q b c h k g d e i);
  }
