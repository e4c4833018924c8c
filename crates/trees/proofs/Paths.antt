-- A finite order whose boards have a chain of boards above each has paths: each board's path is that of the lowest board above it and a number.
-- Assumes nothing.
use mathlib.Core.Path.{◌≡◌, sym, ap, ap₂, subst}
use mathlib.Core.Bool.{Bool, true, false, not}
use mathlib.Core.Logic.{◌⊎◌, inl, inr, ⊎_elim}
use mathlib.Core.List.{[], head-eq_of_cons-eq}
use Prim.Native.Nat.{ℕ, zero, suc, ◌≤◌, ◌<◌}
use native.Mathlib.Nat.{not-suc-le-zero}
use native.Mathlib.Omega.{arith}
use lib.Dec.{T, ltb, ltb→lt, lt→ltb, nltb→le, T_not}
use Rattle.rules.specs.Relations.{count_below}
use Rattle.rules.proofs.Tests.{T-decide, below_suc, count_tight}
use Rattle.trees.specs.Trees.{Place, child, AtOrAbove}
use Rattle.trees.proofs.Places.{at_equal, at_child, above_root, child_not_root, above_child, child_equal}

-- ---- the order

-- what is at or above what among v boards: it can be told, and of two boards at or above a third one is at or above the other
pub record Forest (v : ℕ) (Over : ℕ → ℕ → Type 0) : Type 0 where
  pub decide : (a b : ℕ) → a < v → b < v → Over a b ⊎ (Over a b → ⊥)
  pub itself : (a : ℕ) → a < v → Over a a
  pub along : (a b c : ℕ) → a < v → b < v → c < v → Over a b → Over b c → Over a c
  pub chain : (a b c : ℕ) → a < v → b < v → c < v → Over a c → Over b c → Over a b ⊎ Over b a

module _ (Over : ℕ → ℕ → Type 0) where
  -- a and b are the same board
  abbrev pub Same : ℕ → ℕ → Type 0
  Same a b = Over a b × Over b a

  -- a is above b
  abbrev pub Strictly : ℕ → ℕ → Type 0
  Strictly a b = Over a b × (Over b a → ⊥)

module _ (v : ℕ) (Over : ℕ → ℕ → Type 0) where
  -- no board is above b
  abbrev pub Top : ℕ → Type 0
  Top b = (c : ℕ) → c < v → Strictly Over c b → ⊥

  -- a is the lowest board above b
  pub record Parent (a b : ℕ) : Type 0 where
    pub board : a < v
    pub over : Strictly Over a b
    pub lowest : (c : ℕ) → c < v → Strictly Over c b → Over c a

  module _ (number : ℕ → ℕ) where
    -- the path of a board: its number, below the path of the lowest board above it
    pub data PathOf : ℕ → Place → Type 0 where
      start : {b : ℕ} → b < v → Top b → PathOf b (child [] (number b))
      under : {a b : ℕ} {x : Place} → b < v → Parent a b → PathOf a x → PathOf b (child x (number b))

    -- numbers tell apart the boards at the top, and those that have the same lowest board above them
    pub record Numbered : Type 0 where
      pub alike : (a b : ℕ) → a < v → b < v → Same Over a b → number a ≡ number b
      pub tops : (a b : ℕ) → a < v → b < v → Top a → Top b → number a ≡ number b → Same Over a b
      pub siblings : (p q a b : ℕ) → a < v → b < v → Parent p a → Parent q b → Same Over p q → number a ≡ number b → Same Over a b

-- ---- the lowest board above a board

-- what holds of the first n numbers and of n holds of the first n + 1
each_next : (P : ℕ → Type 0) {n : ℕ} → ((c : ℕ) → c < n → P c) → P n → (c : ℕ) → c < suc n → P c
each_next P {n} f g c k = ⊎_elim (λ (e : c ≡ n). subst P (sym e) g) (f c) (below_suc k)

module _ {v : ℕ} {Over : ℕ → ℕ → Type 0} (o : Forest v Over) where
  strictly_decide : (a b : ℕ) → a < v → b < v → Strictly Over a b ⊎ (Strictly Over a b → ⊥)
  strictly_decide a b h k = go (o.decide a b h k) (o.decide b a k h)
    where
      go : Over a b ⊎ (Over a b → ⊥) → Over b a ⊎ (Over b a → ⊥) → Strictly Over a b ⊎ (Strictly Over a b → ⊥)
      go (inl h) (inl g) = inr (λ s. s.1 g)
      go (inl h) (inr g) = inl (h, g)
      go (inr h) d = inr (λ s. h s.0)

  -- what is above a board is above all that the board is at or above
  strictly_down : {a b c : ℕ} → a < v → b < v → c < v → Over a b → Strictly Over c a → Strictly Over c b
  strictly_down {a} {b} {c} h k l g d = (o.along c a b l h k d.0 g, λ e. d.1 (o.along a b c h k l g e))

  -- none of the first n is above b
  abbrev None : ℕ → ℕ → Type 0
  None n b = (c : ℕ) → c < n → Strictly Over c b → ⊥

  -- some board is above b, and the lowest of those among the first n
  abbrev Lowest : ℕ → ℕ → Type 0
  Lowest n b = (a : ℕ) × (a < v) × Strictly Over a b × ((c : ℕ) → c < n → Strictly Over c b → Over c a)

  module _ (b : ℕ) (h : b < v) where
    lowest_next : (n : ℕ) → n < v → Strictly Over n b ⊎ (Strictly Over n b → ⊥) → None n b ⊎ Lowest n b → None (suc n) b ⊎ Lowest (suc n) b
    lowest_next n l (inr d) (inl f) = inl (each_next (λ c. Strictly Over c b → ⊥) f d)
    lowest_next n l (inr d) (inr (a, k, e, f)) = inr (a, k, e, each_next (λ c. Strictly Over c b → Over c a) f (λ g. absurd (d g)))
    lowest_next n l (inl d) (inl f) =
        inr (n, l, d, each_next (λ c. Strictly Over c b → Over c n) (λ c k g. absurd (f c k g)) (λ g. o.itself n l))
    lowest_next n l (inl d) (inr (a, k, e, f)) = ⊎_elim this that (o.chain a n b k l h e.0 d.0)
      where
        this : Over a n → None (suc n) b ⊎ Lowest (suc n) b
        this g =
            inr (n, l, d, each_next (λ c. Strictly Over c b → Over c n) (λ c i w. o.along c a n (omega arith) k l (f c i w) g) (λ w. o.itself n l))

        that : Over n a → None (suc n) b ⊎ Lowest (suc n) b
        that g = inr (a, k, e, each_next (λ c. Strictly Over c b → Over c a) f (λ w. g))

    lowest_among : (n : ℕ) → n ≤ v → None n b ⊎ Lowest n b
    lowest_among zero l = inl (λ c k s. not-suc-le-zero k)
    lowest_among (suc n) l = lowest_next n l (strictly_decide n b l h) (lowest_among n (omega arith))

    -- a board is at the top, or some board is the lowest above it
    parent_decide : Top v Over b ⊎ ((a : ℕ) × Parent v Over a b)
    parent_decide = ⊎_elim inl (λ r. inr (r.0, record { board = r.1; over = r.2; lowest = r.3 })) (lowest_among v (omega arith))

-- ---- each board has a path

passes : {X : Type 0} → X ⊎ (X → ⊥) → Bool
passes (inl x) = true
passes (inr f) = false

passes_in : {X : Type 0} (d : X ⊎ (X → ⊥)) → X → T (passes d)
unfolding passes
passes_in (inl x) y = tt
passes_in (inr f) y = f y

passes_out : {X : Type 0} (d : X ⊎ (X → ⊥)) → T (passes d) → X
unfolding passes
passes_out (inl x) t = x
passes_out (inr f) t = absurd t

module _ {v : ℕ} {Over : ℕ → ℕ → Type 0} (o : Forest v Over) (number : ℕ → ℕ) where
  above_decide : {b : ℕ} → b < v → (c : ℕ) → ((c < v) × Strictly Over c b) ⊎ ((c < v) × Strictly Over c b → ⊥)
  above_decide {b} h c = go (T-decide (ltb c v))
    where
      go : T (ltb c v) ⊎ T (not (ltb c v)) → ((c < v) × Strictly Over c b) ⊎ ((c < v) × Strictly Over c b → ⊥)
      go (inl t) =
          let l = ltb→lt c v t in ⊎_elim (λ s. inl (l, s)) (λ n. inr (λ s. n s.1)) (strictly_decide o c b l h)
      go (inr t) = inr (λ s. T_not (ltb c v) t (lt→ltb c v s.0))

  is_above : {b : ℕ} → b < v → ℕ → Bool
  is_above h c = passes (above_decide h c)

  -- how many boards are above b
  steps : {b : ℕ} → b < v → ℕ
  steps h = count_below v (is_above h)

  fewer : {a b : ℕ} (h : b < v) (p : Parent v Over a b) → steps p.board < steps h
  unfolding steps is_above
  fewer {a} {b} h p =
      ⊎_elim (λ t. ltb→lt (steps k) (steps h) t) (λ t. absurd (not_more (nltb→le (steps k) (steps h) t))) (T-decide (ltb (steps k) (steps h)))
    where
      k : a < v
      k = p.board

      higher : (c : ℕ) → c < v → T (is_above k c) → T (is_above h c)
      higher c l t = passes_in (above_decide h c) (l, strictly_down o k h l p.over.0 (passes_out (above_decide k c) t).1)

      not_more : steps h ≤ steps k → ⊥
      not_more l =
          let s = passes_out (above_decide k a) (count_tight v (is_above k) (is_above h) higher l a k (passes_in (above_decide h a) (k, p.over))) in
          s.1.1 s.1.0

  path_within : (n b : ℕ) (h : b < v) → steps h < n → (x : Place) × PathOf v Over number b x
  path_within zero b h l = absurd (not-suc-le-zero l)
  path_within (suc n) b h l =
      ⊎_elim (λ (d : Top v Over b). (child [] (number b), start h d))
      (λ (r : (a : ℕ) × Parent v Over a b).
      let p = path_within n r.0 r.1.board (omega (arith, fewer h r.1)) in
      (child p.0 (number b), under h r.1 p.1))
      (parent_decide o b h)

  path_of : (b : ℕ) → b < v → (x : Place) × PathOf v Over number b x
  path_of b h = path_within (suc (steps h)) b h (omega arith)

  place_if : (b : ℕ) → T (ltb b v) ⊎ T (not (ltb b v)) → Place
  place_if b (inl t) = (path_of b (ltb→lt b v t)).0
  place_if b (inr t) = []

  -- the place of a board is its path; what is no board has the root
  pub place : ℕ → Place
  place b = place_if b (T-decide (ltb b v))

  -- the place of a board is its path
  pub place_path : {b : ℕ} → b < v → PathOf v Over number b (place b)
  unfolding place place_if
  place_path {b} h = go (T-decide (ltb b v))
    where
      go : (d : T (ltb b v) ⊎ T (not (ltb b v))) → PathOf v Over number b (place_if b d)
      go (inl t) = (path_of b (ltb→lt b v t)).1
      go (inr t) = absurd (T_not (ltb b v) t (lt→ltb b v h))

-- ---- paths follow the order

module _ {v : ℕ} {Over : ℕ → ℕ → Type 0} {number : ℕ → ℕ} where
  -- what has a path is a board
  pub path_board : {b : ℕ} {y : Place} → PathOf v Over number b y → b < v
  path_board (start h d) = h
  path_board (under h p w) = h

  -- a board's path is not the root
  pub path_not_root : {b : ℕ} {y : Place} → PathOf v Over number b y → y ≡ [] → ⊥
  path_not_root (start {b} h d) = child_not_root [] (number b)
  path_not_root (under {b} {x} h p w) = child_not_root x (number b)

  -- what is above a board's path, and not the root, is the path of a board
  pub path_above : {b : ℕ} {x y : Place} → PathOf v Over number b y → AtOrAbove x y → (x ≡ [] → ⊥) → (a : ℕ) × PathOf v Over number a x
  path_above {x} (start {b} h d) g n =
      ⊎_elim (λ (e : x ≡ child [] (number b)). (b, subst (λ (z : Place). PathOf v Over number b z) (sym e) (start h d)))
      (λ c. absurd (n (above_root c))) (above_child x [] (number b) g)
  path_above {x} (under {b} {x = z} h p w) g n =
      ⊎_elim (λ (e : x ≡ child z (number b)). (b, subst (λ (y : Place). PathOf v Over number b y) (sym e) (under h p w)))
      (λ c. path_above w c n) (above_child x z (number b) g)

  -- a board whose path is child c of x has the number c, and below x, which is no root, it has a lowest board above it, with the path x
  pub path_parent : {b c : ℕ} {x y : Place} → PathOf v Over number b y → y ≡ child x c → (x ≡ [] → ⊥)
      → (c ≡ number b) × ((p : ℕ) × Parent v Over p b × PathOf v Over number p x)
  path_parent {c} {x} (start {b} h d) e n = absurd (n (sym (child_equal [] x (number b) c e).0))
  path_parent {c} {x} (under {a} {b} {x = z} h p w) e n =
      let r = child_equal z x (number b) c e in (sym r.1, (a, p, subst (λ (y : Place). PathOf v Over number a y) r.0 w))

module _ {v : ℕ} {Over : ℕ → ℕ → Type 0} (o : Forest v Over) where
  -- the lowest boards above the same board are the same
  pub parents_same : {a b p q : ℕ} → a < v → b < v → Same Over a b → Parent v Over p a → Parent v Over q b → Same Over p q
  parents_same {p} {q} h k s c d =
      let i = c.board in
      let j = d.board in
      (d.lowest p i (strictly_down o h k i s.0 c.over), c.lowest q j (strictly_down o k h j s.1 d.over))

  -- what is the same as the lowest board above a board is the lowest above it
  pub parent_same : {b p q : ℕ} → b < v → q < v → Parent v Over p b → Same Over p q → Parent v Over q b
  parent_same {b} {p} {q} h k c s = record {
    board = k;
    over = (o.along q p b k c.board h s.1 c.over.0, λ g. c.over.1 (o.along b q p h k c.board g s.1));
    lowest = λ d l g. o.along d p q l c.board k (c.lowest d l g) s.0;
  }

  module _ {number : ℕ → ℕ} (m : Numbered v Over number) where
    -- the same boards have the same path
    pub same_path : {a b : ℕ} {x y : Place} → Same Over a b → PathOf v Over number a x → PathOf v Over number b y → x ≡ y
    same_path s (start {b = a} h d) (start {b} k e) = ap (child []) (m.alike a b h k s)
    same_path s (start h d) (under {a = q} k p w) = absurd (d q p.board (strictly_down o k h p.board s.1 p.over))
    same_path s (under {a = q} h p w) (start k e) = absurd (e q p.board (strictly_down o h k p.board s.0 p.over))
    same_path s (under {b = a} h p w) (under {b} k q u) = ap₂ child (same_path (parents_same h k s p q) w u) (m.alike a b h k s)

    -- boards with the same path are the same
    pub path_same : {a b : ℕ} {x y : Place} → PathOf v Over number a x → PathOf v Over number b y → x ≡ y → Same Over a b
    path_same (start {b = a} h d) (start {b} k e) g = m.tops a b h k d e (head-eq_of_cons-eq g)
    path_same (start {b = a} h d) (under {b} {x} k p w) g = absurd (path_not_root w (sym (child_equal [] x (number a) (number b) g).0))
    path_same (under {b = a} {x} h p w) (start {b} k e) g = absurd (path_not_root w (child_equal x [] (number a) (number b) g).0)
    path_same (under {a = p} {b = a} {x = x} h c w) (under {a = q} {b} {x = y} k d u) g =
        let r = child_equal x y (number a) (number b) g in m.siblings p q a b h k c d (path_same w u r.0) r.1

    -- the path of a board at or above another is at or above its path
    pub over_path : {a b : ℕ} {x y : Place} → Over a b → PathOf v Over number a x → PathOf v Over number b y → AtOrAbove x y
    over_path {a} g w (start {b} h d) =
        ⊎_elim (λ s. at_equal (same_path (g, s) w (start h d))) (λ s. absurd (d a (path_board w) (g, s))) (o.decide b a h (path_board w))
    over_path {a} g w (under {b} h p u) =
        ⊎_elim (λ s. at_equal (same_path (g, s) w (under h p u)))
        (λ s. at_child (number b) (over_path (p.lowest a (path_board w) (g, s)) w u)) (o.decide b a h (path_board w))

    -- a board whose path is at or above another's is at or above it
    pub path_over : {a b : ℕ} {x y : Place} → AtOrAbove x y → PathOf v Over number a x → PathOf v Over number b y → Over a b
    path_over {x} g w (start {b} h d) =
        ⊎_elim (λ e. (path_same w (start h d) e).0) (λ c. absurd (path_not_root w (above_root c))) (above_child x [] (number b) g)
    path_over {a} {x} g w (under {a = q} {b} {x = z} h p u) =
        ⊎_elim (λ e. (path_same w (under h p u) e).0)
        (λ c. o.along a q b (path_board w) p.board h (path_over c w u) p.over.0) (above_child x z (number b) g)
