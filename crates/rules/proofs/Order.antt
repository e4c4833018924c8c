-- The order of arrangements is a total order, over any order of relations: an arrangement is known by its cells (p, q) with p < q.
-- Assumes nothing.
use mathlib.Core.Path.{◌≡◌, refl, sym, ap, ◌∙◌, subst}
use mathlib.Core.Bool.{not}
use mathlib.Core.Logic.{◌⊎◌, inl, inr, ⊎_elim}
use mathlib.Core.List.Memᴰ
use mathlib.Core.List.{List, [], ◌∷◌, Memᴰ}
use Prim.Native.Nat.{ℕ, ◌+◌, ◌*◌, ◌<◌}
use native.Mathlib.Omega.{arith}
use lib.Dec.{T, T_not}
use lib.ListN.{get_or}
use lib.Seq.{ext_get_or}
use Rattle.rules.specs.Relations.{has, converse}
use Rattle.rules.specs.Descriptions.{Sheet}
use Rattle.rules.specs.Tables.{at}
use Rattle.rules.specs.Arrangements.{Arrangement}
use Rattle.rules.specs.Search.{Order, places, rank, Before}
use Rattle.rules.proofs.Tests.{order_cases, T-decide}
use Rattle.rules.proofs.Digits.{has_single}
use Rattle.rules.proofs.Members.{All}
use Rattle.rules.proofs.Inside.{each_place}
use Rattle.rules.proofs.Arrangements.{One, one_has}
use Rattle.rules.proofs.Choices.{Agree, places_in, all_places, rank_here, rank_later}

-- ---- an arrangement is known by its cells (p, q) with p < q

agree_at : (ks t u : List ℕ) → Agree ks t u → (k : ℕ) → Memᴰ k ks → get_or t k 0 ≡ get_or u k 0
agree_at [] t u a k m = absurd (Memᴰ.not-nil m)
agree_at (j ∷ ks) t u a k m =
    ⊎_elim (λ (e : k ≡ j). subst (λ (i : ℕ). get_or t i 0 ≡ get_or u i 0) (sym e) a.0) (λ n. agree_at ks t u a.1 k n) (Memᴰ.cases_cons m)

module _ {s : Sheet} {t u : List ℕ} (a : Arrangement s t) (b : Arrangement s u) (g : Agree (places s.boards) t u) where
  upper : (p q : ℕ) → p < q → q < s.boards → at s t p q ≡ at s u p q
  upper p q h l = agree_at (places s.boards) t u g (s.boards * p + q) (places_in s.boards p q h l)

  cells : (p q : ℕ) → p < s.boards → q < s.boards → at s t p q ≡ at s u p q
  cells p q hp hq =
      ⊎_elim (λ l. upper p q l hq)
      (λ d. ⊎_elim (λ l. a.rule2 q p hq hp ∙ ap converse (upper q p l hp) ∙ sym (b.rule2 q p hq hp))
      (λ e. subst (λ (x : ℕ). at s t p x ≡ at s u p x) e (a.rule1 p hp ∙ sym (b.rule1 p hp))) d) (order_cases p q)

  pub agree_equal : t ≡ u
  agree_equal = ext_get_or 0 t u (a.table.cells ∙ sym b.table.cells) (each_place (λ k. get_or t k 0 ≡ get_or u k 0) a.table cells)

-- ---- single relations are told apart by their places in an order

rank_same : (rs : List ℕ) {x y : ℕ} → One x → One y → (r : ℕ) → Memᴰ r rs → T (has x r) → rank rs x ≡ rank rs y → x ≡ y
rank_same [] o n r m h e = absurd (Memᴰ.not-nil m)
rank_same (i ∷ rs) {x} {y} o n r m h e = ⊎_elim here (λ g. there g (λ w q. rank_same rs o n r w h q)) (T-decide (has x i))
  where
    here : T (has x i) → x ≡ y
    here g =
        ⊎_elim (λ d. one_has o i g ∙ sym (one_has n i d))
        (λ d. let z : ⊥ = omega (arith, rank_here i rs x g, rank_later i rs y d) in absurd z) (T-decide (has y i))

    left : T (not (has x i)) → Memᴰ r (i ∷ rs) → Memᴰ r rs
    left g w = ⊎_elim (λ (q : r ≡ i). absurd (T_not (has x i) g (subst (λ (j : ℕ). T (has x j)) q h))) (λ v. v) (Memᴰ.cases_cons w)

    there : T (not (has x i)) → (Memᴰ r rs → rank rs x ≡ rank rs y → x ≡ y) → x ≡ y
    there g go =
        ⊎_elim (λ d. let z : ⊥ = omega (arith, rank_later i rs x g, rank_here i rs y d) in absurd z)
        (λ d. go (left g m) (omega (arith, rank_later i rs x g, rank_later i rs y d))) (T-decide (has y i))

module _ {ord : List ℕ} (order : Order ord) where
  rank_equal : {x y : ℕ} → One x → One y → rank ord x ≡ rank ord y → x ≡ y
  rank_equal {x} o n e =
      rank_same ord o n o.0 (order.each o.0 o.1) (subst (λ (z : ℕ). T (has z o.0)) (sym o.2) (has_single o.0)) e

  compare : (ks t u : List ℕ) → All (λ k. One (get_or t k 0)) ks → All (λ k. One (get_or u k 0)) ks
      → Before ord ks t u ⊎ (Agree ks t u ⊎ Before ord ks u t)
  unfolding Before
  compare [] t u a b = inr (inl tt)
  compare (k ∷ ks) t u a b =
      ⊎_elim (λ l. inl (inl l))
      (λ d. ⊎_elim (λ l. inr (inr (inl l)))
      (λ e. next (rank_equal (a k (Memᴰ.head refl)) (b k (Memᴰ.head refl)) e)
      (compare ks t u (λ j i. a j (Memᴰ.tail i)) (λ j i. b j (Memᴰ.tail i)))) d)
      (order_cases (rank ord (get_or t k 0)) (rank ord (get_or u k 0)))
    where
      next : get_or t k 0 ≡ get_or u k 0 → Before ord ks t u ⊎ (Agree ks t u ⊎ Before ord ks u t)
          → Before ord (k ∷ ks) t u ⊎ (Agree (k ∷ ks) t u ⊎ Before ord (k ∷ ks) u t)
      next e (inl d) = inl (inr (e, d))
      next e (inr (inl d)) = inr (inl (e, d))
      next e (inr (inr d)) = inr (inr (inr (sym e, d)))

  one_places : {s : Sheet} {t : List ℕ} → Arrangement s t → All (λ k. One (get_or t k 0)) (places s.boards)
  one_places {s} {t} a = all_places (λ k. One (get_or t k 0)) s.boards (λ p q h l. a.single p q (omega arith) l)

  -- of two arrangements one comes before the other, or they are the same
  pub before_total : {s : Sheet} {t u : List ℕ} → Arrangement s t → Arrangement s u
      → Before ord (places s.boards) t u ⊎ ((t ≡ u) ⊎ Before ord (places s.boards) u t)
  before_total {s} {t} {u} a b =
      ⊎_elim (λ d. inl d) (λ c. ⊎_elim (λ g. inr (inl (agree_equal a b g))) (λ d. inr (inr d)) c)
      (compare (places s.boards) t u (one_places a) (one_places b))

-- none comes before itself
pub before_irrefl : (ord ks t : List ℕ) → Before ord ks t t → ⊥
unfolding Before
before_irrefl ord [] t d = d
before_irrefl ord (k ∷ ks) t (inl l) = let z : ⊥ = omega arith in z
before_irrefl ord (k ∷ ks) t (inr d) = before_irrefl ord ks t d.1

-- what comes before what comes before comes before
pub before_trans : (ord ks t u w : List ℕ) → Before ord ks t u → Before ord ks u w → Before ord ks t w
unfolding Before
before_trans ord [] t u w a b = a
before_trans ord (k ∷ ks) t u w (inl a) (inl b) = inl (omega arith)
before_trans ord (k ∷ ks) t u w (inl a) (inr b) = inl (subst (λ (x : ℕ). rank ord (get_or t k 0) < rank ord x) b.0 a)
before_trans ord (k ∷ ks) t u w (inr a) (inl b) = inl (subst (λ (x : ℕ). rank ord x < rank ord (get_or w k 0)) (sym a.0) b)
before_trans ord (k ∷ ks) t u w (inr a) (inr b) = inr (a.0 ∙ b.0, before_trans ord ks t u w a.1 b.1)
