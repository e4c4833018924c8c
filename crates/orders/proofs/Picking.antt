-- The relations of a set that are still to be tried, over any order: the first of them is what is picked, and the set without it has the others in the
-- same order. Assumes nothing.
use mathlib.Core.Path.{◌≡◌, refl, sym, ap, ◌∙◌, subst}
use mathlib.Core.Bool.{Bool, true, false, not}
use mathlib.Core.Logic.{⊎_elim}
use mathlib.Core.List.Memᴰ
use mathlib.Core.List.{List, [], ◌∷◌, Memᴰ}
use Prim.Native.Nat.{ℕ, zero, suc, ◌+◌, ◌^◌, ◌≤◌, ◌<◌}
use native.Mathlib.Numerals.{add-one}
use native.Mathlib.Omega.{arith}
use lib.Dec.{T, eqb, ltb, ltb→lt, T_not}
use lib.Pow.{pow_pos}
use lib.ListN.{length, get_or, drop, drop_of_length-le}
use lib.Seq.{drop-cons}
use Rattle.rules.specs.Relations.{each_of, relations, set_limit, has, meet, complement}
use Rattle.rules.specs.Search.{distinct, Order}
use Rattle.rules.proofs.Tests.{clash, T_true, T_false, true_T, T-ext, T-and_left, T-and_right, T-differ}
use Rattle.rules.proofs.Digits.{has_zero, has_single, single_has, has_small}
use Rattle.rules.proofs.Sets.{set_of_small, meet_small, meet_left, meet_right, meet_largest, lies_single, single_lies, single_small, some_member, complement_in, complement_out, unshared_lacks, shared_has}
use Rattle.rules.proofs.Members.{All, each_of_out, member_at}
use Rattle.orders.specs.Orders.{still, pick, unpicked}

-- ---- one relation of the order

-- a set has it or not
either : {P : Type 0} (b : Bool) → (b ≡ true → P) → (b ≡ false → P) → P
either true f g = f refl
either false f g = g refl

module _ (r : ℕ) (rs : List ℕ) (c : ℕ) where
  by_still : Bool → List ℕ
  by_still b = elim b [ true ↦ r ∷ still rs c | false ↦ still rs c ]

  by_pick : Bool → ℕ
  by_pick b = elim b [ true ↦ 2 ^ r | false ↦ pick rs c ]

  still_in : has c r ≡ true → still (r ∷ rs) c ≡ r ∷ still rs c
  unfolding still by_still
  still_in e = ap by_still e

  still_out : has c r ≡ false → still (r ∷ rs) c ≡ still rs c
  unfolding still by_still
  still_out e = ap by_still e

  pick_in : has c r ≡ true → pick (r ∷ rs) c ≡ 2 ^ r
  unfolding pick by_pick
  pick_in e = ap by_pick e

  pick_out : has c r ≡ false → pick (r ∷ rs) c ≡ pick rs c
  unfolding pick by_pick
  pick_out e = ap by_pick e

-- ---- the first of those still to be tried

first_one : {x y : ℕ} {xs ys : List ℕ} → x ∷ xs ≡ y ∷ ys → x ≡ y
first_one e = cc

other_ones : {x y : ℕ} {xs ys : List ℕ} → x ∷ xs ≡ y ∷ ys → xs ≡ ys
other_ones e = cc

pub pick_still : (ord : List ℕ) (c r : ℕ) (rs : List ℕ) → still ord c ≡ r ∷ rs → pick ord c ≡ 2 ^ r
unfolding still
pick_still [] c r rs e = clash (cc)
pick_still (x ∷ xs) c r rs e =
    either (has c x)
    (λ d. pick_in x xs c d ∙ ap (λ (n : ℕ). 2 ^ n) (first_one (sym (still_in x xs c d) ∙ e)))
    (λ d. pick_out x xs c d ∙ pick_still xs c r rs (sym (still_out x xs c d) ∙ e))

pub still_has : (ord : List ℕ) (c r : ℕ) (rs : List ℕ) → still ord c ≡ r ∷ rs → T (has c r)
unfolding still
still_has [] c r rs e = clash (cc)
still_has (x ∷ xs) c r rs e =
    either (has c x)
    (λ d. subst (λ (n : ℕ). T (has c n)) (first_one (sym (still_in x xs c d) ∙ e)) (true_T d))
    (λ d. still_has xs c r rs (sym (still_out x xs c d) ∙ e))

-- ---- the set without it

-- two sets that differ at most at r: the relations but r are still to be tried of both
module _ (c d r : ℕ) (other : (x : ℕ) → (x ≡ r → ⊥) → has d x ≡ has c x) where
  still_others : (ord : List ℕ) → All (λ x. x ≡ r → ⊥) ord → still ord d ≡ still ord c
  unfolding still
  still_others [] h = refl
  still_others (x ∷ xs) h =
      let rest : still xs d ≡ still xs c = still_others xs (λ y m. h y (Memᴰ.tail m)) in
      let same : has d x ≡ has c x = other x (h x (Memᴰ.head refl)) in
      either (has c x)
      (λ e. still_in x xs d (same ∙ e) ∙ ap (λ (ys : List ℕ). x ∷ ys) rest ∙ sym (still_in x xs c e))
      (λ e. still_out x xs d (same ∙ e) ∙ rest ∙ sym (still_out x xs c e))

  -- where d lacks r, which is the first of c
  still_rest : has d r ≡ false → (ord : List ℕ) → T (distinct ord) → (rs : List ℕ) → still ord c ≡ r ∷ rs → still ord d ≡ rs
  unfolding still
  still_rest gone [] u rs e = clash (cc)
  still_rest gone (x ∷ xs) u rs e =
      let apart : T (each_of (λ y. not (eqb x y)) xs) = T-and_left (each_of (λ y. not (eqb x y)) xs) (distinct xs) u in
      either (has c x)
      (λ q.
      let f : x ∷ still xs c ≡ r ∷ rs = sym (still_in x xs c q) ∙ e in
      still_out x xs d (ap (has d) (first_one f) ∙ gone)
      ∙ still_others xs (λ y m i. T-differ (each_of_out (λ y. not (eqb x y)) xs apart y m) (first_one f ∙ sym i)) ∙ other_ones f)
      (λ q.
      let f : still xs c ≡ r ∷ rs = sym (still_out x xs c q) ∙ e in
      still_out x xs d (other x (λ i. subst T (ap (has c) (sym i) ∙ q) (still_has xs c r rs f)) ∙ q)
      ∙ still_rest gone xs (T-and_right (each_of (λ y. not (eqb x y)) xs) (distinct xs) u) rs f)

-- the set c without the relation r
module _ (c r : ℕ) (small : c < set_limit) (h : r < relations) where
  without : ℕ
  without = meet c (complement (2 ^ r))

  without_gone : has without r ≡ false
  unfolding without
  without_gone =
      T_false {b = has (meet c (complement (2 ^ r))) r}
      (λ t. complement_out (2 ^ r) r h ((meet_right c (complement (2 ^ r))).member r h t) (has_single r))

  without_other : (x : ℕ) → (x ≡ r → ⊥) → has without x ≡ has c x
  unfolding without
  without_other x n = T-ext (has (meet c (complement (2 ^ r))) x) (has c x) down up
    where
      down : T (has (meet c (complement (2 ^ r))) x) → T (has c x)
      down t = (meet_left c (complement (2 ^ r))).member x (has_small relations (meet c (complement (2 ^ r))) x (meet_small c (complement (2 ^ r))) t) t

      up : T (has c x) → T (has (meet c (complement (2 ^ r))) x)
      up t =
          let l : x < relations = has_small relations c x small t in
          lies_single l (meet_largest (single_lies x c t) (single_lies x (complement (2 ^ r)) (complement_in (2 ^ r) x l (λ a. n (single_has r x a)))))

  without_rest : (ord : List ℕ) → T (distinct ord) → (rs : List ℕ) → still ord c ≡ r ∷ rs → still ord (meet c (complement (2 ^ r))) ≡ rs
  unfolding without
  without_rest = still_rest c without r without_other without_gone

pub still_less : (ord : List ℕ) → T (distinct ord) → (c r : ℕ) (rs : List ℕ) → c < set_limit → r < relations → still ord c ≡ r ∷ rs
    → still ord (unpicked ord c) ≡ rs
still_less ord u c r rs small h e =
    ap (λ (n : ℕ). still ord (meet c (complement n))) (pick_still ord c r rs e) ∙ without_rest c r small h ord u rs e

-- ---- nothing is left

member_still : (ord : List ℕ) (c r : ℕ) → Memᴰ r ord → T (has c r) → Memᴰ r (still ord c)
unfolding still
member_still [] c r m t = absurd (Memᴰ.not-nil m)
member_still (x ∷ xs) c r m t =
    either (has c x)
    (λ e.
    subst (λ (l : List ℕ). Memᴰ r l) (sym (still_in x xs c e))
    (⊎_elim (λ d. Memᴰ.head d) (λ n. Memᴰ.tail (member_still xs c r n t)) (Memᴰ.cases_cons m)))
    (λ e.
    subst (λ (l : List ℕ). Memᴰ r l) (sym (still_out x xs c e))
    (⊎_elim (λ (d : r ≡ x). absurd (subst T (ap (has c) d ∙ e) t)) (λ n. member_still xs c r n t) (Memᴰ.cases_cons m)))

pub still_none : {ord : List ℕ} → Order ord → (c : ℕ) → c < set_limit → still ord c ≡ [] → c ≡ 0
still_none {ord} o zero h e = refl
still_none {ord} o (suc n) h e =
    let m = some_member {x = suc n} h (λ z. let y : ⊥ = omega arith in absurd y) in
    absurd (Memᴰ.not-nil (subst (λ (l : List ℕ). Memᴰ m.0 l) e (member_still ord (suc n) m.0 (o.each m.0 m.1) m.2)))

pub none_still : (ord : List ℕ) → still ord 0 ≡ []
unfolding still
none_still [] = refl
none_still (x ∷ xs) = still_out x xs 0 (has_zero x) ∙ none_still xs

-- ---- what is picked is a set

pub order_small : {ord : List ℕ} → Order ord → (i : ℕ) → i < length ord → get_or ord i 0 < relations
order_small {ord} o i h = ltb→lt (get_or ord i 0) relations (each_of_out (λ r. ltb r relations) ord o.only (get_or ord i 0) (member_at ord i h))

one_small : (ord : List ℕ) (c : ℕ) → All (λ r. r < relations) ord → pick ord c < set_limit
unfolding pick
one_small [] c h = pow_pos relations
one_small (x ∷ xs) c h =
    either (has c x)
    (λ e. subst (λ (n : ℕ). n < set_limit) (sym (pick_in x xs c e)) (single_small (h x (Memᴰ.head refl))))
    (λ e. subst (λ (n : ℕ). n < set_limit) (sym (pick_out x xs c e)) (one_small xs c (λ y m. h y (Memᴰ.tail m))))

pub pick_small : {ord : List ℕ} → Order ord → (c : ℕ) → c < set_limit → pick ord c < set_limit
pick_small {ord} o c h = one_small ord c (λ r m. ltb→lt r relations (each_of_out (λ r. ltb r relations) ord o.only r m))

pub complement_small : (x : ℕ) → complement x < set_limit
unfolding complement
complement_small x = set_of_small (λ r. not (has x r))

pub unpicked_small : {ord : List ℕ} → Order ord → (c : ℕ) → c < set_limit → unpicked ord c < set_limit
unpicked_small {ord} o c h = meet_small c (complement (pick ord c))

-- ---- a walk along the order: what is picked is picked from the place i on

abbrev pub From : List ℕ → ℕ → ℕ → Type 0
From ord c i = pick (drop i ord) c ≡ pick ord c

module _ (ord : List ℕ) (c i : ℕ) (h : i < length ord) (from : From ord c i) where
  here : drop i ord ≡ get_or ord i 0 ∷ drop (suc i) ord
  here = drop-cons ord i 0 h

  pub picked : {z : ℕ} → z ≡ meet c (2 ^ get_or ord i 0) → (z ≡ 0 → ⊥) → 2 ^ get_or ord i 0 ≡ pick ord c
  picked e n =
      sym (pick_in (get_or ord i 0) (drop (suc i) ord) c (T_true {b = has c (get_or ord i 0)} (shared_has (get_or ord i 0) c (λ d. n (e ∙ d)))))
      ∙ sym (ap (λ (l : List ℕ). pick l c) here) ∙ from

  pub passed : {z : ℕ} → Order ord → z ≡ meet c (2 ^ get_or ord i 0) → z ≡ 0 → From ord c (i + 1)
  passed o e n =
      ap (λ (k : ℕ). pick (drop k ord) c) (add-one i)
      ∙ sym (pick_out (get_or ord i 0) (drop (suc i) ord) c (lacked (unshared_lacks (get_or ord i 0) c (order_small o i h) (sym e ∙ n))))
      ∙ sym (ap (λ (l : List ℕ). pick l c) here) ∙ from
    where
      lacked : T (not (has c (get_or ord i 0))) → has c (get_or ord i 0) ≡ false
      lacked t = T_false {b = has c (get_or ord i 0)} (T_not (has c (get_or ord i 0)) t)

pub picked_none : (ord : List ℕ) (c i : ℕ) → length ord ≤ i → From ord c i → 0 ≡ pick ord c
unfolding pick
picked_none ord c i h from = sym (ap (λ (l : List ℕ). pick l c) (drop_of_length-le ord {i = i} h)) ∙ from
