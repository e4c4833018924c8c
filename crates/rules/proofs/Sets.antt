-- Sets of relations by membership, over any number of relations: an order, with meets, and with single relations at the bottom. Assumes nothing.
use mathlib.Core.Path.{◌≡◌, refl, sym, subst}
use mathlib.Core.Bool.{Bool, true, false, not, ◌&&◌, ◌||◌}
use Prim.Native.Nat.{ℕ, zero, suc, ◌^◌, ◌≤◌, ◌<◌}
use native.Mathlib.Omega.{arith}
use lib.Pow.{pow_pos, pow-lt}
use lib.Dec.{T, T_not, not_T}
use Rattle.rules.specs.Relations.{relations, set_limit, has, Lacks, set_of, full, meet, join, complement, within, size, ◌lies_within◌}
use Rattle.rules.proofs.Tests.{and_T, T-and_left, T-and_right, T-ext, each_at, each_all, count_mono, count_tight, count_one, count_pos, count_some}
use Rattle.rules.proofs.Digits.{has_set_to, set_to_small, digits_ext, has_zero, has_single, single_has}

pub set_of_small : (f : ℕ → Bool) → set_of f < set_limit
unfolding set_of
set_of_small f = set_to_small relations f

pub has_set_of : (f : ℕ → Bool) (r : ℕ) → r < relations → has (set_of f) r ≡ f r
unfolding set_of
has_set_of f r h = has_set_to relations f r h

pub set_ext : {x y : ℕ} → x < set_limit → y < set_limit → ((r : ℕ) → r < relations → has x r ≡ has y r) → x ≡ y
set_ext {x} {y} h k e = digits_ext relations x y h k e

pub set_of_in : (f : ℕ → Bool) (r : ℕ) → r < relations → T (f r) → T (has (set_of f) r)
set_of_in f r h t = subst T (sym (has_set_of f r h)) t

pub set_of_out : (f : ℕ → Bool) (r : ℕ) → r < relations → T (has (set_of f) r) → T (f r)
set_of_out f r h t = subst T (has_set_of f r h) t

-- the test says what it is named after
pub within_lies : (x y : ℕ) → T (within x y) → x lies_within y
unfolding within
within_lies x y t = record { member = λ r h u. go r (has x r) (each_at relations (λ r. not (has x r) || has y r) t r h) u }
  where
    go : (r : ℕ) (a : Bool) → T (not a || has y r) → T a → T (has y r)
    go r true t u = t
    go r false t u = absurd u

pub lies_within_lem : {x y : ℕ} → x lies_within y → T (within x y)
unfolding within
lies_within_lem {x} {y} s = each_all relations (λ r. not (has x r) || has y r) (λ r h. go r (has x r) (s.member r h))
  where
    go : (r : ℕ) (a : Bool) → (T a → T (has y r)) → T (not a || has y r)
    go r true g = g tt
    go r false g = tt

pub lies_refl : (x : ℕ) → x lies_within x
lies_refl x = record { member = λ r h t. t }

pub lies_eq : {x y : ℕ} → x ≡ y → x lies_within y
lies_eq {x} e = subst (λ (y : ℕ). x lies_within y) e (lies_refl x)

pub lies_trans : {x y z : ℕ} → x lies_within y → y lies_within z → x lies_within z
lies_trans s t = record { member = λ r h u. t.member r h (s.member r h u) }

pub lies_antisym : {x y : ℕ} → x < set_limit → y < set_limit → x lies_within y → y lies_within x → x ≡ y
lies_antisym {x} {y} h k s t = set_ext h k (λ r l. T-ext (has x r) (has y r) (s.member r l) (t.member r l))

pub zero_lies : (y : ℕ) → 0 lies_within y
zero_lies y = record { member = λ r h t. absurd (subst T (has_zero r) t) }

pub lies_full : (x : ℕ) → x lies_within full
unfolding full
lies_full x = record { member = λ r h t. set_of_in (λ r. true) r h tt }

set_limit_pos : 0 < set_limit
set_limit_pos = pow_pos relations

pub lies_zero : {x : ℕ} → x < set_limit → x lies_within 0 → x ≡ 0
lies_zero {x} h t = lies_antisym h set_limit_pos t (zero_lies x)

-- ---- what both have, what either has, what is lacked

pub meet_small : (x y : ℕ) → meet x y < set_limit
unfolding meet
meet_small x y = set_of_small (λ r. has x r && has y r)

pub meet_left : (x y : ℕ) → meet x y lies_within x
unfolding meet
meet_left x y = record { member = λ r h t. T-and_left (has x r) (has y r) (set_of_out (λ r. has x r && has y r) r h t) }

pub meet_right : (x y : ℕ) → meet x y lies_within y
unfolding meet
meet_right x y = record { member = λ r h t. T-and_right (has x r) (has y r) (set_of_out (λ r. has x r && has y r) r h t) }

pub meet_largest : {x y z : ℕ} → z lies_within x → z lies_within y → z lies_within meet x y
unfolding meet
meet_largest {x} {y} {z} s t =
    record { member = λ r h u. set_of_in (λ r. has x r && has y r) r h (and_T (has x r) (has y r) (s.member r h u) (t.member r h u)) }

pub join_in : (x y r : ℕ) → r < relations → T (has x r || has y r) → T (has (join x y) r)
unfolding join
join_in x y r h t = set_of_in (λ r. has x r || has y r) r h t

pub complement_in : (x r : ℕ) → r < relations → (T (has x r) → ⊥) → T (has (complement x) r)
unfolding complement
complement_in x r h f = set_of_in (λ r. not (has x r)) r h (not_T (has x r) f)

pub complement_out : (x r : ℕ) → r < relations → T (has (complement x) r) → T (has x r) → ⊥
unfolding complement
complement_out x r h t u = T_not (has x r) (set_of_out (λ r. not (has x r)) r h t) u

-- ---- the number of members

pub size_mono : {x y : ℕ} → x lies_within y → size x ≤ size y
unfolding size
size_mono {x} {y} t = count_mono relations (has x) (has y) (λ r h u. t.member r h u)

pub size_tight : {x y : ℕ} → x lies_within y → size y ≤ size x → y lies_within x
unfolding size
size_tight {x} {y} t l = record { member = λ r h u. count_tight relations (has x) (has y) (λ r h u. t.member r h u) l r h u }

pub size_pos : (x r : ℕ) → r < relations → T (has x r) → 0 < size x
unfolding size
size_pos x r h t = count_pos relations (has x) r h t

pub size_single : (r : ℕ) → r < relations → size (2 ^ r) ≡ 1
unfolding size
size_single r h =
    omega (
      arith,
      count_pos relations (has (2 ^ r)) r h (has_single r),
      count_one relations (has (2 ^ r)) r (single_has r),
    )

-- a set that is not empty has a member
pub size_some : (x : ℕ) → 0 < size x → (r : ℕ) × (r < relations) × T (has x r)
unfolding size
size_some x h = count_some relations (has x) h

pub size_zero : size 0 ≡ 0
size_zero = go (size 0) refl
  where
    go : (n : ℕ) → size 0 ≡ n → size 0 ≡ 0
    go zero e = e
    go (suc n) e = let m : (r : ℕ) × (r < relations) × T (has 0 r) = size_some 0 (omega arith) in absurd (subst T (has_zero m.0) m.2)

pub some_member : {x : ℕ} → x < set_limit → (x ≡ 0 → ⊥) → (r : ℕ) × (r < relations) × T (has x r)
some_member {x} h n = go (size x) refl
  where
    go : (m : ℕ) → size x ≡ m → (r : ℕ) × (r < relations) × T (has x r)
    go zero e = absurd (n (lies_zero h (size_tight (zero_lies x) (let z : size 0 ≡ 0 = size_zero in omega arith))))
    go (suc m) e = size_some x (omega arith)

-- ---- single relations

pub single_small : {r : ℕ} → r < relations → 2 ^ r < set_limit
single_small h = pow-lt h

pub single_lies : (r x : ℕ) → T (has x r) → 2 ^ r lies_within x
single_lies r x t = record { member = λ s h u. subst (λ (j : ℕ). T (has x j)) (sym (single_has r s u)) t }

pub lies_single : {r x : ℕ} → r < relations → 2 ^ r lies_within x → T (has x r)
lies_single {r} h t = t.member r h (has_single r)

-- a set with one member is that relation alone
pub size_one : (x : ℕ) → x < set_limit → size x ≡ 1 → (r : ℕ) × (r < relations) × (x ≡ 2 ^ r)
size_one x h e = go (size_some x (omega arith))
  where
    go : (r : ℕ) × (r < relations) × T (has x r) → (r : ℕ) × (r < relations) × (x ≡ 2 ^ r)
    go m =
        let l : m.0 < relations = m.1 in
        let i : 2 ^ m.0 lies_within x = single_lies m.0 x m.2 in
        let s : size (2 ^ m.0) ≡ 1 = size_single m.0 l in
        (m.0, l, lies_antisym h (single_small l) (size_tight i (omega arith)) i)

-- what lies within a single relation is empty or that relation
pub lies_one : (r : ℕ) {x : ℕ} → x < set_limit → r < relations → x lies_within 2 ^ r → (x ≡ 0 → ⊥) → x ≡ 2 ^ r
lies_one r {x} h l t n = go (some_member h n)
  where
    go : (s : ℕ) × (s < relations) × T (has x s) → x ≡ 2 ^ r
    go m =
        let e : m.0 ≡ r = single_has r m.0 (t.member m.0 m.1 m.2) in
        lies_antisym h (single_small l) t (single_lies r x (subst (λ (j : ℕ). T (has x j)) e m.2))

-- ---- what a set has, by what it has in common with another

-- two sets with a common relation have something in common
pub shared : (x y r : ℕ) → r < relations → T (has x r) → T (has y r) → meet x y ≡ 0 → ⊥
shared x y r h s t e =
    subst T (has_zero r) (subst (λ (z : ℕ). T (has z r)) e (lies_single h (meet_largest (single_lies r x s) (single_lies r y t))))

-- a set has a relation or not, by whether it has something in common with that relation alone
pub unshared_lacks : (r x : ℕ) → r < relations → meet x (2 ^ r) ≡ 0 → Lacks x r
unshared_lacks r x h e = not_T (has x r) (λ t. shared x (2 ^ r) r h t (has_single r) e)

pub shared_has : (r x : ℕ) → (meet x (2 ^ r) ≡ 0 → ⊥) → T (has x r)
shared_has r x n = from (some_member (meet_small x (2 ^ r)) n)
  where
    from : (s : ℕ) × (s < relations) × T (has (meet x (2 ^ r)) s) → T (has x r)
    from m =
        subst (λ (s : ℕ). T (has x s)) (single_has r m.0 ((meet_right x (2 ^ r)).member m.0 m.1 m.2))
        ((meet_left x (2 ^ r)).member m.0 m.1 m.2)
