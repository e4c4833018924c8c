-- Tables inside tables: an order, in which fewer relations in all means some relation less. Assumes nothing.
use mathlib.Core.Path.{◌≡◌, refl, sym, ◌∙◌, subst}
use mathlib.Core.List.{List, [], ◌∷◌}
use Prim.Native.Nat.{ℕ, zero, suc, ◌+◌, ◌*◌, ◌/◌, ◌%◌, ◌≤◌, ◌<◌}
use native.Mathlib.Nat.{suc_inj, suc-ne-zero, mul-le-mul_left, mul-suc, mod-lt, div-add-mod, div-lt_iff_lt-mul}
use native.Mathlib.Omega.{arith}
use lib.Dec.{T, eqb, eqb→eq}
use lib.ListN.{length, get_or}
use lib.Seq.{ext_get_or}
use Rattle.rules.specs.Relations.{◌lies_within◌}
use Rattle.rules.specs.Tables.{Table, Inside, emptied, total}
use Rattle.rules.proofs.Members.{some_of_in, some_of_out, member_at, at_member}
use Rattle.rules.proofs.Sets.{lies_refl, lies_trans, lies_antisym, lies_zero, size_mono, size_tight}

-- cell (p, q) is one of the table's
pub in_range_lem : (v p q : ℕ) → p < v → q < v → v * p + q < v * v
in_range_lem v p q h k = omega (arith, mul-le-mul_left v h, mul-suc v p)

-- each place of the table is a cell (p, q)
pub place : (v k : ℕ) → k < v * v → (p : ℕ) × (q : ℕ) × (p < v) × (q < v) × (k ≡ v * p + q)
place zero k h = let z : ⊥ = omega arith in absurd z
place (suc n) k h =
    let v : ℕ = suc n in
    (k / v, k % v, (div-lt_iff_lt-mul {k = v} (omega arith)).1 h, mod-lt k {m = v} (omega arith), sym (div-add-mod k v))

-- what holds of each cell (p, q) holds of each place of the table
pub each_place : (P : ℕ → Type 0) {v : ℕ} {t : List ℕ} → Table v t → ((p q : ℕ) → p < v → q < v → P (v * p + q)) → (k : ℕ) → k < length t → P k
each_place P {v} {t} h f k l = from (place v k (subst (λ (n : ℕ). k < n) h.cells l))
  where
    from : (p : ℕ) × (q : ℕ) × (p < v) × (q < v) × (k ≡ v * p + q) → P k
    from m = subst P (sym m.4) (f m.0 m.1 m.2 m.3)

pub inside_refl : (t : List ℕ) → Inside t t
inside_refl t = record { cells = refl; each = λ k. lies_refl (get_or t k 0) }

pub inside_trans : {t u w : List ℕ} → Inside t u → Inside u w → Inside t w
inside_trans a b = record { cells = a.cells ∙ b.cells; each = λ k. lies_trans (a.each k) (b.each k) }

-- two tables inside each other are equal
pub inside_antisym : {v : ℕ} {t u : List ℕ} → Table v t → Table v u → Inside t u → Inside u t → t ≡ u
inside_antisym {v} {t} {u} a b c d =
    ext_get_or 0 t u c.cells (λ k h. lies_antisym (a.small k) (b.small k) (c.each k) (d.each k))

total_le : (t u : List ℕ) → length t ≡ length u → ((k : ℕ) → get_or t k 0 lies_within get_or u k 0) → total t ≤ total u
unfolding total
total_le [] [] e f = omega arith
total_le [] (y ∷ ys) e f = omega arith
total_le (x ∷ xs) [] e f = absurd (suc-ne-zero (length xs) e)
total_le (x ∷ xs) (y ∷ ys) e f = omega (arith, size_mono (f 0), total_le xs ys (suc_inj e) (λ k. f (suc k)))

pub total_mono : {t u : List ℕ} → Inside t u → total t ≤ total u
total_mono {t} {u} h = total_le t u h.cells h.each

total_back : (t u : List ℕ) → length t ≡ length u → ((k : ℕ) → get_or t k 0 lies_within get_or u k 0) → total u ≤ total t → (k : ℕ) → get_or u k 0 lies_within get_or t k 0
unfolding total
total_back [] [] e f l k = f k
total_back [] (y ∷ ys) e f l k = absurd (suc-ne-zero (length ys) (sym e))
total_back (x ∷ xs) [] e f l k = absurd (suc-ne-zero (length xs) e)
total_back (x ∷ xs) (y ∷ ys) e f l zero = size_tight (f 0) (omega (arith, total_le xs ys (suc_inj e) (λ k. f (suc k))))
total_back (x ∷ xs) (y ∷ ys) e f l (suc k) = total_back xs ys (suc_inj e) (λ k. f (suc k)) (omega (arith, size_mono (f 0))) k

-- a table inside another with as many relations is the other
pub total_tight : {v : ℕ} {t u : List ℕ} → Table v t → Table v u → Inside t u → total u ≤ total t → t ≡ u
total_tight {v} {t} {u} a b h l =
    inside_antisym a b h (record { cells = sym h.cells; each = total_back t u h.cells h.each l })

-- ---- empty cells

pub emptied_out : (t : List ℕ) → T (emptied t) → (k : ℕ) × (k < length t) × (get_or t k 0 ≡ 0)
unfolding emptied
emptied_out t e =
    let m = some_of_out (λ x. eqb x 0) t e in
    let r = at_member t m.0 m.1 in
    (r.0, r.1, r.2 ∙ eqb→eq m.0 0 m.2)

pub emptied_in : (t : List ℕ) (k : ℕ) → k < length t → get_or t k 0 ≡ 0 → T (emptied t)
unfolding emptied
emptied_in t k h e = some_of_in (λ x. eqb x 0) t (get_or t k 0) (member_at t k h) (subst (λ (y : ℕ). T (eqb y 0)) (sym e) tt)

-- a table inside one with an empty cell has one
pub emptied_inside : {v : ℕ} {t u : List ℕ} → Table v t → Inside t u → T (emptied u) → T (emptied t)
emptied_inside {v} {t} {u} h i e = from (emptied_out u e)
  where
    from : (k : ℕ) × (k < length u) × (get_or u k 0 ≡ 0) → T (emptied t)
    from m =
        emptied_in t m.0 (subst (λ (n : ℕ). m.0 < n) (sym i.cells) m.1)
        (lies_zero (h.small m.0) (subst (λ (x : ℕ). get_or t m.0 0 lies_within x) m.2 (i.each m.0)))
