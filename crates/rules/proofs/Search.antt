-- The search's rule, over any closing and any order of relations: what it finds is the least arrangement inside the table, and it says none exactly
-- when there is none; a larger budget changes no answer but "ran out". Assumes nothing.
use mathlib.Core.Path.{◌≡◌, refl, sym, ap, ◌∙◌, subst}
use mathlib.Core.Bool.{Bool, true, false, not}
use mathlib.Core.Logic.{◌⊎◌, inl, inr, ⊎_elim}
use mathlib.Core.List.{List, Memᴰ}
use Prim.Native.Nat.{ℕ, zero, suc, ◌≤◌, ◌<◌}
use native.Mathlib.Omega.{arith}
use lib.Dec.{T, leb, leb→le, nleb→lt}
use Rattle.rules.specs.Relations.{relations}
use Rattle.rules.specs.Descriptions.{Sheet, WellFormed}
use Rattle.rules.specs.Tables.{Table}
use Rattle.rules.specs.Search.{plain_order, Order, End, found, none, places, search, Before, Least, Nowhere, ended, ran_out, tries, cap}
use Rattle.rules.proofs.Tests.{clash, true_T}
use Rattle.rules.proofs.Choices.{Closes, Right, search_right}
use Rattle.rules.proofs.Order.{agree_equal, before_irrefl, before_trans}

-- the order of 01 has each relation once
pub plain_order_lem : Order plain_order
unfolding relations
plain_order_lem = record { only = tt; each = λ r h. member r h; once = tt }
  where
    member : (r : ℕ) → r < 4 → Memᴰ r plain_order
    member zero h = Memᴰ.head refl
    member (suc zero) h = Memᴰ.tail (Memᴰ.head refl)
    member (suc (suc zero)) h = Memᴰ.tail (Memᴰ.tail (Memᴰ.head refl))
    member (suc (suc (suc zero))) h = Memᴰ.tail (Memᴰ.tail (Memᴰ.tail (Memᴰ.head refl)))
    member (suc (suc (suc (suc r)))) h = let z : ⊥ = omega arith in absurd z

-- there is only one first arrangement
pub least_unique : {s : Sheet} {ord t w u : List ℕ} → Least s ord t w → Least s ord t u → w ≡ u
least_unique {s} {ord} {t} {w} {u} a b = from (a.least u b.arrangement b.inside) (b.least w a.arrangement a.inside)
  where
    from : (w ≡ u) ⊎ Before ord (places s.boards) w u → (u ≡ w) ⊎ Before ord (places s.boards) u w → w ≡ u
    from (inl e) d = e
    from (inr x) (inl e) = sym e
    from (inr x) (inr y) = absurd (before_irrefl ord (places s.boards) w (before_trans ord (places s.boards) w u w x y))

module _ {s : Sheet} (f : WellFormed s) {clo : List ℕ → List ℕ} (closes : Closes s clo) {ord : List ℕ} (order : Order ord)
    (t : List ℕ) (h : Table s.boards t)
  where
    -- what a search says of the arrangements inside the table
    abbrev Says : End → Type 0
    Says (found n w) = Least s ord t w
    Says (none n) = Nowhere s t

    search_says : Says (search clo ord s.boards t)
    search_says = from (search clo ord s.boards t) (search_right f closes ord order t h)
      where
        from : (e : End) → Right f closes ord (places s.boards) t e → Says e
        from (found n w) r =
            record {
              arrangement = r.0;
              inside = r.1;
              least = λ u a i. ⊎_elim (λ d. inr d) (λ g. inl (agree_equal r.0 a g)) (r.2 u a i);
            }
        from (none n) r = r

    -- what it finds is the least arrangement inside the table
    pub search_found : (n : ℕ) (w : List ℕ) → search clo ord s.boards t ≡ found n w → Least s ord t w
    search_found n w e = subst Says e search_says

    -- it says none exactly when there is none
    pub search_none : (n : ℕ) → search clo ord s.boards t ≡ none n → Nowhere s t
    search_none n e = subst Says e search_says

    pub none_search : Nowhere s t → (n : ℕ) × (search clo ord s.boards t ≡ none n)
    none_search out = from (search clo ord s.boards t) refl search_says
      where
        from : (e : End) → search clo ord s.boards t ≡ e → Says e → (n : ℕ) × (search clo ord s.boards t ≡ none n)
        from (found n w) p l = absurd (out w l.arrangement l.inside)
        from (none n) p l = (n, p)

    -- where there is one, it finds the least
    pub least_search : (w : List ℕ) → Least s ord t w → (n : ℕ) × (search clo ord s.boards t ≡ found n w)
    least_search w a = from (search clo ord s.boards t) refl search_says
      where
        from : (e : End) → search clo ord s.boards t ≡ e → Says e → (n : ℕ) × (search clo ord s.boards t ≡ found n w)
        from (found n u) p l = (n, p ∙ ap (found n) (least_unique l a))
        from (none n) p l = absurd (l w a.arrangement a.inside)

-- ---- the budget

pub cap_case : (b : ℕ) (e : End) → ((tries e ≤ b) × (cap b e ≡ ended e)) ⊎ ((b < tries e) × (cap b e ≡ ran_out b))
unfolding cap
cap_case b e = from (leb (tries e) b) refl
  where
    from : (c : Bool) → leb (tries e) b ≡ c
        → ((tries e ≤ b) × (elim c [ true ↦ ended e | false ↦ ran_out b ] ≡ ended e)) ⊎ ((b < tries e) × (elim c [ true ↦ ended e | false ↦ ran_out b ] ≡ ran_out b))
    from true p = inl (leb→le (tries e) b (true_T p), refl)
    from false p = inr (nleb→lt (tries e) b (subst (λ (c : Bool). T (not c)) (sym p) tt), refl)

-- the budget runs out exactly if the search makes more tries than it
pub cap_out : (b : ℕ) (e : End) → b < tries e → cap b e ≡ ran_out b
cap_out b e h = ⊎_elim (λ d. let l : tries e ≤ b = d.0 in let z : ⊥ = omega arith in absurd z) (λ d. d.1) (cap_case b e)

pub cap_in : (b : ℕ) (e : End) → tries e ≤ b → cap b e ≡ ended e
cap_in b e h = ⊎_elim (λ d. d.1) (λ d. let l : b < tries e = d.0 in let z : ⊥ = omega arith in absurd z) (cap_case b e)

pub out_cap : (b c : ℕ) (e : End) → cap b e ≡ ran_out c → (b < tries e) × (c ≡ b)
out_cap b c e p = ⊎_elim (λ d. let q : cap b e ≡ ended e = d.1 in clash (cc)) (λ d. let q : cap b e ≡ ran_out b = d.1 in (d.0, cc)) (cap_case b e)

-- a larger budget changes no answer but "ran out"
pub cap_more : (b c : ℕ) (e g : End) → b ≤ c → cap b e ≡ ended g → cap c e ≡ ended g
cap_more b c e g h p =
    ⊎_elim
    (λ d. let l : tries e ≤ b = d.0 in let q : cap b e ≡ ended e = d.1 in
    ⊎_elim (λ k. let r : cap c e ≡ ended e = k.1 in cc) (λ k. let m : c < tries e = k.0 in let z : ⊥ = omega arith in absurd z) (cap_case c e))
    (λ d. let q : cap b e ≡ ran_out b = d.1 in clash (cc)) (cap_case b e)
