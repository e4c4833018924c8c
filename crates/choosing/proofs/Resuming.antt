-- What is still to come of a search, as it goes on from a pair to the next and back again. Assumes nothing.
use mathlib.Core.Path.{◌≡◌, refl, sym, ap, ap₂, ◌∙◌}
use mathlib.Core.Bool.{Bool, true, false, not}
use mathlib.Core.List.{List, [], ◌∷◌}
use Prim.Native.Nat.{ℕ, zero, suc, ◌+◌, ◌^◌, ◌<◌}
use native.Mathlib.Nat.{add-zero, zero-add, add_assoc}
use native.Mathlib.Omega.{arith}
use lib.Dec.{T}
use lib.ListN.{length, get_or, set, drop}
use Rattle.rules.specs.Relations.{has}
use Rattle.rules.specs.Tables.{emptied}
use Rattle.rules.specs.Search.{End, found, none, later, proceed, or_else, attempt, choose, places, tries}
use Rattle.rules.proofs.Tests.{true_T}
use Rattle.orders.specs.Orders.{still, pick, unpicked}
use Rattle.choosing.specs.Pairs.{pair_cell}
use Rattle.choosing.specs.Standings.{else_end, stood, trying, resume}

-- ---- ends

pub later_zero : (e : End) → later 0 e ≡ e
later_zero (found n w) = ap (λ (m : ℕ). found m w) (zero-add n)
later_zero (none n) = ap none (zero-add n)

pub later_later : (m n : ℕ) (e : End) → later m (later n e) ≡ later (m + n) e
later_later m n (found k w) = ap (λ (j : ℕ). found j w) (sym (add_assoc m n k))
later_later m n (none k) = ap none (sym (add_assoc m n k))

pub tries_later : (n : ℕ) (e : End) → tries (later n e) ≡ n + tries e
tries_later n (found k w) = refl
tries_later n (none k) = refl

then_later : (n : ℕ) (e f : End) → else_end (later n e) f ≡ later n (else_end e f)
then_later n (found k w) f = refl
then_later n (none k) f = sym (later_later n k f)

pub then_none : (e : End) → else_end e (none 0) ≡ e
then_none (found n w) = refl
then_none (none n) = ap none (add-zero n)

-- a try is counted, and then comes what it comes to
else_then : (e f : End) → or_else e f ≡ later 1 (else_end e f)
else_then (found n w) f = let e : suc n ≡ 1 + n = omega arith in ap (λ (j : ℕ). found j w) e
else_then (none n) f = let e : suc n ≡ 1 + n = omega arith in ap (λ (j : ℕ). later j f) e ∙ sym (later_later 1 n f)

-- ---- tries

module _ (clo : List ℕ → List ℕ) (go : List ℕ → End) (k : ℕ) (t : List ℕ) where
  pub attempt_next : (r : ℕ) (rs : List ℕ) → T (has (get_or t k 0) r)
      → attempt clo go k t (r ∷ rs) ≡ later 1 (else_end (proceed go (clo (set t k (2 ^ r)))) (attempt clo go k t rs))
  unfolding attempt
  attempt_next r rs m = by (has (get_or t k 0) r) m ∙ else_then (proceed go (clo (set t k (2 ^ r)))) (attempt clo go k t rs)
    where
      by : (b : Bool) → T b → elim b [ true ↦ or_else (proceed go (clo (set t k (2 ^ r)))) (attempt clo go k t rs) | false ↦ attempt clo go k t rs ]
          ≡ or_else (proceed go (clo (set t k (2 ^ r)))) (attempt clo go k t rs)
      by true m = refl
      by false m = absurd m

  -- relations that the cell lacks are passed over
  pub attempt_still : (rs : List ℕ) → attempt clo go k t rs ≡ attempt clo go k t (still rs (get_or t k 0))
  unfolding attempt still
  attempt_still [] = refl
  attempt_still (r ∷ rs) = by (has (get_or t k 0) r) refl (attempt_still rs)
    where
      by : (b : Bool) → has (get_or t k 0) r ≡ b → attempt clo go k t rs ≡ attempt clo go k t (still rs (get_or t k 0))
          → elim b [ true ↦ or_else (proceed go (clo (set t k (2 ^ r)))) (attempt clo go k t rs) | false ↦ attempt clo go k t rs ]
          ≡ attempt clo go k t (elim b [ true ↦ r ∷ still rs (get_or t k 0) | false ↦ still rs (get_or t k 0) ])
      by true e p =
          ap (or_else (proceed go (clo (set t k (2 ^ r))))) p
          ∙ sym (attempt_next r (still rs (get_or t k 0)) (true_T e) ∙ sym (else_then (proceed go (clo (set t k (2 ^ r)))) (attempt clo go k t (still rs (get_or t k 0)))))
      by false e p = p

pub proceed_none : (go : List ℕ → End) (u : List ℕ) → T (emptied u) → proceed go u ≡ none 0
proceed_none go u e = by (emptied u) e
  where
    by : (b : Bool) → T b → ◌≡◌ {A = End} (elim b [ true ↦ none 0 | false ↦ go u ]) (none 0)
    by true a = refl
    by false a = absurd a

pub proceed_on : (go : List ℕ → End) (u : List ℕ) → T (not (emptied u)) → proceed go u ≡ go u
proceed_on go u e = by (emptied u) e
  where
    by : (b : Bool) → T (not b) → ◌≡◌ {A = End} (elim b [ true ↦ none 0 | false ↦ go u ]) (go u)
    by true a = absurd a
    by false a = refl

-- ---- what is still to come

pub drop_all : (ks : List ℕ) (i : ℕ) → i ≡ length ks → drop i ks ≡ []
drop_all [] i h = rw h refl
drop_all (k ∷ ks) zero h = let z : ⊥ = omega arith in absurd z
drop_all (k ∷ ks) (suc i) h = drop_all ks i (omega arith)

pub choose_none : (clo : List ℕ → List ℕ) (ord t : List ℕ) → choose clo ord [] t ≡ found 0 t
unfolding choose
choose_none clo ord t = refl

module _ (clo : List ℕ → List ℕ) (ord : List ℕ) (v : ℕ) (first : List ℕ) where
  -- the choices before a pair are all that matters there
  pub stood_same : (cs ds : List ℕ) (i : ℕ) → ((m : ℕ) → m < i → get_or ds m 0 ≡ get_or cs m 0) → stood clo ord v first ds i ≡ stood clo ord v first cs i
  unfolding stood
  stood_same cs ds zero h = refl
  stood_same cs ds (suc i) h =
      ap₂ (λ (t : List ℕ) (c : ℕ). clo (set t (pair_cell v i) (pick ord c))) (stood_same cs ds i (λ m l. h m (omega arith))) (h i (omega arith))

  pub resume_same : (cs ds : List ℕ) (i : ℕ) → ((m : ℕ) → m < i → get_or ds m 0 ≡ get_or cs m 0) → (e : End)
      → resume clo ord v first ds i e ≡ resume clo ord v first cs i e
  unfolding resume
  resume_same cs ds zero h e = refl
  resume_same cs ds (suc i) h e =
      resume_same cs ds i (λ m l. h m (omega arith)) _
      ∙ ap (λ (f : End). resume clo ord v first cs i (else_end e f))
      (ap₂ (λ (t : List ℕ) (c : ℕ). attempt clo (λ u. choose clo ord (drop (suc i) (places v)) u) (pair_cell v i) t (still ord (unpicked ord c)))
      (stood_same cs ds i (λ m l. h m (omega arith))) (h i (omega arith)))

  module _ (cs : List ℕ) where
    abbrev resumed : ℕ → End → End
    resumed i e = resume clo ord v first cs i e

    abbrev tried : ℕ → List ℕ → End
    tried i rs = trying clo ord v first cs i rs

    pub resume_more : (i : ℕ) (e : End) → resumed i (else_end e (tried i (still ord (unpicked ord (get_or cs i 0))))) ≡ resumed (suc i) e
    unfolding resume
    resume_more i e = refl

    pub resume_later : (i n : ℕ) (e : End) → resumed i (later n e) ≡ later n (resumed i e)
    unfolding resume
    resume_later zero n e = refl
    resume_later (suc i) n e = ap (resumed i) (then_later n e _) ∙ resume_later i n _

    pub resume_found : (i n : ℕ) (w : List ℕ) → resumed i (found n w) ≡ found n w
    unfolding resume
    resume_found zero n w = refl
    resume_found (suc i) n w = resume_found i n w

    -- where nothing is left at a pair, what is left at the pair before is tried
    pub resume_back : (i : ℕ) → unpicked ord (get_or cs (suc i) 0) ≡ 0 → still ord 0 ≡ []
        → resumed (suc i) (tried (suc i) (still ord (unpicked ord (get_or cs (suc i) 0)))) ≡ resumed i (tried i (still ord (unpicked ord (get_or cs i 0))))
    unfolding resume attempt
    resume_back i e f =
        ap (λ (rs : List ℕ). resumed (suc i) (tried (suc i) rs)) (ap (still ord) e ∙ f) ∙ ap (resumed i) (later_zero _)

    -- at the first pair there is none before
    pub resume_spent : unpicked ord (get_or cs 0 0) ≡ 0 → still ord 0 ≡ [] → resumed 0 (tried 0 (still ord (unpicked ord (get_or cs 0 0)))) ≡ none 0
    unfolding resume attempt
    resume_spent e f = ap (λ (rs : List ℕ). tried 0 rs) (ap (still ord) e ∙ f)
