-- The search takes the first pair of the table at hand whose cell has several relations, as 01 says it: to go on from a place is to start over,
-- since all places before it stay single. Assumes nothing.
use mathlib.Core.Path.{◌≡◌, refl, sym, ap, ap₂, ◌∙◌}
use mathlib.Core.Bool.{Bool, true, false}
use mathlib.Core.List.Memᴰ
use mathlib.Core.List.{List, [], ◌∷◌, ◌++◌, append_assoc}
use Prim.Native.Nat.{ℕ, ◌^◌, ◌≤◌, ◌<◌}
use native.Mathlib.Omega.{arith}
use lib.Dec.{T, ltb, lt→ltb, ltb→lt}
use lib.ListN.{length, get_or, set}
use Rattle.rules.specs.Relations.{has, size}
use Rattle.rules.specs.Descriptions.{Sheet}
use Rattle.rules.specs.Tables.{Table, Inside, emptied}
use Rattle.rules.specs.Search.{End, none, proceed, or_else, attempt, choose}
use Rattle.rules.proofs.Tests.{true_T}
use Rattle.rules.proofs.Members.{All, all_one, all_append}
use Rattle.rules.proofs.Narrowing.{narrowed_table, narrowed_one, narrowed_kept}
use Rattle.rules.proofs.Choices.{Closes}

-- the cells at these places have at most one relation
abbrev pub Settled : List ℕ → List ℕ → Type 0
Settled t ks = All (λ k. size (get_or t k 0) ≤ 1) ks

module _ (clo : List ℕ → List ℕ) (ord : List ℕ) where
  -- settled places are passed over
  pub choose_skip : (js ks t : List ℕ) → Settled t js → choose clo ord (js ++ ks) t ≡ choose clo ord ks t
  unfolding choose
  choose_skip [] ks t h = refl
  choose_skip (j ∷ js) ks t h =
      go (ltb 1 (size (get_or t j 0))) (λ a. let l : 1 < size (get_or t j 0) = ltb→lt 1 (size (get_or t j 0)) a in let m : size (get_or t j 0) ≤ 1 = h j (Memᴰ.head refl) in omega arith)
      (choose_skip js ks t (λ k m. h k (Memᴰ.tail m)))
    where
      go : (b : Bool) → (T b → ⊥) → choose clo ord (js ++ ks) t ≡ choose clo ord ks t
          → ◌≡◌ {A = End} (elim b [ true ↦ attempt clo (λ u. choose clo ord (js ++ ks) u) j t ord | false ↦ choose clo ord (js ++ ks) t ]) (choose clo ord ks t)
      go true n e = absurd (n tt)
      go false n e = e

  pub choose_first : (k : ℕ) (ks t : List ℕ) → 1 < size (get_or t k 0) → choose clo ord (k ∷ ks) t ≡ attempt clo (λ u. choose clo ord ks u) k t ord
  unfolding choose
  choose_first k ks t h = go (ltb 1 (size (get_or t k 0))) (lt→ltb 1 (size (get_or t k 0)) h)
    where
      go : (b : Bool) → T b
          → ◌≡◌ {A = End} (elim b [ true ↦ attempt clo (λ u. choose clo ord ks u) k t ord | false ↦ choose clo ord ks t ]) (attempt clo (λ u. choose clo ord ks u) k t ord)
      go true a = refl
      go false a = absurd a

-- tries that go on alike end alike
attempt_same : (clo : List ℕ → List ℕ) (go to : List ℕ → End) (k : ℕ) (t rs : List ℕ)
    → ((r : ℕ) → T (has (get_or t k 0) r) → go (clo (set t k (2 ^ r))) ≡ to (clo (set t k (2 ^ r))))
    → attempt clo go k t rs ≡ attempt clo to k t rs
unfolding attempt
attempt_same clo go to k t [] h = refl
attempt_same clo go to k t (r ∷ rs) h = from (has (get_or t k 0) r) refl (attempt_same clo go to k t rs h)
  where
    proceeds : (b : Bool) → go (clo (set t k (2 ^ r))) ≡ to (clo (set t k (2 ^ r)))
        → ◌≡◌ {A = End} (elim b [ true ↦ none 0 | false ↦ go (clo (set t k (2 ^ r))) ]) (elim b [ true ↦ none 0 | false ↦ to (clo (set t k (2 ^ r))) ])
    proceeds true e = refl
    proceeds false e = e

    from : (b : Bool) → has (get_or t k 0) r ≡ b → attempt clo go k t rs ≡ attempt clo to k t rs
        → ◌≡◌ {A = End} (elim b [ true ↦ or_else (proceed go (clo (set t k (2 ^ r)))) (attempt clo go k t rs) | false ↦ attempt clo go k t rs ])
        (elim b [ true ↦ or_else (proceed to (clo (set t k (2 ^ r)))) (attempt clo to k t rs) | false ↦ attempt clo to k t rs ])
    from true e p = ap₂ or_else (proceeds (emptied (clo (set t k (2 ^ r)))) (h r (true_T e))) p
    from false e p = p

-- In a closed search the first pair with several relations is tried, and each try starts over at the first pair of its own table.
module _ {s : Sheet} {clo : List ℕ → List ℕ} (closes : Closes s clo) (ord : List ℕ) (js : List ℕ) (k : ℕ) (ks : List ℕ)
    {t : List ℕ} (h : Table s.boards t) (valid : k < length t) (before : Settled t js)
  where
    settled : (r : ℕ) → T (has (get_or t k 0) r) → Settled (clo (set t k (2 ^ r))) (js ++ (k ∷ []))
    settled r m =
        let i : Inside (clo (set t k (2 ^ r))) (set t k (2 ^ r)) = (closes (set t k (2 ^ r)) (narrowed_table h k r m)).inside in
        all_append (λ j. size (get_or (clo (set t k (2 ^ r))) j 0) ≤ 1) js (λ j n. narrowed_kept h k r m i j (before j n))
        (all_one (λ j. size (get_or (clo (set t k (2 ^ r))) j 0) ≤ 1) (narrowed_one h k r m i valid))

    pub starts_over : 1 < size (get_or t k 0)
        → choose clo ord (js ++ (k ∷ ks)) t ≡ attempt clo (λ u. choose clo ord (js ++ (k ∷ ks)) u) k t ord
    starts_over several =
        choose_skip clo ord js (k ∷ ks) t before ∙ choose_first clo ord k ks t several
        ∙ attempt_same clo (λ u. choose clo ord ks u) (λ u. choose clo ord (js ++ (k ∷ ks)) u) k t ord
        (λ r m.
        sym
        (ap (λ (l : List ℕ). choose clo ord l (clo (set t k (2 ^ r)))) (sym (append_assoc js (k ∷ []) ks))
        ∙ choose_skip clo ord (js ++ (k ∷ [])) ks (clo (set t k (2 ^ r))) (settled r m)))
