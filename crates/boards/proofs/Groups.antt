-- Boards that are the same have one chief, the least of them: a number for each place that has boards.
-- Assumes nothing.
use mathlib.Core.Path.{◌≡◌, refl, ap, ◌∙◌, subst}
use mathlib.Core.Bool.{Bool, true, false}
use mathlib.Core.List.{List}
use Prim.Native.Nat.{ℕ, zero, suc, ◌≤◌, ◌<◌}
use native.Mathlib.Omega.{arith}
use lib.Dec.{T, eqb, eqb→eq}
use Rattle.rules.specs.Relations.{E}
use Rattle.rules.specs.Descriptions.{Sheet}
use Rattle.rules.specs.Tables.{at}
use Rattle.rules.specs.Arrangements.{Arrangement}
use Rattle.rules.proofs.Tests.{T_true, true_T}
use Rattle.boards.proofs.Order.{same_turned, same_trans, same_columns}

-- the least number below n at which f passes; n where none does
unfoldable pub first_below : ℕ → (ℕ → Bool) → ℕ
first_below zero f = 0
first_below (suc n) f = elim (f 0) [ true ↦ 0 | false ↦ suc (first_below n (λ i. f (suc i))) ]

-- where some number below n passes, the least one passes and is not above it
first_in : (n : ℕ) (f : ℕ → Bool) (i : ℕ) → i < n → T (f i) → (first_below n f ≤ i) × T (f (first_below n f))
unfolding first_below
first_in zero f i h e = let z : ⊥ = omega arith in absurd z
first_in (suc n) f zero h e = let p : f 0 ≡ true = T_true e in rw (p, first_below) (omega arith, e)
first_in (suc n) f (suc i) h e = by (f 0) refl (first_in n (λ j. f (suc j)) i (omega arith) e)
  where
    later : ℕ
    later = first_below n (λ j. f (suc j))

    by : (b : Bool) → f 0 ≡ b → (later ≤ i) × T (f (suc later))
        → (elim b [ true ↦ 0 | false ↦ suc later ] ≤ suc i) × T (f (elim b [ true ↦ 0 | false ↦ suc later ]))
    by true g m = (omega arith, true_T g)
    by false g m = (omega arith, m.1)

first_alike : (n : ℕ) (f g : ℕ → Bool) → ((i : ℕ) → i < n → f i ≡ g i) → first_below n f ≡ first_below n g
unfolding first_below
first_alike zero f g e = refl
first_alike (suc n) f g e =
    ap (λ (b : Bool). elim b [ true ↦ 0 | false ↦ suc (first_below n (λ i. f (suc i))) ]) (e 0 (omega arith))
    ∙ ap (λ (m : ℕ). elim (g 0) [ true ↦ 0 | false ↦ suc m ]) (first_alike n (λ i. f (suc i)) (λ i. g (suc i)) (λ i h. e (suc i) (omega arith)))

-- the least board that is the same as b
unfoldable pub chief : Sheet → List ℕ → ℕ → ℕ
chief s t b = first_below s.boards (λ p. eqb (at s t p b) E)

module _ {s : Sheet} {t : List ℕ} (a : Arrangement s t) where
  found : (p b : ℕ) → p < s.boards → at s t p b ≡ E → (chief s t b ≤ p) × T (eqb (at s t (chief s t b) b) E)
  unfolding chief
  found p b h e = first_in s.boards (λ q. eqb (at s t q b) E) p h (true_T (ap (λ (x : ℕ). eqb x E) e))

  -- no board that is the same as b is below its chief
  pub chief_least : (p b : ℕ) → p < s.boards → at s t p b ≡ E → chief s t b ≤ p
  chief_least p b h e = (found p b h e).0

  pub chief_board : (b : ℕ) → b < s.boards → chief s t b < s.boards
  chief_board b h = omega (arith, chief_least b b h (a.rule1 b h))

  pub chief_same : (b : ℕ) → b < s.boards → at s t (chief s t b) b ≡ E
  chief_same b h = eqb→eq (at s t (chief s t b) b) E (found b b h (a.rule1 b h)).1

  -- boards that are the same have one chief, and no others do
  pub same_chief : (p q : ℕ) → p < s.boards → q < s.boards → at s t p q ≡ E → chief s t p ≡ chief s t q
  unfolding chief
  same_chief p q hp hq e =
      first_alike s.boards (λ i. eqb (at s t i p) E) (λ i. eqb (at s t i q) E) (λ i hi. ap (λ (x : ℕ). eqb x E) (same_columns a i p q hi hp hq e))

  pub chief_equal : (p q : ℕ) → p < s.boards → q < s.boards → chief s t p ≡ chief s t q → at s t p q ≡ E
  chief_equal p q hp hq e =
      same_trans a p (chief s t q) q hp (chief_board q hq) hq
      (subst (λ (n : ℕ). at s t p n ≡ E) e (same_turned a (chief s t p) p (chief_board p hp) hp (chief_same p hp))) (chief_same q hq)
