-- The codes by how many operands they take: what such a code stands for, and which codes there are. Assumes nothing.
use mathlib.Core.Path.{◌≡◌, refl, sym, ap, ◌∙◌}
use mathlib.Core.Bool.{Bool, true, false, not, ◌||◌}
use borrow.Author.Tests.{eqb-true, eqb-false}
use mathlib.Core.Logic.{⊎_elim}
use Prim.Native.Nat.{ℕ, zero, suc, ◌+◌, ◌*◌, ◌/◌, ◌%◌, ◌^◌, ◌≤◌, ◌<◌}
use native.Mathlib.Omega.{arith}
use lib.Dec.{T, eqb, eqb→eq}
use lib.ListN.{length, get_or-eq_default}
use Rattle.rules.specs.Relations.{each_below}
use Rattle.rules.specs.Expressions.{Code, relation, two, one, unknown, codes, code}
use Rattle.rules.proofs.Tests.{T-or, T-differ, each_at}
use Rattle.expressions.specs.Codes.{operands, unary, binary}

-- the set that a code stands for: nothing where it stands for none
abbrev pub set : Code → ℕ
set (relation x) = x
set (two f) = 0
set (one f) = 0
set unknown = 0

-- a code made again, by how many operands it takes
abbrev made : ℕ → Code → Code
made zero k = relation (set k)
made (suc zero) k = one (unary k)
made (suc (suc zero)) k = two (binary k)
made (suc (suc (suc n))) k = unknown

remade : (k : Code) → k ≡ made (operands k) k
remade (relation x) = refl
remade (two f) = refl
remade (one f) = refl
remade unknown = refl

module _ (k : Code) where
  pub is_relation : operands k ≡ 0 → k ≡ relation (set k)
  is_relation p = remade k ∙ ap (λ (n : ℕ). made n k) p

  pub is_one : operands k ≡ 1 → k ≡ one (unary k)
  is_one p = remade k ∙ ap (λ (n : ℕ). made n k) p

  pub is_two : operands k ≡ 2 → k ≡ two (binary k)
  is_two p = remade k ∙ ap (λ (n : ℕ). made n k) p

pub no_code : (w : ℕ) → length codes ≤ w → code w ≡ unknown
unfolding code
no_code w h = get_or-eq_default codes unknown h

-- w takes n operands only where it is a or b
abbrev only : ℕ → ℕ → ℕ → ℕ → Bool
only n a b w = not (eqb (operands (code w)) n) || (eqb w a || eqb w b)

module _ (w : ℕ) (listed : w < length codes) where
  -- how many operands it takes, by the bits of the codes with operands, 240, and of those with one, 192
  pub operands_marked : operands (code w) + 192 / 2 ^ w % 2 ≡ 2 * (240 / 2 ^ w % 2)
  unfolding code codes
  operands_marked =
      eqb→eq (operands (code w) + 192 / 2 ^ w % 2) (2 * (240 / 2 ^ w % 2))
      (each_at (length codes) (λ w. eqb (operands (code w) + 192 / 2 ^ w % 2) (2 * (240 / 2 ^ w % 2))) tt w listed)

  pub takes_few : operands (code w) ≤ 2
  takes_few = omega (arith, operands_marked)

  -- by the two tests of bits: it takes none; or one, or two
  pub takes_none : {b : Bool} → b ≡ eqb (240 / 2 ^ w % 2) 1 → b ≡ false → operands (code w) ≡ 0
  takes_none {b} said e = omega (arith, operands_marked, eqb-false (240 / 2 ^ w % 2) 1 (sym said ∙ e))

  module _ {b : Bool} (said : b ≡ eqb (240 / 2 ^ w % 2) 1) (some : b ≡ true) where
    takes-marked : operands (code w) + 192 / 2 ^ w % 2 ≡ 2
    takes-marked = omega (arith, operands_marked, eqb-true (240 / 2 ^ w % 2) 1 (sym said ∙ some))

    pub takes_some : operands (code w) ≡ 0 → ⊥
    takes_some e = let z : ⊥ = omega (arith, takes-marked, e) in z

    pub takes_one : {d : Bool} → d ≡ eqb (192 / 2 ^ w % 2) 1 → d ≡ true → operands (code w) ≡ 1
    takes_one {d} told e = omega (arith, takes-marked, eqb-true (192 / 2 ^ w % 2) 1 (sym told ∙ e))

    pub takes_two : {d : Bool} → d ≡ eqb (192 / 2 ^ w % 2) 1 → d ≡ false → operands (code w) ≡ 2
    takes_two {d} told e = omega (arith, takes-marked, eqb-false (192 / 2 ^ w % 2) 1 (sym told ∙ e))

  -- where no codes but a and b take n operands, one that does and is not a is b
  pub other : (n a b : ℕ) → T (each_below (length codes) (only n a b)) → operands (code w) ≡ n → (w ≡ a → ⊥) → w ≡ b
  other n a b t p q =
      ⊎_elim (λ u. absurd (T-differ u p)) (λ u. ⊎_elim (λ u. absurd (q (eqb→eq w a u))) (λ u. eqb→eq w b u) (T-or (eqb w a) (eqb w b) u))
      (T-or (not (eqb (operands (code w)) n)) (eqb w a || eqb w b) (each_at (length codes) (only n a b) t w listed))
