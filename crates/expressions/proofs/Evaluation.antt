-- What `evaluate` gives at each of its ends: an expression by the code at its front and what its operands are found to be. Assumes nothing.
use mathlib.Core.Path.{◌≡◌, refl, sym, ap, ◌∙◌, subst}
use mathlib.Core.List.{List, [], ◌∷◌}
use Prim.Native.Nat.{ℕ, ◌+◌, ◌-◌, ◌≤◌, ◌<◌}
use native.Mathlib.Nat.{pos_of_ne-zero}
use native.Mathlib.Omega.{arith}
use lib.ListN.{length, get_or, drop, length-drop}
use lib.Seq.{drop-drop}
use Rattle.rules.specs.Relations.{set_limit}
use Rattle.rules.specs.Expressions.{Code, relation, two, one, unknown, Value, value, malformed, code, follow, evaluate, expression}
use Rattle.rules.proofs.Parts.{Suffix}
use Rattle.rules.proofs.Expressions.{Ends, expression_ends, expression_step}
use Rattle.std.specs.Prelude.{Result, Err}
use Rattle.expressions.specs.Codes.{operands}
use Rattle.expressions.specs.Found.{found, expression_found}
use Rattle.rules.proofs.Tests.{clash}

-- what is found at the front of some words
abbrev pub Finds : List ℕ → Result (ℕ × ℕ) ℕ → Type 0
Finds ws e = e ≡ expression_found (expression ws)

-- a set that is found, and the words after it
pub record Operand (ws : List ℕ) (x n : ℕ) : Type 0 where
  pub rest : List ℕ
  pub reads : expression ws ≡ value x rest
  pub left : length rest ≡ n
  pub small : x < set_limit
  pub suffix : Suffix ws rest

pub operand : (ws : List ℕ) (x n : ℕ) → Finds ws (found x n) → Operand ws x n
operand ws x n p = go (expression ws) refl p
  where
    go : (v : Value) → expression ws ≡ v → found x n ≡ expression_found v → Operand ws x n
    go (malformed left) e q = clash (cc)
    go (value y rest) e q =
        let same : ◌≡◌ {A = ℕ × ℕ} (x, n) (y, length rest) = cc in
        let f : y ≡ x = sym (ap (λ (p : ℕ × ℕ). p.0) same) in
        let l : length rest ≡ n = sym (ap (λ (p : ℕ × ℕ). p.1) same) in
        let d : Ends ws y rest = expression_ends ws y rest e in
        record {
          rest = rest;
          reads = e ∙ ap (λ (z : ℕ). value z rest) f;
          left = l;
          small = subst (λ (z : ℕ). z < set_limit) f d.small;
          suffix = d.suffix;
        }

-- no set is found, and the words from where it fails
pub no_operand : (ws : List ℕ) (n : ℕ) → Finds ws (Err n) → (left : List ℕ) × (expression ws ≡ malformed left) × (length left ≡ n)
no_operand ws n p = go (expression ws) p
  where
    go : (v : Value) → Err n ≡ expression_found v → (left : List ℕ) × (v ≡ malformed left) × (length left ≡ n)
    go (malformed left) q = (left, refl, cc)
    go (value y rest) q = clash (cc)

-- ---- what is found, by the words

pub finds_nothing : (ws : List ℕ) → length ws ≡ 0 → Finds ws (Err 0)
unfolding expression evaluate
finds_nothing [] h = refl
finds_nothing (w ∷ ws) h = let z : ⊥ = omega arith in absurd z

-- some words, by what the code at their front stands for and the words left
module _ (ws : List ℕ) (some : length ws ≡ 0 → ⊥) where
  front : (us : List ℕ) → (length us ≡ 0 → ⊥) → expression us ≡ follow expression (code (get_or us 0 0)) (get_or us 0 0) (drop 1 us)
  front [] h = absurd (h refl)
  front (w ∷ us) h = expression_step w us

  by_code : (c : Code) → code (get_or ws 0 0) ≡ c → (e : Result (ℕ × ℕ) ℕ) → e ≡ expression_found (follow expression c (get_or ws 0 0) (drop 1 ws)) → Finds ws e
  by_code c p e q = q ∙ sym (ap expression_found (front ws some ∙ ap (λ (c : Code). follow expression c (get_or ws 0 0) (drop 1 ws)) p))

  pub finds_relation : (x : ℕ) → code (get_or ws 0 0) ≡ relation x → Finds ws (found x (length ws - 1))
  unfolding follow
  finds_relation x p = by_code (relation x) p (found x (length ws - 1)) (ap (found x) (sym (length-drop 1 ws)))

  pub finds_unknown : code (get_or ws 0 0) ≡ unknown → Finds ws (Err (length ws))
  unfolding follow
  finds_unknown p = by_code unknown p (Err (length ws)) (ap Err (omega (arith, length-drop 1 ws, pos_of_ne-zero some)))

  -- an operator's first operand fails
  pub finds_no_first : (c : Code) → code (get_or ws 0 0) ≡ c → (operands c ≡ 0 → ⊥) → operands c ≤ 2 → (n : ℕ) → Finds (drop 1 ws) (Err n)
      → Finds ws (Err n)
  unfolding follow
  finds_no_first c p h k n q = let (left, fails, many) = no_operand (drop 1 ws) n q in by_code c p (Err n) (go left fails many c h k)
    where
      go : (left : List ℕ) → expression (drop 1 ws) ≡ malformed left → length left ≡ n → (c : Code) → (operands c ≡ 0 → ⊥) → operands c ≤ 2
          → Err n ≡ expression_found (follow expression c (get_or ws 0 0) (drop 1 ws))
      go left fails many (relation x) h k = absurd (h refl)
      go left fails many (two f) h k = rw fails (ap Err (sym many))
      go left fails many (one f) h k = rw fails (ap Err (sym many))
      go left fails many unknown h k = let z : ⊥ = omega (arith, k) in absurd z

  module _ (x n : ℕ) (first : Finds (drop 1 ws) (found x n)) where
    pub read_first : Operand (drop 1 ws) x n
    read_first = operand (drop 1 ws) x n first

    pub finds_one : (f : ℕ → ℕ) → code (get_or ws 0 0) ≡ one f → Finds ws (found (f x) n)
    unfolding follow
    finds_one f p = by_code (one f) p (found (f x) n) (rw read_first.reads (ap (found (f x)) (sym read_first.left)))

    -- the second operand stands where the words after the first begin
    pub second_at : (n < length ws) × (drop (length ws - n) ws ≡ read_first.rest)
    second_at =
        let l : length (drop 1 ws) ≡ length ws - 1 = length-drop 1 ws in
        let k : length read_first.rest ≤ length (drop 1 ws) = read_first.suffix.shorter in
        let m : length read_first.rest ≡ n = read_first.left in
        let s : 0 < length ws = pos_of_ne-zero some in
        let e : length ws - n ≡ 1 + (length (drop 1 ws) - length read_first.rest) = omega arith in (
          omega arith,
          ap (λ (k : ℕ). drop k ws) e ∙ sym (drop-drop (length (drop 1 ws) - length read_first.rest) 1 ws) ∙ read_first.suffix.end,
        )

    pub finds_no_second : (f : ℕ → ℕ → ℕ) → code (get_or ws 0 0) ≡ two f → (m : ℕ) → Finds (drop (length ws - n) ws) (Err m) → Finds ws (Err m)
    unfolding follow
    finds_no_second f p m q =
        let (left, fails, many) = no_operand (drop (length ws - n) ws) m q in
        by_code (two f) p (Err m) (rw (read_first.reads, ap expression (sym second_at.1) ∙ fails) (ap Err (sym many)))

    module _ (y m : ℕ) (second : Finds (drop (length ws - n) ws) (found y m)) where
      pub finds_two : (f : ℕ → ℕ → ℕ) → code (get_or ws 0 0) ≡ two f → Finds ws (found (f x y) m)
      unfolding follow
      finds_two f p =
          let o : Operand (drop (length ws - n) ws) y m = operand (drop (length ws - n) ws) y m second in
          by_code (two f) p (found (f x y) m) (rw (read_first.reads, ap expression (sym second_at.1) ∙ o.reads) (ap (found (f x y)) (sym o.left)))
