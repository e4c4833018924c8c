-- Whether words are one whole expression, by a count of the operands that are still needed. Assumes nothing.
use mathlib.Core.Path.{◌≡◌, refl, sym, ap, ◌∙◌}
use mathlib.Core.List.{List, [], ◌∷◌}
use Prim.Native.Nat.{ℕ, zero, suc, ◌+◌, ◌-◌, ◌≤◌, ◌<◌}
use native.Mathlib.Nat.{not-suc-le-zero, le_refl}
use native.Mathlib.Numerals.{add-one}
use native.Mathlib.Omega.{arith}
use lib.ListN.{length, get_or, drop, length-drop, drop_of_length-le}
use lib.Seq.{drop-cons}
use Rattle.rules.specs.Expressions.{Code, relation, two, one, unknown, Value, value, malformed, and_then, codes, code, follow, evaluate, expression}
use Rattle.rules.proofs.Expressions.{expression_ends, expression_step}
use Rattle.std.specs.Prelude.{Result, Ok, Err}
use Rattle.expressions.specs.Codes.{operands}
use Rattle.expressions.specs.Found.{scan_found}
use Rattle.expressions.proofs.Codes.{no_code, takes_few}

-- a code goes on with its operands and k expressions more, or fails where it stands for nothing
abbrev go_on : Code → Result (Unit {0}) ℕ → (ℕ → Result (Unit {0}) ℕ) → ℕ → Result (Unit {0}) ℕ
go_on (relation x) s f k = f k
go_on (two g) s f k = f (suc (suc k))
go_on (one g) s f k = f (suc k)
go_on unknown s f k = s

-- what is told of words where this many expressions are needed, one after the other, and no word after them
unfoldable pub needing : ℕ → List ℕ → Result (Unit {0}) ℕ
needing zero [] = Ok tt
needing zero (w ∷ ws) = Err (length (w ∷ ws))
needing (suc k) [] = Err 0
needing (suc k) (w ∷ ws) = go_on (code w) (Err (length (w ∷ ws))) (λ m. needing m ws) k

-- ---- the count tells of the words what their expression does

-- what is told after an expression by what f tells of the words left
abbrev after : Value → (List ℕ → Result (Unit {0}) ℕ) → Result (Unit {0}) ℕ
after (value x rest) f = f rest
after (malformed left) f = Err (length left)

-- the set makes no difference
after_one : (v : Value) (g : ℕ → ℕ) (f : List ℕ → Result (Unit {0}) ℕ) → after v f ≡ after (and_then v (λ x rest. value (g x) rest)) f
after_one (value x rest) g f = refl
after_one (malformed left) g f = refl

-- none is needed of the words after an expression
none_needed : (x : ℕ) (rest : List ℕ) → needing 0 rest ≡ scan_found (value x rest)
unfolding needing
none_needed x [] = refl
none_needed x (w ∷ rest) = refl

-- where k expressions and one more are needed of some words, the first is read, and then k
abbrev OneMore : List ℕ → Type 0
OneMore ws = (k : ℕ) → needing (suc k) ws ≡ after (expression ws) (needing k)

-- a code and its operands, where this holds of the words left and of all that are no more
follow_more : (w : ℕ) (ws : List ℕ) → ((us : List ℕ) → length us ≤ length ws → OneMore us) → (k : ℕ) (c : Code)
    → go_on c (Err (length (w ∷ ws))) (λ m. needing m ws) k ≡ after (follow expression c w ws) (needing k)
unfolding follow
follow_more w ws less k (relation x) = refl
follow_more w ws less k (two f) = less ws (le_refl (length ws)) (suc k) ∙ second (expression ws) refl
  where
    second : (v : Value) → expression ws ≡ v
        → after v (needing (suc k)) ≡ after (and_then v (λ x more. and_then (expression more) (λ y rest. value (f x y) rest))) (needing k)
    second (malformed left) e = refl
    second (value x more) e =
        less more (expression_ends ws x more e).suffix.shorter k ∙ after_one (expression more) (f x) (needing k)
follow_more w ws less k (one f) = less ws (le_refl (length ws)) k ∙ after_one (expression ws) f (needing k)
follow_more w ws less k unknown = refl

one_more : (n : ℕ) (ws : List ℕ) → length ws ≤ n → OneMore ws
unfolding needing expression evaluate
one_more zero [] h k = refl
one_more zero (w ∷ ws) h k = absurd (not-suc-le-zero h)
one_more (suc n) [] h k = refl
one_more (suc n) (w ∷ ws) h k =
    follow_more w ws (λ us l. one_more n us (omega (arith, h, l))) k (code w)
    ∙ sym (ap (λ (v : Value). after v (needing k)) (expression_step w ws))

-- one expression is needed of all the words
pub needing_one : (ws : List ℕ) → needing 1 ws ≡ scan_found (expression ws)
needing_one ws = one_more (length ws) ws (le_refl (length ws)) 0 ∙ told (expression ws)
  where
    told : (v : Value) → after v (needing 0) ≡ scan_found v
    told (value x rest) = none_needed x rest
    told (malformed left) = refl

-- ---- the words from the place i on

-- a code takes as many operands as are counted for it
go_known : (c : Code) (s : Result (Unit {0}) ℕ) (f : ℕ → Result (Unit {0}) ℕ) (k : ℕ) → operands c ≤ 2 → go_on c s f k ≡ f (k + operands c)
go_known (relation x) s f k h = ap f (omega arith)
go_known (two g) s f k h = ap f (omega arith)
go_known (one g) s f k h = ap f (omega arith)
go_known unknown s f k h = let z : ⊥ = omega (arith, h) in absurd z

module _ (ws : List ℕ) (i : ℕ) (more : i < length ws) where
  -- a word that is left where none is needed, or that stands for nothing
  pub needing_over : (k : ℕ) → k ≡ 0 → needing k (drop i ws) ≡ Err (length ws - i)
  unfolding needing
  needing_over k e = rw (e, drop-cons ws i 0 more) (ap Err (omega (arith, length-drop (suc i) ws)))

  pub needing_unknown : (k w : ℕ) → w ≡ get_or ws i 0 → length codes ≤ w → needing k (drop i ws) ≡ Err (length ws - i)
  unfolding needing
  needing_unknown zero w at h = needing_over 0 refl
  needing_unknown (suc k) w at h =
      rw (drop-cons ws i 0 more, ← at, no_code w h) (ap Err (omega (arith, length-drop (suc i) ws)))

  -- a code is one of those needed, and needs its own operands
  pub needing_next : (k w : ℕ) → (k ≡ 0 → ⊥) → w ≡ get_or ws i 0 → w < length codes
      → needing (k - 1 + operands (code w)) (drop (i + 1) ws) ≡ needing k (drop i ws)
  unfolding needing
  needing_next zero w some at h = absurd (some refl)
  needing_next (suc k) w some at h =
      let e : suc k - 1 ≡ k = omega arith in
      rw (add-one i, e, drop-cons ws i 0 more, ← at) (sym (go_known (code w) _ (λ m. needing m (drop (suc i) ws)) k (takes_few w h)))

-- after the last word
pub needing_none : (ws : List ℕ) (i : ℕ) → length ws ≤ i → (k : ℕ) → k ≡ 0 → needing k (drop i ws) ≡ Ok tt
unfolding needing
needing_none ws i end k e = rw (e, drop_of_length-le ws end)

pub needing_some : (ws : List ℕ) (i : ℕ) → length ws ≤ i → (k : ℕ) → (k ≡ 0 → ⊥) → needing k (drop i ws) ≡ Err 0
unfolding needing
needing_some ws i end zero some = absurd (some refl)
needing_some ws i end (suc k) some = rw (drop_of_length-le ws end)
