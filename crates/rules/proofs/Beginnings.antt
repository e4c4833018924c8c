-- An expression is refused with 5, at the end of the longest beginning of its words that some expression begins with. Assumes nothing.
use mathlib.Core.Path.{◌≡◌, refl, sym, ap, ◌∙◌, subst}
use mathlib.Core.Logic.{⊎_elim}
use mathlib.Core.List.Memᴰ
use mathlib.Core.List.{List, [], ◌∷◌, ◌++◌, append_assoc, append-nil, Memᴰ}
use Prim.Native.Nat.{ℕ, zero, suc, ◌+◌, ◌-◌, ◌≤◌, ◌<◌}
use native.Mathlib.Nat.{not-suc-le-zero, le_of_suc-le-suc, lt_of_not-le, le_refl}
use native.Mathlib.Omega.{arith}
use lib.ListN.{length, get_or, take, length-append}
use lib.Seq.{take-append_seam, take-append-add}
use Rattle.rules.specs.Relations.{join, meet, complement, converse}
use Rattle.rules.specs.Expressions.{two, one, codes, code, Value, value, malformed, and_then, follow, evaluate, expression, Phrase, only_e, only_a, only_b, only_s, union_of, intersection_of, complement_of, inverse_of, written, denoted, Begins, Longest}
use Rattle.rules.specs.Descriptions.{Reading, refused, meaning}
use Rattle.rules.proofs.Expressions.{written_evaluate, evaluate_written, written_expression}
use Rattle.rules.proofs.Tests.{clash}

-- ---- the longest beginning ends before a word that no expression has there

-- no expression begins with the words us and the first of those left
abbrev Stops : List ℕ → List ℕ → Type 0
Stops us left = (w : ℕ) (rest : List ℕ) → left ≡ w ∷ rest → (e : Phrase) (more : List ℕ) → written e ≡ us ++ (w ∷ more) → ⊥

-- a beginning that is longer than us has the first of the words left
longer : (us rest : List ℕ) (w j : ℕ) → length us < j → take j (us ++ (w ∷ rest)) ≡ us ++ (w ∷ take (j - suc (length us)) rest)
longer us rest w j h =
    let i : j ≡ length us + suc (j - suc (length us)) = omega arith in
    ap (λ (k : ℕ). take k (us ++ (w ∷ rest))) i ∙ take-append-add us (w ∷ rest) (suc (j - suc (length us)))

-- so no expression begins with it
no_longer : (us left : List ℕ) → Stops us left → (j : ℕ) → j ≤ length (us ++ left) → Begins (take j (us ++ left)) → j ≤ length us
no_longer us [] s j h b = omega (arith, length-append us [])
no_longer us (w ∷ rest) s j h (e, more, p) = le_of_suc-le-suc (lt_of_not-le past)
  where
    past : length us < j → ⊥
    past l = s w rest refl e _ (p ∙ ap (λ (vs : List ℕ). vs ++ more) (longer us rest w j l) ∙ append_assoc us _ more)

-- the words us are the longest beginning
longest_at : (us left : List ℕ) → Begins us → Stops us left → Longest (us ++ left) (length us)
longest_at us left b s = record {
  within = omega (arith, length-append us left);
  begins = rw take-append_seam b;
  longest = no_longer us left s;
}

-- a refusal with 5 at the words left is at its end
place : {ws : List ℕ} (us left : List ℕ) (n k : ℕ) → ws ≡ us ++ left → ◌≡◌ {A = Reading ℕ} (refused 5 (length ws - length left)) (refused n k)
    → Begins us → Stops us left → (n ≡ 5) × Longest ws k
place {ws} us left n k words r b s =
    let d : length ws - length left ≡ k = cc in
    let e : length us ≡ k = omega (arith, ap length words, length-append us left) in
    (cc, rw (words, ← e) (longest_at us left b s))

-- ---- an expression is not the beginning of another

-- no expression begins with another and a word after it: reading it to its end leaves no word
written_stops : (a : Phrase) (left : List ℕ) → Stops (written a) left
unfolding expression
written_stops a left w rest l e more p =
    let fits : length (written a) ≤ length (written e) = omega (arith, ap length p, length-append (written a) (w ∷ more)) in
    let q : expression (written e) ≡ value (denoted a) (w ∷ more) = ap (evaluate (length (written e))) p ∙ written_evaluate a (w ∷ more) _ fits in
    clash (cc (written_expression e))

-- ---- the words of an expression are codes, below 8

-- an operator and the words of its two operands
below : {w : ℕ} (c : ℕ) (us vs : List ℕ) → c < 8 → (Memᴰ w us → w < 8) → (Memᴰ w vs → w < 8) → Memᴰ w (c ∷ (us ++ vs)) → w < 8
below c us vs h f g m = ⊎_elim (λ e. omega arith) (λ n. ⊎_elim f g (Memᴰ.append_cases us n)) (Memᴰ.cases_cons m)

-- the words of each phrase
written_below : {w : ℕ} (e : Phrase) → Memᴰ w (written e) → w < 8
unfolding written
written_below only_e m = omega (arith, Memᴰ.eq_of_singleton m)
written_below only_a m = omega (arith, Memᴰ.eq_of_singleton m)
written_below only_b m = omega (arith, Memᴰ.eq_of_singleton m)
written_below only_s m = omega (arith, Memᴰ.eq_of_singleton m)
written_below (union_of a b) m = below 4 (written a) (written b) (omega arith) (written_below a) (written_below b) m
written_below (intersection_of a b) m = below 5 (written a) (written b) (omega arith) (written_below a) (written_below b) m
written_below (complement_of a) m = ⊎_elim (λ e. omega arith) (written_below a) (Memᴰ.cases_cons m)
written_below (inverse_of a) m = ⊎_elim (λ e. omega arith) (written_below a) (Memᴰ.cases_cons m)

-- ---- words with no expression at their front

-- they begin as some expression does, up to the words left: none, or the first of them is no code
record Broken (ws left : List ℕ) : Type 0 where
  us : List ℕ
  words : ws ≡ us ++ left
  begins : Begins us
  none : 8 ≤ get_or left 0 8

-- no expression goes on with that word
broken_stops : {ws left : List ℕ} (r : Broken ws left) → Stops r.us left
broken_stops r w rest l e more p =
    let h : w < 8 = written_below e (subst (Memᴰ w) (sym p) (Memᴰ.append_right r.us (Memᴰ.head refl))) in
    omega (arith, ap (λ (vs : List ℕ). get_or vs 0 8) l)

-- at the very front: there is no word, or the first is no code
broken_here : {ws left : List ℕ} → 8 ≤ get_or ws 0 8 → malformed ws ≡ malformed left → Broken ws left
broken_here {ws} {left} h p =
    let l : ws ≡ left = cc in
    record { us = []; words = l; begins = (only_e, written only_e, refl); none = subst (λ (vs : List ℕ). 8 ≤ get_or vs 0 8) l h }

-- in an operand: a phrase that begins as the operand does has its place in a phrase of the whole, after the words front
broken_in : {ws left : List ℕ} (front after : List ℕ) (whole : Phrase → Phrase) → ((e : Phrase) → written (whole e) ≡ front ++ (written e ++ after))
    → Broken ws left → Broken (front ++ ws) left
broken_in {ws} {left} front after whole h r =
    let (e, more, p) = r.begins in
    record {
      us = front ++ r.us;
      words = rw append_assoc (ap (λ (l : List ℕ). front ++ l) r.words);
      begins = (whole e, more ++ after, h e ∙ ap (λ (l : List ℕ). front ++ (l ++ after)) p ∙ simp append_assoc);
      none = r.none;
    }

-- an expression that is read is not malformed
impossible : {X : Type 0} {x : ℕ} {rest : List ℕ} (left : List ℕ) → value x rest ≡ malformed left → X
impossible left p = clash (cc)

-- what is shown of the operands, by the words that they are allowed, is shown of the whole
module _ (n : ℕ) (left : List ℕ) (operand : (ws : List ℕ) → length ws ≤ n → evaluate n ws ≡ malformed left → Broken ws left) where
  -- an operator c with one operand fails where this does
  broken_one : (c : ℕ) (f : ℕ → ℕ) (ws : List ℕ) (whole : Phrase → Phrase) → ((a : Phrase) → written (whole a) ≡ c ∷ written a) → length ws ≤ n
      → follow (λ l. evaluate n l) (one f) c ws ≡ malformed left → Broken (c ∷ ws) left
  unfolding follow
  broken_one c f ws whole h l p = go (evaluate n ws) refl p
    where
      go : (v : Value) → evaluate n ws ≡ v → and_then v (λ x rest. value (f x) rest) ≡ malformed left → Broken (c ∷ ws) left
      go (malformed rest) e q = broken_in (c ∷ []) [] whole (λ a. rw append-nil (h a)) (operand ws l (e ∙ q))
      go (value x rest) e q = impossible left q

  -- an operator c with two operands fails where the first does, and E completes it; or where the second does, after the first's words
  broken_two : (c : ℕ) (f : ℕ → ℕ → ℕ) (ws : List ℕ) (whole : Phrase → Phrase → Phrase) → ((a b : Phrase) → written (whole a b) ≡ c ∷ (written a ++ written b))
      → length ws ≤ n → follow (λ l. evaluate n l) (two f) c ws ≡ malformed left → Broken (c ∷ ws) left
  unfolding follow
  broken_two c f ws whole h l p = go (evaluate n ws) refl p
    where
      go : (v : Value) → evaluate n ws ≡ v → and_then v (λ x more. and_then (evaluate n more) (λ y rest. value (f x y) rest)) ≡ malformed left
          → Broken (c ∷ ws) left
      go (malformed rest) e q = broken_in (c ∷ []) (written only_e) (λ a. whole a only_e) (λ a. h a only_e) (operand ws l (e ∙ q))
      go (value x more) e q = second (evaluate n more) refl q
        where
          second : (v : Value) → evaluate n more ≡ v → and_then v (λ y rest. value (f x y) rest) ≡ malformed left → Broken (c ∷ ws) left
          second (malformed rest) d r =
              let t = evaluate_written n ws x more e in
              let a = t.phrase in
              let fits : length more ≤ n = omega (arith, ap length t.words, length-append (written a) more) in
              rw t.words (broken_in (c ∷ written a) [] (whole a) (λ b. rw append-nil (h a b)) (operand more fits (d ∙ r)))
          second (value y rest) d r = impossible left r

-- the words before the place of a failure begin some expression, by the first code
evaluate_broken : (n : ℕ) (ws left : List ℕ) → length ws ≤ n → evaluate n ws ≡ malformed left → Broken ws left
unfolding evaluate code codes follow written
evaluate_broken zero [] left h p = broken_here (omega arith) p
evaluate_broken zero (w ∷ ws) left h p = absurd (not-suc-le-zero h)
evaluate_broken (suc n) [] left h p = broken_here (omega arith) p
evaluate_broken (suc n) (zero ∷ ws) left h p = impossible left p
evaluate_broken (suc n) (suc zero ∷ ws) left h p = impossible left p
evaluate_broken (suc n) (suc (suc zero) ∷ ws) left h p = impossible left p
evaluate_broken (suc n) (suc (suc (suc zero)) ∷ ws) left h p = impossible left p
evaluate_broken (suc n) (suc (suc (suc (suc zero))) ∷ ws) left h p =
    broken_two n left (λ us. evaluate_broken n us left) 4 join ws union_of (λ a b. refl) (le_of_suc-le-suc h) p
evaluate_broken (suc n) (suc (suc (suc (suc (suc zero)))) ∷ ws) left h p =
    broken_two n left (λ us. evaluate_broken n us left) 5 meet ws intersection_of (λ a b. refl) (le_of_suc-le-suc h) p
evaluate_broken (suc n) (suc (suc (suc (suc (suc (suc zero))))) ∷ ws) left h p =
    broken_one n left (λ us. evaluate_broken n us left) 6 complement ws complement_of (λ a. refl) (le_of_suc-le-suc h) p
evaluate_broken (suc n) (suc (suc (suc (suc (suc (suc (suc zero)))))) ∷ ws) left h p =
    broken_one n left (λ us. evaluate_broken n us left) 7 converse ws inverse_of (λ a. refl) (le_of_suc-le-suc h) p
evaluate_broken (suc n) (suc (suc (suc (suc (suc (suc (suc (suc w))))))) ∷ ws) left h p = broken_here (omega arith) p

-- ---- the place of a refused expression

-- an expression is refused with 5, after the longest beginning: at a word left over, or where it breaks off
pub meaning_place : (ws : List ℕ) (n k : ℕ) → meaning (length ws) (expression ws) ≡ refused n k → (n ≡ 5) × Longest ws k
unfolding expression
meaning_place ws n k p = go (expression ws) refl p
  where
    go : (v : Value) → expression ws ≡ v → meaning (length ws) v ≡ refused n k → (n ≡ 5) × Longest ws k
    go (value x []) e q = clash (cc)
    go (value x (w ∷ rest)) e q =
        let r = evaluate_written (length ws) ws x (w ∷ rest) e in
        place (written r.phrase) (w ∷ rest) n k r.words q (r.phrase, [], sym (append-nil (written r.phrase))) (written_stops r.phrase (w ∷ rest))
    go (malformed left) e q =
        let r = evaluate_broken (length ws) ws left (le_refl (length ws)) e in place r.us left n k r.words q r.begins (broken_stops r)

-- where it breaks off there are at most all words left
pub expression_broken : (ws left : List ℕ) → expression ws ≡ malformed left → length left ≤ length ws
unfolding expression
expression_broken ws left e =
    let r = evaluate_broken (length ws) ws left (le_refl (length ws)) e in omega (arith, ap length r.words, length-append r.us left)
