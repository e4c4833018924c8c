-- Words mean a set exactly if they write an expression that stands for it; and how many words an evaluation is allowed makes no difference, once
-- they are enough. Assumes nothing.
use mathlib.Core.Path.{◌≡◌, refl, sym, ap, ap₂, ◌∙◌, subst}
use mathlib.Core.List.{List, [], ◌∷◌, ◌++◌, append_assoc, append-nil}
use Prim.Native.Nat.{ℕ, zero, suc, ◌+◌, ◌≤◌, ◌<◌}
use native.Mathlib.Nat.{not-suc-le-zero, le_of_suc-le-suc, le_refl}
use native.Mathlib.Omega.{arith}
use lib.ListN.{length, drop, length-append}
use lib.Seq.{drop_at}
use Rattle.rules.specs.Relations.{relations, set_limit, E, A, B, S, join, meet, complement, converse}
use Rattle.rules.specs.Expressions.{Code, relation, two, one, unknown, codes, code, Value, value, malformed, and_then, follow, evaluate, expression, Phrase, only_e, only_a, only_b, only_s, union_of, intersection_of, complement_of, inverse_of, written, denoted}
use Rattle.rules.proofs.Sets.{set_of_small}
use Rattle.rules.proofs.Parts.{Suffix, drop_suffix}
use Rattle.rules.proofs.Tests.{clash}

-- ---- words that write an expression mean what it stands for

binary : (n : ℕ) (f : ℕ → ℕ → ℕ) (w : ℕ) (ws more rest : List ℕ) (x y : ℕ) → evaluate n ws ≡ value x more → evaluate n more ≡ value y rest
    → follow (λ left. evaluate n left) (two f) w ws ≡ value (f x y) rest
unfolding follow
binary n f w ws more rest x y p q =
    ap (λ (v : Value). and_then v (λ x more. and_then (evaluate n more) (λ y rest. value (f x y) rest))) p
    ∙ ap (λ (v : Value). and_then v (λ y rest. value (f x y) rest)) q

unary : (n : ℕ) (f : ℕ → ℕ) (w : ℕ) (ws rest : List ℕ) (x : ℕ) → evaluate n ws ≡ value x rest
    → follow (λ left. evaluate n left) (one f) w ws ≡ value (f x) rest
unfolding follow
unary n f w ws rest x p = ap (λ (v : Value). and_then v (λ x rest. value (f x) rest)) p

-- where at least one word is allowed, there is one before
allowed : (P : ℕ → Type 0) (k n : ℕ) → suc k ≤ n → ((m : ℕ) → k ≤ m → P (suc m)) → P n
allowed P k zero h f = absurd (not-suc-le-zero h)
allowed P k (suc n) h f = f n (le_of_suc-le-suc h)

-- the operands of two, one after the other
first : (a b : Phrase) (rest : List ℕ) (n : ℕ) → length (written a ++ written b) ≤ n
    → (length (written a) ≤ n → evaluate n (written a ++ (written b ++ rest)) ≡ value (denoted a) (written b ++ rest))
    → evaluate n ((written a ++ written b) ++ rest) ≡ value (denoted a) (written b ++ rest)
first a b rest n h f = rw append_assoc (f (omega (arith, length-append (written a) (written b))))

second : (a b : Phrase) (rest : List ℕ) (n : ℕ) → length (written a ++ written b) ≤ n
    → (length (written b) ≤ n → evaluate n (written b ++ rest) ≡ value (denoted b) rest) → evaluate n (written b ++ rest) ≡ value (denoted b) rest
second a b rest n h f = f (omega (arith, length-append (written a) (written b)))

pub written_evaluate : (e : Phrase) (rest : List ℕ) (n : ℕ) → length (written e) ≤ n → evaluate n (written e ++ rest) ≡ value (denoted e) rest
unfolding evaluate code codes written denoted follow
written_evaluate only_e rest n h = allowed (λ n. evaluate n (0 ∷ rest) ≡ value E rest) 0 n h (λ m g. refl)
written_evaluate only_a rest n h = allowed (λ n. evaluate n (1 ∷ rest) ≡ value A rest) 0 n h (λ m g. refl)
written_evaluate only_b rest n h = allowed (λ n. evaluate n (2 ∷ rest) ≡ value B rest) 0 n h (λ m g. refl)
written_evaluate only_s rest n h = allowed (λ n. evaluate n (3 ∷ rest) ≡ value S rest) 0 n h (λ m g. refl)
written_evaluate (union_of a b) rest n h =
    allowed (λ n. evaluate n (4 ∷ ((written a ++ written b) ++ rest)) ≡ value (join (denoted a) (denoted b)) rest) (length (written a ++ written b)) n h
    (λ m g. binary m join 4 _ _ rest (denoted a) (denoted b) (first a b rest m g (written_evaluate a (written b ++ rest) m))
    (second a b rest m g (written_evaluate b rest m)))
written_evaluate (intersection_of a b) rest n h =
    allowed (λ n. evaluate n (5 ∷ ((written a ++ written b) ++ rest)) ≡ value (meet (denoted a) (denoted b)) rest) (length (written a ++ written b)) n h
    (λ m g. binary m meet 5 _ _ rest (denoted a) (denoted b) (first a b rest m g (written_evaluate a (written b ++ rest) m))
    (second a b rest m g (written_evaluate b rest m)))
written_evaluate (complement_of a) rest n h =
    allowed (λ n. evaluate n (6 ∷ (written a ++ rest)) ≡ value (complement (denoted a)) rest) (length (written a)) n h
    (λ m g. unary m complement 6 (written a ++ rest) rest (denoted a) (written_evaluate a rest m g))
written_evaluate (inverse_of a) rest n h =
    allowed (λ n. evaluate n (7 ∷ (written a ++ rest)) ≡ value (converse (denoted a)) rest) (length (written a)) n h
    (λ m g. unary m converse 7 (written a ++ rest) rest (denoted a) (written_evaluate a rest m g))

-- ---- words that mean a set write an expression that stands for it

-- the expression that the words before rest write, and that stands for x
pub record Reads (ws : List ℕ) (x : ℕ) (rest : List ℕ) : Type 0 where
  pub phrase : Phrase
  pub words : ws ≡ written phrase ++ rest
  pub stands : denoted phrase ≡ x

-- what an operator with two operands came to
record Both (n : ℕ) (f : ℕ → ℕ → ℕ) (ws : List ℕ) (x : ℕ) (rest : List ℕ) : Type 0 where
  more : List ℕ
  y : ℕ
  z : ℕ
  fst : evaluate n ws ≡ value y more
  snd : evaluate n more ≡ value z rest
  both : f y z ≡ x

record Single (n : ℕ) (f : ℕ → ℕ) (ws : List ℕ) (x : ℕ) (rest : List ℕ) : Type 0 where
  y : ℕ
  fst : evaluate n ws ≡ value y rest
  whole : f y ≡ x

never : {X : Type 0} {left : List ℕ} (x : ℕ) (rest : List ℕ) → malformed left ≡ value x rest → X
never x rest p = clash (cc)

both_out : (n : ℕ) (f : ℕ → ℕ → ℕ) (w : ℕ) (ws : List ℕ) (x : ℕ) (rest : List ℕ) → follow (λ left. evaluate n left) (two f) w ws ≡ value x rest
    → Both n f ws x rest
unfolding follow
both_out n f w ws x rest p = go (evaluate n ws) refl p
  where
    go : (v : Value) → evaluate n ws ≡ v → and_then v (λ y more. and_then (evaluate n more) (λ z rest. value (f y z) rest)) ≡ value x rest → Both n f ws x rest
    go (malformed left) e q = never x rest q
    go (value y more) e q = next (evaluate n more) refl q
      where
        next : (u : Value) → evaluate n more ≡ u → and_then u (λ z rest. value (f y z) rest) ≡ value x rest → Both n f ws x rest
        next (malformed left) d r = never x rest r
        next (value z last) d r =
            let l : last ≡ rest = cc in
            record { more = more; y = y; z = z; fst = e; snd = d ∙ ap (value z) l; both = cc }

single_out : (n : ℕ) (f : ℕ → ℕ) (w : ℕ) (ws : List ℕ) (x : ℕ) (rest : List ℕ) → follow (λ left. evaluate n left) (one f) w ws ≡ value x rest
    → Single n f ws x rest
unfolding follow
single_out n f w ws x rest p = go (evaluate n ws) refl p
  where
    go : (v : Value) → evaluate n ws ≡ v → and_then v (λ y rest. value (f y) rest) ≡ value x rest → Single n f ws x rest
    go (malformed left) e q = never x rest q
    go (value y last) e q = let l : last ≡ rest = cc in record { y = y; fst = e ∙ ap (value y) l; whole = cc }

in_turn : (t u : Phrase) {ws more : List ℕ} (rest : List ℕ) → ws ≡ written t ++ more → more ≡ written u ++ rest → ws ≡ (written t ++ written u) ++ rest
in_turn t u rest p q = p ∙ ap (λ (l : List ℕ). written t ++ l) q ∙ sym (append_assoc (written t) (written u) rest)

pub evaluate_written : (n : ℕ) (ws : List ℕ) (x : ℕ) (rest : List ℕ) → evaluate n ws ≡ value x rest → Reads ws x rest
unfolding evaluate code codes follow written denoted
evaluate_written zero ws x rest p = never x rest p
evaluate_written (suc n) [] x rest p = never x rest p
evaluate_written (suc n) (zero ∷ ws) x rest p = record { phrase = only_e; words = ap (λ (l : List ℕ). 0 ∷ l) (cc); stands = cc }
evaluate_written (suc n) (suc zero ∷ ws) x rest p = record { phrase = only_a; words = ap (λ (l : List ℕ). 1 ∷ l) (cc); stands = cc }
evaluate_written (suc n) (suc (suc zero) ∷ ws) x rest p = record { phrase = only_b; words = ap (λ (l : List ℕ). 2 ∷ l) (cc); stands = cc }
evaluate_written (suc n) (suc (suc (suc zero)) ∷ ws) x rest p = record { phrase = only_s; words = ap (λ (l : List ℕ). 3 ∷ l) (cc); stands = cc }
evaluate_written (suc n) (suc (suc (suc (suc zero))) ∷ ws) x rest p =
    let b = both_out n join 4 ws x rest p in
    let t = evaluate_written n ws b.y b.more b.fst in
    let u = evaluate_written n b.more b.z rest b.snd in
    record {
      phrase = union_of t.phrase u.phrase;
      words = ap (λ (l : List ℕ). 4 ∷ l) (in_turn t.phrase u.phrase rest t.words u.words);
      stands = ap₂ join t.stands u.stands ∙ b.both;
    }
evaluate_written (suc n) (suc (suc (suc (suc (suc zero)))) ∷ ws) x rest p =
    let b = both_out n meet 5 ws x rest p in
    let t = evaluate_written n ws b.y b.more b.fst in
    let u = evaluate_written n b.more b.z rest b.snd in
    record {
      phrase = intersection_of t.phrase u.phrase;
      words = ap (λ (l : List ℕ). 5 ∷ l) (in_turn t.phrase u.phrase rest t.words u.words);
      stands = ap₂ meet t.stands u.stands ∙ b.both;
    }
evaluate_written (suc n) (suc (suc (suc (suc (suc (suc zero))))) ∷ ws) x rest p =
    let b = single_out n complement 6 ws x rest p in
    let t = evaluate_written n ws b.y rest b.fst in
    record { phrase = complement_of t.phrase; words = ap (λ (l : List ℕ). 6 ∷ l) t.words; stands = ap complement t.stands ∙ b.whole }
evaluate_written (suc n) (suc (suc (suc (suc (suc (suc (suc zero)))))) ∷ ws) x rest p =
    let b = single_out n converse 7 ws x rest p in
    let t = evaluate_written n ws b.y rest b.fst in
    record { phrase = inverse_of t.phrase; words = ap (λ (l : List ℕ). 7 ∷ l) t.words; stands = ap converse t.stands ∙ b.whole }
evaluate_written (suc n) (suc (suc (suc (suc (suc (suc (suc (suc w))))))) ∷ ws) x rest p = never x rest p

-- ---- what an expression means

-- words are read as the set x exactly if they write an expression that stands for it
pub expression_written : (ws : List ℕ) (x : ℕ) → expression ws ≡ value x [] → (e : Phrase) × (written e ≡ ws) × (denoted e ≡ x)
unfolding expression
expression_written ws x p =
    let r = evaluate_written (length ws) ws x [] p in (r.phrase, sym (r.words ∙ append-nil (written r.phrase)), r.stands)

pub written_expression : (e : Phrase) → expression (written e) ≡ value (denoted e) []
unfolding expression
written_expression e =
    ap (evaluate (length (written e))) (sym (append-nil (written e))) ∙ written_evaluate e [] (length (written e)) (le_refl (length (written e)))

-- ---- an expression by its first code and the words left

denoted_small : (e : Phrase) → denoted e < set_limit
unfolding relations denoted join meet complement converse
denoted_small only_e = omega arith
denoted_small only_a = omega arith
denoted_small only_b = omega arith
denoted_small only_s = omega arith
denoted_small (union_of a b) = set_of_small _
denoted_small (intersection_of a b) = set_of_small _
denoted_small (complement_of a) = set_of_small _
denoted_small (inverse_of a) = set_of_small _

-- what is read is a set, and what is left ends the words
pub record Ends (ws : List ℕ) (x : ℕ) (rest : List ℕ) : Type 0 where
  pub small : x < set_limit
  pub suffix : Suffix ws rest

evaluate_ends : (n : ℕ) (ws : List ℕ) (x : ℕ) (rest : List ℕ) → evaluate n ws ≡ value x rest → Ends ws x rest
evaluate_ends n ws x rest p =
    let r = evaluate_written n ws x rest p in
    let l : length ws ≡ length (written r.phrase) + length rest = ap length r.words ∙ length-append (written r.phrase) rest in
    let d : drop (length (written r.phrase)) ws ≡ rest =
    ap (drop (length (written r.phrase))) r.words ∙ drop_at (written r.phrase) rest _ refl in
    record {
      small = subst (λ (y : ℕ). y < set_limit) r.stands (denoted_small r.phrase);
      suffix = subst (Suffix ws) d (drop_suffix (length (written r.phrase)) ws (omega arith));
    }

pub expression_ends : (ws : List ℕ) (x : ℕ) (rest : List ℕ) → expression ws ≡ value x rest → Ends ws x rest
unfolding expression
expression_ends ws x rest p = evaluate_ends (length ws) ws x rest p

-- a code's operands come to the same by two readers that agree on the words left, and on all that are no more
follow_same : (o p : List ℕ → Value) (w : ℕ) (ws : List ℕ) → ((us : List ℕ) → length us ≤ length ws → o us ≡ p us)
    → ((x : ℕ) (more : List ℕ) → o ws ≡ value x more → length more ≤ length ws) → (c : Code) → follow o c w ws ≡ follow p c w ws
unfolding follow
follow_same o p w ws same shorter (relation x) = refl
follow_same o p w ws same shorter (two f) = second (o ws) refl ∙ ap (λ (v : Value). and_then v (λ x more. and_then (p more) (last x))) (same ws (le_refl (length ws)))
  where
    last : ℕ → ℕ → List ℕ → Value
    last x y rest = value (f x y) rest

    second : (v : Value) → o ws ≡ v → and_then v (λ x more. and_then (o more) (last x)) ≡ and_then v (λ x more. and_then (p more) (last x))
    second (malformed left) e = refl
    second (value x more) e = ap (λ (v : Value). and_then v (last x)) (same more (shorter x more e))
follow_same o p w ws same shorter (one f) = ap (λ (v : Value). and_then v (λ x rest. value (f x) rest)) (same ws (le_refl (length ws)))
follow_same o p w ws same shorter unknown = refl

-- how many words are allowed makes no difference, once they are enough
no_words : (n : ℕ) → evaluate n [] ≡ malformed []
unfolding evaluate
no_words zero = refl
no_words (suc n) = refl

pub evaluate_enough : (n m : ℕ) (ws : List ℕ) → length ws ≤ n → length ws ≤ m → evaluate n ws ≡ evaluate m ws
unfolding evaluate
evaluate_enough zero m [] h k = sym (no_words m)
evaluate_enough zero m (w ∷ ws) h k = absurd (not-suc-le-zero h)
evaluate_enough (suc n) m [] h k = sym (no_words m)
evaluate_enough (suc n) zero (w ∷ ws) h k = absurd (not-suc-le-zero k)
evaluate_enough (suc n) (suc m) (w ∷ ws) h k =
    follow_same (evaluate n) (evaluate m) w ws (λ us l. evaluate_enough n m us (omega (arith, h)) (omega (arith, k)))
    (λ x more e. (evaluate_ends n ws x more e).suffix.shorter) (code w)

-- a code and its operands, each a whole expression of the words left
pub expression_step : (w : ℕ) (ws : List ℕ) → expression (w ∷ ws) ≡ follow expression (code w) w ws
unfolding expression evaluate
expression_step w ws =
    follow_same (evaluate (length ws)) expression w ws (λ us l. evaluate_enough (length ws) (length us) us l (le_refl (length us)))
    (λ x more e. (evaluate_ends (length ws) ws x more e).suffix.shorter) (code w)
