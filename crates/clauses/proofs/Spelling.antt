-- Words write one description at most, a description is written by one run of words at most, and what it means is what the words are read as.
-- Assumes nothing.
use mathlib.Core.Path.{◌≡◌, refl, ap, ◌∙◌}
use mathlib.Core.List.{List, [], ◌∷◌, ◌++◌, map, flatten, append_assoc, append_cancel_left}
use Prim.Native.Nat.{ℕ}
use native.Mathlib.Omega.{arith}
use lib.ListN.{length, get_or}
use lib.Seq.{take_at, drop_at}
use Rattle.rules.specs.Expressions.{Phrase, only_e, only_a, only_b, only_s, union_of, intersection_of, complement_of, inverse_of, written}
use Rattle.rules.specs.Descriptions.{Sheet, good, read}
use Rattle.rules.specs.Arrangements.{width}
use Rattle.clauses.specs.Clauses.{Description, sheet, formula_words, label_words, Writes}
use Rattle.clauses.proofs.Written.{read_writes}

-- ---- an expression

-- an operator with one operand takes it off the phrases after it, and one with two takes two
takes_one : (Phrase → Phrase) → List Phrase → List Phrase
takes_one f [] = []
takes_one f (a ∷ more) = f a ∷ more

takes_two : (Phrase → Phrase → Phrase) → List Phrase → List Phrase
takes_two f [] = []
takes_two f (a ∷ []) = []
takes_two f (a ∷ b ∷ more) = f a b ∷ more

-- what the codes 0 to 7 make of the phrases after them
by_code : List (List Phrase → List Phrase)
by_code =
    ◌∷◌ only_e ∷ ◌∷◌ only_a ∷ ◌∷◌ only_b ∷ ◌∷◌ only_s
    ∷ takes_two union_of ∷ takes_two intersection_of ∷ takes_one complement_of ∷ takes_one inverse_of ∷ []

-- the phrases that words write, one after the other
phrases : List ℕ → List Phrase
phrases [] = []
phrases (w ∷ ws) = get_or by_code w (λ more. more) (phrases ws)

-- the words of two operands, one after the other, give both back
operands_first : (a b : Phrase) (rest : List ℕ) → phrases (written a ++ (written b ++ rest)) ≡ a ∷ phrases (written b ++ rest)
    → phrases (written b ++ rest) ≡ b ∷ phrases rest → phrases ((written a ++ written b) ++ rest) ≡ a ∷ b ∷ phrases rest
operands_first a b rest p q = rw append_assoc (cc)

-- the words of a phrase give it back, before the phrases of what is after them
phrase_first : (a : Phrase) (rest : List ℕ) → phrases (written a ++ rest) ≡ a ∷ phrases rest
unfolding phrases by_code takes_one takes_two written
phrase_first only_e rest = refl
phrase_first only_a rest = refl
phrase_first only_b rest = refl
phrase_first only_s rest = refl
phrase_first (union_of a b) rest =
    ap (takes_two union_of) (operands_first a b rest (phrase_first a (written b ++ rest)) (phrase_first b rest))
phrase_first (intersection_of a b) rest =
    ap (takes_two intersection_of) (operands_first a b rest (phrase_first a (written b ++ rest)) (phrase_first b rest))
phrase_first (complement_of a) rest = ap (takes_one complement_of) (phrase_first a rest)
phrase_first (inverse_of a) rest = ap (takes_one inverse_of) (phrase_first a rest)

-- the words of an expression write one phrase, and end where it ends
pub phrase_once : (a b : Phrase) (u v : List ℕ) → written a ++ u ≡ written b ++ v → (a ≡ b) × (u ≡ v)
phrase_once a b u v e =
    let same : a ≡ b = cc (phrase_first a u, phrase_first b v, ap phrases e) in
    (same, append_cancel_left (written a) u v (cc))

-- ---- a line

-- the words of a line write one line, and end where it ends
abbrev Once : {Y : Type 0} → (Y → List ℕ) → Type 0
Once {Y} words = (l k : Y) (u v : List ℕ) → words l ++ u ≡ words k ++ v → (l ≡ k) × (u ≡ v)

formula_once : Once formula_words
formula_once f g u v e =
    let x : f.x ≡ g.x = cc in
    let y : f.y ≡ g.y = cc in
    let relation = phrase_once f.relation g.relation u v (cc) in
    (λ i. record { x = x i; relation = relation.0 i; y = y i }, relation.1)

label_once : Once label_words
label_once l k u v e =
    let p : l.p ≡ k.p = cc in
    let code : l.code ≡ k.code = cc in
    let wide : width k ≡ width l = cc in
    let words : l.ways ++ u ≡ k.ways ++ v = cc in
    let ways : l.ways ≡ k.ways = cc (take_at l.ways u (width l) refl, take_at k.ways v (width l) wide) in
    (λ i. record { p = p i; code = code i; ways = ways i }, cc (drop_at l.ways u (width l) refl, drop_at k.ways v (width l) wide))

-- ---- a section

-- Where a line's words write one line and end where it ends, the words of so many lines write them alone, and end where the last of them ends.
section_once : {Y : Type 0} (words : Y → List ℕ) → Once words → (ls ks : List Y) (u v : List ℕ) → length (map words ls) ≡ length (map words ks)
    → flatten (map words ls) ++ u ≡ flatten (map words ks) ++ v → (ls ≡ ks) × (u ≡ v)
unfolding flatten
section_once words once [] [] u v n e = (refl, e)
section_once words once [] (k ∷ ks) u v n e = let z : ⊥ = omega arith in absurd z
section_once words once (l ∷ ls) [] u v n e = let z : ⊥ = omega arith in absurd z
section_once words once (l ∷ ls) (k ∷ ks) u v n e =
    let first = once l k (flatten (map words ls) ++ u) (flatten (map words ks) ++ v) (simp append_assoc at e) in
    let others = section_once words once ls ks u v (omega arith) first.1 in
    (λ i. first.0 i ∷ others.0 i, others.1)

-- ---- a description

-- words write one description at most
pub written_once : (ws : List ℕ) (φ ψ : Description) → Writes ws φ → Writes ws ψ → φ ≡ ψ
written_once ws φ ψ p q =
    let boards : φ.boards ≡ ψ.boards = cc in
    let formulas =
    section_once formula_words formula_once φ.formulas ψ.formulas (flatten (map label_words φ.labels)) (flatten (map label_words ψ.labels))
    (cc) (cc) in
    let labels = section_once label_words label_once φ.labels ψ.labels [] [] (cc) (ap (λ (us : List ℕ). us ++ []) formulas.1) in
    λ i. record { boards = boards i; formulas = formulas.0 i; labels = labels.0 i }

-- a description is written by one run of words at most
pub one_run : (us ws : List ℕ) (φ : Description) → Writes us φ → Writes ws φ → us ≡ ws
one_run us ws φ p q = cc

-- the sheet that a description means is the one that its words are read as
pub writes_means : (ws : List ℕ) (s : Sheet) → read ws ≡ good s → (φ : Description) → Writes ws φ → sheet φ ≡ s
writes_means ws s e φ w = let m = read_writes ws s e in ap sheet (written_once ws φ m.0 w m.1) ∙ m.2
