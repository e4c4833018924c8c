-- One kind code means one number of ways: the first kind line that disagrees with an earlier one, and that there is none exactly if lines of one code
-- have as many ways. Assumes nothing.
use mathlib.Core.Path.{◌≡◌, refl, sym, ap, ◌∙◌, subst}
use mathlib.Core.Bool.{Bool, true, false, not}
use mathlib.Core.Logic.{⊎_elim, ◌↔◌}
use mathlib.Core.List.Memᴰ
use mathlib.Core.List.{List, [], ◌∷◌, ◌++◌, append_assoc, append-nil, Memᴰ}
use Prim.Native.Nat.{ℕ, suc, ◌+◌, ◌≤◌}
use native.Mathlib.Nat.{zero-add, suc-add}
use native.Mathlib.Omega.{arith}
use borrow.Author.Tests.{eq-eqb}
use lib.Dec.{T, T_not, eqb, eqb→eq, eqb_refl}
use lib.ListN.{length, take}
use Rattle.rules.specs.Relations.{some_of}
use Rattle.rules.specs.Descriptions.{KindLine, good, refused, disagrees, first_disagreeing, kind_words, agreed, SameArity, OneArity}
use Rattle.rules.proofs.Tests.{and_T, T-and_left, T-and_right, T-decide, T_true, true_T}
use Rattle.rules.proofs.Members.{some_of_in, some_of_out}
use Rattle.rules.proofs.Readings.{need_passed, need_failed, need_out}

-- ---- two lines

-- two lines disagree, or have as many ways if they have one code
module _ (k l : KindLine) where
  -- the test of their numbers of ways
  as_many : Bool
  as_many = eqb (length k.ways) (length l.ways)

  agrees_out : (T (disagrees k l) → ⊥) → SameArity k l
  unfolding disagrees as_many
  agrees_out f e =
      ⊎_elim (λ t. eqb→eq (length k.ways) (length l.ways) t)
      (λ t. absurd (f (and_T (eqb k.code l.code) (not as_many) (subst (λ (c : ℕ). T (eqb k.code c)) e (eqb_refl k.code)) t)))
      (T-decide as_many)

  pub disagrees_out : T (disagrees k l) → (k.code ≡ l.code) × (length k.ways ≡ length l.ways → ⊥)
  unfolding disagrees as_many
  disagrees_out t = (
    eqb→eq k.code l.code (T-and_left (eqb k.code l.code) (not as_many) t),
    λ e.
        T_not as_many (T-and_right (eqb k.code l.code) (not as_many) t)
        (subst (λ (n : ℕ). T (eqb (length k.ways) n)) e (eqb_refl (length k.ways))),
  )

-- ---- lines of one code have as many ways

pub arity_none : OneArity []
arity_none k l m n = absurd (Memᴰ.not-nil m)

-- a line comes to them
module _ (xs : List KindLine) (k : KindLine) where
  -- that disagrees with none of them
  pub arity_more : OneArity xs → (T (some_of (disagrees k) xs) → ⊥) → OneArity (xs ++ (k ∷ []))
  arity_more h f a b m n =
      ⊎_elim (λ i. ⊎_elim (h a b i) (λ j e. sym (with j a i (sym e))) (Memᴰ.append_cases xs n))
      (λ i. ⊎_elim (with i b) (same i) (Memᴰ.append_cases xs n)) (Memᴰ.append_cases xs m)
    where
      with : {c : KindLine} → Memᴰ c (k ∷ []) → (l : KindLine) → Memᴰ l xs → SameArity c l
      with i l j =
          subst (λ (c : KindLine). SameArity c l) (sym (Memᴰ.eq_of_singleton i)) (agrees_out k l (λ t. f (some_of_in (disagrees k) xs l j t)))

      same : Memᴰ a (k ∷ []) → Memᴰ b (k ∷ []) → SameArity a b
      same i j e = ap (λ (c : KindLine). length c.ways) (Memᴰ.eq_of_singleton i ∙ sym (Memᴰ.eq_of_singleton j))

  -- that disagrees with one of them
  odd_one : (ys : List KindLine) → T (some_of (disagrees k) xs) → OneArity (xs ++ (k ∷ ys)) → ⊥
  odd_one ys t h =
      let (l, m, d) = some_of_out (disagrees k) xs t in
      let (code, ways) = disagrees_out k l d in
      ways (h k l (Memᴰ.append_right xs (Memᴰ.head refl)) (Memᴰ.append_left (k ∷ ys) m) code)

-- ---- the first line that disagrees with an earlier one

first_none : (earlier : List KindLine) → first_disagreeing earlier [] ≡ 0
unfolding first_disagreeing
first_none earlier = refl

module _ (earlier : List KindLine) (k : KindLine) (ks : List KindLine) where
  pub first_here : some_of (disagrees k) earlier ≡ true → first_disagreeing earlier (k ∷ ks) ≡ 0
  unfolding first_disagreeing
  first_here e = rw (e, first_disagreeing)

  pub first_later : some_of (disagrees k) earlier ≡ false → first_disagreeing earlier (k ∷ ks) ≡ suc (first_disagreeing (earlier ++ (k ∷ [])) ks)
  unfolding first_disagreeing
  first_later e = rw (e, first_disagreeing)

  -- it is a later line, or it is this one
  first_past_here : {X : Type 0} → (T (some_of (disagrees k) earlier) → first_disagreeing earlier (k ∷ ks) ≡ 0 → X)
      → ((T (some_of (disagrees k) earlier) → ⊥) → first_disagreeing earlier (k ∷ ks) ≡ suc (first_disagreeing (earlier ++ (k ∷ [])) ks) → X) → X
  first_past_here {X} here later = go (some_of (disagrees k) earlier) refl
    where
      go : (b : Bool) → some_of (disagrees k) earlier ≡ b → X
      go true e = here (true_T e) (first_here e)
      go false e = later (λ t. subst T e t) (first_later e)

-- it is at most the number of lines
pub first_few : (earlier ks : List KindLine) → first_disagreeing earlier ks ≤ length ks
first_few earlier [] = omega (arith, first_none earlier)
first_few earlier (k ∷ ks) =
    first_past_here earlier k ks (λ t e. omega (arith, e)) (λ f e. let h = first_few (earlier ++ (k ∷ [])) ks in omega (arith, e))

-- it is past the lines that, with those before them, are of one arity
first_past : (earlier xs ys : List KindLine) → OneArity (earlier ++ xs)
    → first_disagreeing earlier (xs ++ ys) ≡ length xs + first_disagreeing (earlier ++ xs) ys
first_past earlier [] ys h = ap (λ (zs : List KindLine). first_disagreeing zs ys) (sym (append-nil earlier)) ∙ sym (zero-add _)
first_past earlier (x ∷ xs) ys h =
    first_past_here earlier x (xs ++ ys) (λ t e. absurd (odd_one earlier x xs t h)) (λ f e.
    let further = first_past (earlier ++ (x ∷ [])) xs ys (subst OneArity (sym (append_assoc earlier (x ∷ []) xs)) h) in
    e ∙ ap suc (further ∙ ap (λ (zs : List KindLine). length xs + first_disagreeing zs ys) (append_assoc earlier (x ∷ []) xs)) ∙ sym (suc-add (length xs) _))

-- lines that it is past are of one arity, with those before them
past_first : (earlier xs ys : List KindLine) (n : ℕ) → OneArity earlier → first_disagreeing earlier (xs ++ ys) ≡ length xs + n → OneArity (earlier ++ xs)
past_first earlier [] ys n h p = subst OneArity (sym (append-nil earlier)) h
past_first earlier (x ∷ xs) ys n h p =
    first_past_here earlier x (xs ++ ys) (λ t e. let z : ⊥ = omega (arith, p, e) in absurd z) (λ f e.
    subst OneArity (append_assoc earlier (x ∷ []) xs) (past_first (earlier ++ (x ∷ [])) xs ys n (arity_more earlier x h f) (omega (arith, p, e))))

-- the line after xs is the first exactly if it disagrees with one of them, and they are of one arity
pub first_disagreeing_lem : (xs : List KindLine) (k : KindLine) (ys : List KindLine)
    → first_disagreeing [] (xs ++ (k ∷ ys)) ≡ length xs ↔ (OneArity xs × T (some_of (disagrees k) xs))
first_disagreeing_lem xs k ys = (out, λ h. first_past [] xs (k ∷ ys) h.0 ∙ from (first_here xs k ys (T_true h.1)))
  where
    from : first_disagreeing xs (k ∷ ys) ≡ 0 → length xs + first_disagreeing xs (k ∷ ys) ≡ length xs
    from e = omega (arith, e)

    out : first_disagreeing [] (xs ++ (k ∷ ys)) ≡ length xs → OneArity xs × T (some_of (disagrees k) xs)
    out p =
        let one : OneArity xs = past_first [] xs (k ∷ ys) 0 arity_none (omega (arith, p)) in
        (one, first_past_here xs k ys (λ t e. t) (λ f e. let z : ⊥ = omega (arith, p, e, first_past [] xs (k ∷ ys) one) in absurd z))

-- there is none exactly if all lines are of one arity
pub none_disagreeing : (ks : List KindLine) → first_disagreeing [] ks ≡ length ks ↔ OneArity ks
none_disagreeing ks = (
  λ p. past_first [] ks [] 0 arity_none (whole ∙ p ∙ omega arith),
  λ h. sym whole ∙ first_past [] ks [] h ∙ last (first_none ks),
)
  where
    whole : first_disagreeing [] (ks ++ []) ≡ first_disagreeing [] ks
    whole = ap (first_disagreeing []) (append-nil ks)

    last : first_disagreeing ks [] ≡ 0 → length ks + first_disagreeing ks [] ≡ length ks
    last e = omega (arith, e)

-- ---- the kind lines of a description

module _ (ks : List KindLine) where
  -- the first line that disagrees, its number of ways, and that there is none
  abbrev disagreeing : ℕ
  disagreeing = first_disagreeing [] ks

  abbrev pub arity_place : ℕ
  arity_place = kind_words (take disagreeing ks) + 2

  -- lines are refused with 11 exactly if they are not of one arity, at that place
  pub agreed_in : OneArity ks → agreed ks ≡ good ks
  unfolding agreed
  agreed_in h = need_passed 11 arity_place (eqb disagreeing (length ks)) (good ks) (true_T (eq-eqb disagreeing (length ks) ((none_disagreeing ks).1 h)))

  pub agreed_refused : (OneArity ks → ⊥) → agreed ks ≡ refused 11 arity_place
  unfolding agreed
  agreed_refused f =
      need_failed 11 arity_place (eqb disagreeing (length ks)) (good ks) (λ t. f ((none_disagreeing ks).0 (eqb→eq disagreeing (length ks) t)))

  -- and what is not refused stays
  pub agreed_out : (ls : List KindLine) → agreed ks ≡ good ls → (ks ≡ ls) × OneArity ks
  unfolding agreed
  agreed_out ls e =
      let (t, d) = need_out 11 arity_place (eqb disagreeing (length ks)) (good ks) ls e in
      (cc, (none_disagreeing ks).0 (eqb→eq disagreeing (length ks) t))
