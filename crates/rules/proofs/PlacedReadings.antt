-- Words that are alike before a place, and the number and the place of what is refused. Assumes nothing.
use mathlib.Core.Path.{◌≡◌, refl, sym, ap, ◌∙◌, subst}
use mathlib.Core.Bool.{Bool, true, false, not}
use mathlib.Core.Logic.{◌⊎◌, inl, inr}
use mathlib.Core.List.{List, [], ◌∷◌}
use Prim.Native.Nat.{ℕ, zero, suc, ◌+◌, ◌≤◌, ◌<◌, min}
use native.Mathlib.Nat.{zero-add, suc-add, lt_of_not-le}
use native.Mathlib.Omega.{arith}
use lib.Dec.{T}
use lib.ListN.{get_or, take, drop, length-take, length-drop}
use lib.Seq.{take-nil, take-take, get_or-take}
use Rattle.rules.specs.Descriptions.{Reading, good, refused, need, next}
use Rattle.rules.specs.Places.{SameBefore, NotBefore, Placing}

-- ---- words that are alike before a place

-- the j words after the first n
drop_take : (n j : ℕ) (ws : List ℕ) → drop n (take (n + j) ws) ≡ take j (drop n ws)
drop_take zero j ws = ap (λ (m : ℕ). take m ws) (zero-add j)
drop_take (suc n) j [] = ap (drop (suc n)) (take-nil (suc n + j)) ∙ sym (take-nil j)
drop_take (suc n) j (w ∷ ws) = ap (λ (m : ℕ). drop (suc n) (take m (w ∷ ws))) (suc-add n j) ∙ drop_take n j ws

module _ {k : ℕ} {ws us : List ℕ} (a : SameBefore k ws us) where
  -- either way round
  pub alike_back : SameBefore k us ws
  alike_back = record { many = sym a.many; same = sym a.same }

  -- before an earlier place
  pub alike_less : (j : ℕ) → j ≤ k → SameBefore j ws us
  alike_less j h = record { many = a.many; same = sym (take-take j k us h) ∙ ap (take j) a.same ∙ take-take j k ws h }

  -- the words after the first n
  pub alike_after : (n j : ℕ) → n + j ≡ k → SameBefore j (drop n ws) (drop n us)
  alike_after n j e =
      let same : take (n + j) us ≡ take (n + j) ws = rw e a.same in
      record {
        many = omega (arith, length-drop n us, length-drop n ws, a.many);
        same = sym (drop_take n j us) ∙ ap (drop n) same ∙ drop_take n j ws;
      }

  -- the first n words
  pub alike_front : (n : ℕ) → k ≤ n → SameBefore k (take n ws) (take n us)
  alike_front n h = record {
    many = length-take n us ∙ ap (min n) a.many ∙ sym (length-take n ws);
    same = take-take k n us h ∙ a.same ∙ sym (take-take k n ws h);
  }

  -- a word before the place
  pub alike_word : (i : ℕ) → i < k → get_or us i 0 ≡ get_or ws i 0
  alike_word i h = sym (get_or-take k us i 0 h) ∙ ap (λ (l : List ℕ). get_or l i 0) a.same ∙ get_or-take k ws i 0 h

-- ---- the number and the place of a refusal

module _ (P : ℕ → ℕ → Type 0) where
  -- P holds of them
  abbrev pub OnlyAt : {X : Type 0} → Reading X → Type 0
  OnlyAt (good x) = Unit {0}
  OnlyAt (refused n k) = P n k

  -- of those of a test that fails, and of those of what is read after one that passes
  pub at_need : {X : Type 0} (n k : ℕ) (b : Bool) (r : Reading X) → (T (not b) → P n k) → (T b → OnlyAt r) → OnlyAt (need n k b r)
  at_need n k true r f g = g tt
  at_need n k false r f g = f tt

-- what is refused is so in its first part, or after it
pub next_refused : {X Y : Type 0} (r : Reading Y) (f : Y → Reading X) (n k : ℕ) → next r f ≡ refused n k
    → (r ≡ refused n k) ⊎ ((y : Y) × (r ≡ good y) × (f y ≡ refused n k))
next_refused (good y) f n k e = inr (y, refl, e)
next_refused (refused m j) f n k e = inl (cc)

-- what is refused at two places is refused at one
pub one_place : {X : Type 0} (r : Reading X) (n m k j : ℕ) → r ≡ refused n k → r ≡ refused m j → j < k → ⊥
one_place r n m k j p q h = let e : k ≡ j = cc in omega arith

-- ---- where places may be

-- the place, of a refusal with any number, is at most most
abbrev pub Within : ℕ → ℕ → ℕ → Type 0
Within most m j = j ≤ most

-- the place j, of a refusal with m, is not before the place k with n or with a number that is looked for before n
abbrev pub Late : ℕ → ℕ → ℕ → ℕ → Type 0
Late n k m j = m ≤ n → j < k → ⊥

module _ {X : Type 0} (n k : ℕ) where
  -- so what is read is not refused before it
  pub late : (r : Reading X) → OnlyAt (Late n k) r → NotBefore n k r
  late (good x) f = tt
  late (refused m j) f = λ h. let z : k < suc j = lt_of_not-le (f h) in omega arith

  pub late_each : (r : Reading X) → ((m j : ℕ) → r ≡ refused m j → Late n k m j) → NotBefore n k r
  late_each (good x) f = tt
  late_each (refused m j) f = late (refused m j) (f m j refl)

-- what keeps its places is not refused before them
pub placing_late : {X : Type 0} (reads : List ℕ → Reading X) → Placing (λ ws. 0) reads → (ws us : List ℕ) (n k m j : ℕ) → reads ws ≡ refused n k
    → reads us ≡ refused m j → SameBefore k ws us → Late n k m j
placing_late reads p ws us n k m j e d a h l =
    let z : m ≤ n → k ≤ j = subst (NotBefore n k) d (p.before ws us n k e a refl) in omega (arith, z h)
