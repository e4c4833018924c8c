-- What the reader of a section finds as it walks along the lines. Assumes nothing.
use mathlib.Core.Path.{◌≡◌, refl, sym, ap, ◌∙◌, subst}
use mathlib.Core.List.{List}
use Prim.Native.Nat.{ℕ, zero, suc, ◌+◌, ◌-◌, ◌≤◌, ◌<◌}
use native.Mathlib.Omega.{arith}
use lib.ListN.{length, take, drop, length-drop}
use Rattle.rules.specs.Descriptions.{Reading, good, refused, Front, section}
use Rattle.rules.proofs.Parts.{Suffix, tail}
use Rattle.rules.proofs.Walks.{Walk, walk_start, walk_refused, walk_next, walk_over, walk_filled}
use Rattle.answers.specs.declared.refusals.Refusal.{Refusal}
use Rattle.std.specs.Prelude.{Ok, Err}
use Rattle.answers.specs.Answers.{refusal, later_by}
use Rattle.sheet.specs.Found.{section_found, end_found}

-- a section after its last line
pub end_over : (at n : ℕ) → 0 < n → Err (refusal 3 at) ≡ end_found at n
end_over at zero h = let z : ⊥ = omega arith in absurd z
end_over at (suc n) h = refl

pub end_filled : (at n : ℕ) → n ≤ 0 → Ok tt ≡ end_found at n
end_filled at zero h = refl
end_filled at (suc n) h = let z : ⊥ = omega arith in absurd z

-- the walk of a loop that counts the lines passed
module _ {X : Type 0} {line : List ℕ → Reading (Front X)} {count : ℕ} {ws : List ℕ} where
  pub none_passed : Walk line count ws 0 (count - 0)
  none_passed = let e : count ≡ count - 0 = omega arith in subst (Walk line count ws 0) e (walk_start line count ws)

  pub one_passed : {at : ℕ} (k : ℕ) → Walk line count ws at (count - k - 1) → Walk line count ws at (count - (k + 1))
  one_passed {at} k w = let e : count - k - 1 ≡ count - (k + 1) = omega arith in subst (Walk line count ws at) e w

-- at the word `at`, with `left` lines to go, off the part of the words that code lends
module _ {X : Type 0} {line : List ℕ → Reading (Front X)} {count : ℕ} {ws : List ℕ} {at left : ℕ} (w : Walk line count ws at left) where
  lent : {r : Reading (Front X)} → line (take (length ws - at) (drop at ws)) ≡ r → line (drop at ws) ≡ r
  lent {r} e = subst (λ (us : List ℕ). line us ≡ r) (tail at ws) e

  module _ (more : 0 < left) where
    -- a line that is refused, at a place within the words, and what that is in the section
    module _ {q : Refusal} (found : (n k : ℕ) × (line (take (length ws - at) (drop at ws)) ≡ refused n k) × (q ≡ refusal n k)) where
      pub found_place : ((us : List ℕ) (n k : ℕ) → line us ≡ refused n k → k ≤ length us) → at + q.place ≤ length ws
      found_place within =
          let (n, k, e, same) = found in
          let place : q.place ≡ k = ap (λ (r : Refusal). r.place) same in
          let h : k ≤ length (drop at ws) = within (drop at ws) n k (lent e) in
          omega (arith, place, h, length-drop at ws, w.within)

      pub found_refused : {r : Refusal} → r ≡ later_by at q → Err r ≡ section_found (section line count ws)
      found_refused moved =
          let (n, k, e, same) = found in
          ap Err (moved ∙ ap (later_by at) same)
          ∙ sym (ap section_found (walk_refused line count ws w n k more (lent e)))

    pub found_next : {k : ℕ} → ((us : List ℕ) (f : Front X) → line us ≡ good f → Suffix us f.rest)
        → (f : Front X) × (line (take (length ws - at) (drop at ws)) ≡ good f) × (length f.rest ≡ k)
        → (k ≤ length ws) × Walk line count ws (length ws - k) (left - 1)
    found_next suffix r =
        subst (λ (n : ℕ). (n ≤ length ws) × Walk line count ws (length ws - n) (left - 1)) r.2
        (walk_next line count ws w r.0 more (lent r.1) (suffix (drop at ws) r.0 (lent r.1)))

  pub found_end : left ≤ 0 → end_found at (length ws - at) ≡ section_found (section line count ws)
  found_end h = go (length ws - at) refl
    where
      go : (n : ℕ) → length ws - at ≡ n → end_found at n ≡ section_found (section line count ws)
      go zero e = sym (ap section_found (walk_filled line count ws w h (omega arith)))
      go (suc n) e = sym (ap section_found (walk_over line count ws w h (omega arith)))
