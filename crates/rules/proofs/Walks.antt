-- A section is read line by line: the lines that a walk has passed are the first of those that the section means, and what is refused on the way is
-- what the section is refused with. Assumes nothing.
use mathlib.Core.Path.{◌≡◌, refl, sym, ap, ◌∙◌}
use mathlib.Core.List.{List, [], ◌∷◌, ◌++◌, append_assoc, append-nil}
use Prim.Native.Nat.{ℕ, zero, suc, ◌+◌, ◌-◌, ◌≤◌, ◌<◌}
use native.Mathlib.Nat.{add-zero, add_assoc}
use native.Mathlib.Omega.{arith}
use lib.ListN.{length, drop, length-drop}
use lib.Seq.{drop-drop}
use Rattle.rules.specs.Descriptions.{Reading, good, refused, Front, next, later, section}
use Rattle.rules.proofs.Parts.{Suffix}
use Rattle.rules.proofs.Tests.{clash}
use Rattle.rules.proofs.Readings.{later_none, section_first}

module _ {X : Type 0} where
  -- the lines passed, and then those that are read
  unfoldable pub past : List X → Reading (List X) → Reading (List X)
  past done r = next r (λ ls. good (done ++ ls))

  past_none : (r : Reading (List X)) → r ≡ past [] r
  unfolding past
  past_none (good ls) = refl
  past_none (refused n k) = refl

  -- a line more, of the words after so many
  past_later : (done : List X) (m l : ℕ) (x : X) (r : Reading (List X))
      → past done (later m (later l (next r (λ ls. good (x ∷ ls))))) ≡ past (done ++ (x ∷ [])) (later (m + l) r)
  unfolding past
  past_later done m l x (good ls) = ap good (sym (append_assoc done (x ∷ []) ls))
  past_later done m l x (refused n k) = ap (refused n) (sym (add_assoc m l k))

  -- a section of some lines begins with a line, and it is the first of them
  pub section_met : (line : List ℕ → Reading (Front X)) (n : ℕ) → 0 < n → (us : List ℕ) (xs : List X) → section line n us ≡ good xs
      → (g : Front X) × (line us ≡ good g) × (ls : List X) × (xs ≡ g.line ∷ ls)
  section_met line zero h us xs e = absurd (omega arith)
  section_met line (suc n) h us xs e = let (g, d, ls, a, b) = section_first line n us xs e in (g, d, ls, b)

  module _ (line : List ℕ → Reading (Front X)) (count : ℕ) (ws : List ℕ) where
    -- at the word `at`, with `left` lines to go
    pub record Walk (at left : ℕ) : Type 0 where
      pub within : at ≤ length ws
      pub done : List X
      pub onward : section line count ws ≡ past done (later at (section line left (drop at ws)))

    pub walk_start : Walk 0 count
    walk_start = record { within = omega arith; done = []; onward = sym (later_none (section line count ws)) ∙ past_none (later 0 (section line count ws)) }

    -- with no line passed yet
    pub walk_none : walk_start.done ≡ []
    unfolding walk_start
    walk_none = refl

    module _ {at left : ℕ} (w : Walk at left) where
      -- a line that is refused
      pub walk_refused : (n i : ℕ) → 0 < left → line (drop at ws) ≡ refused n i → section line count ws ≡ refused n (at + i)
      unfolding section past
      walk_refused n i h e = w.onward ∙ go left h
        where
          go : (k : ℕ) → 0 < k → past w.done (later at (section line k (drop at ws))) ≡ refused n (at + i)
          go zero h = let z : ⊥ = omega arith in absurd z
          go (suc k) h = rw e

      -- on to the next line, which begins where the words after this one do
      pub walk_next : (f : Front X) → 0 < left → line (drop at ws) ≡ good f → Suffix (drop at ws) f.rest
          → (length f.rest ≤ length ws) × Walk (length ws - length f.rest) (left - 1)
      unfolding section
      walk_next f h e s =
          let l : at ≤ length ws = w.within in
          let a : length (drop at ws) ≡ length ws - at = length-drop at ws in
          let b : length f.rest ≤ length (drop at ws) = s.shorter in
          let c : length ws - length f.rest ≡ at + (length (drop at ws) - length f.rest) = omega arith in
          let g : drop (length ws - length f.rest) ws ≡ f.rest =
          ap (λ (k : ℕ). drop k ws) c ∙ sym (drop-drop (length (drop at ws) - length f.rest) at ws) ∙ s.end in
          (omega arith, record { within = omega arith; done = w.done ++ (f.line ∷ []); onward = rw (g, c) (w.onward ∙ go left h) })
        where
          go : (k : ℕ) → 0 < k
              → past w.done (later at (section line k (drop at ws)))
              ≡ past (w.done ++ (f.line ∷ [])) (later (at + (length (drop at ws) - length f.rest)) (section line (k - 1) f.rest))
          go zero h = let z : ⊥ = omega arith in absurd z
          go (suc k) h =
              let d : suc k - 1 ≡ k = omega arith in
              rw (e, d) (past_later w.done at (length (drop at ws) - length f.rest) f.line (section line k f.rest))

      -- with this line passed as well
      pub walk_passed : (f : Front X) (h : 0 < left) (e : line (drop at ws) ≡ good f) (s : Suffix (drop at ws) f.rest)
          → (walk_next f h e s).1.done ≡ w.done ++ (f.line ∷ [])
      unfolding walk_next
      walk_passed f h e s = refl

      -- after the last line: words are left over, or the lines passed are all there are
      module _ (last : left ≤ 0) where
        no_lines : section line count ws ≡ past w.done (later at (section line 0 (drop at ws)))
        no_lines = let e : left ≡ 0 = omega arith in w.onward ∙ ap (λ (k : ℕ). past w.done (later at (section line k (drop at ws)))) e

        pub walk_over : at < length ws → section line count ws ≡ refused 3 at
        unfolding section past
        walk_over h = no_lines ∙ go (drop at ws) (length-drop at ws)
          where
            go : (us : List ℕ) → length us ≡ length ws - at → past w.done (later at (section line 0 us)) ≡ refused 3 at
            go [] e = let z : ⊥ = omega arith in absurd z
            go (u ∷ us) e = ap (refused 3) (add-zero at)

        pub walk_filled : length ws ≤ at → section line count ws ≡ good w.done
        unfolding section past
        walk_filled h = no_lines ∙ go (drop at ws) (length-drop at ws)
          where
            go : (us : List ℕ) → length us ≡ length ws - at → past w.done (later at (section line 0 us)) ≡ good w.done
            go [] e = ap good (append-nil w.done)
            go (u ∷ us) e = let z : ⊥ = omega arith in absurd z

      -- the lines passed are the first of those that the section means
      pub walk_lines : (ls : List X) → section line count ws ≡ good ls → (rest : List X) × (section line left (drop at ws) ≡ good rest) × (ls ≡ w.done ++ rest)
      unfolding past
      walk_lines ls p = go (section line left (drop at ws)) refl (sym p ∙ w.onward)
        where
          go : (r : Reading (List X)) → section line left (drop at ws) ≡ r → good ls ≡ past w.done (later at r)
              → (rest : List X) × (section line left (drop at ws) ≡ good rest) × (ls ≡ w.done ++ rest)
          go (good rest) e q = (rest, e, cc)
          go (refused n k) e q = clash (cc)
