-- Lines put one after the other, whatever each of them is. Assumes nothing.
use mathlib.Core.Path.{◌≡◌, refl, sym, ap, ◌∙◌, subst}
use mathlib.Core.List.{List, ◌++◌, flat_map, append-nil, append_assoc}
use Prim.Native.Nat.{ℕ, zero, suc, ◌+◌, ◌-◌, ◌≤◌, ◌<◌}
use native.Mathlib.Omega.{arith}
use Rattle.rules.specs.Tables.{range}
use Rattle.puts.specs.declared.Writer.{Writer}
use Rattle.puts.specs.Texts.{HasRoom, Put}
use Rattle.puts.proofs.Putting.{put_none, put_then, fits_first, fits_rest}

module _ (f : ℕ → List ℕ) where
  -- the lines of m numbers from i on, and of the n after them
  over_range : (m i n : ℕ) → flat_map f (range i (m + n)) ≡ flat_map f (range i m) ++ flat_map f (range (i + m) n)
  unfolding flat_map
  over_range zero i n =
      let e : 0 + n ≡ n = omega arith in
      let d : i ≡ i + 0 = omega arith in
      ap (λ (k : ℕ). flat_map f (range i k)) e ∙ ap (λ (k : ℕ). flat_map f (range k n)) d
  over_range (suc m) i n =
      let e : suc m + n ≡ suc (m + n) = omega arith in
      let d : suc i + m ≡ i + suc m = omega arith in
      ap (λ (k : ℕ). flat_map f (range i k)) e ∙ ap (λ (l : List ℕ). f i ++ l) (over_range m (suc i) n ∙ ap (λ (k : ℕ). flat_map f (range (suc i) m) ++ flat_map f (range k n)) d)
      ∙ sym (append_assoc (f i) (flat_map f (range (suc i) m)) (flat_map f (range (i + suc m) n)))

  over_first : (i n : ℕ) → flat_map f (range i (suc n)) ≡ f i ++ flat_map f (range (suc i) n)
  unfolding flat_map
  over_first i n = refl

  over_one : (i : ℕ) → flat_map f (range i 1) ≡ f i
  unfolding flat_map
  over_one i = append-nil (f i)

  module _ (i : ℕ) where
    -- before the first
    pub lines_none : {q : ℕ} (w : Writer) → q ≤ i → Put w (flat_map f (range i (q - i))) w
    unfolding flat_map
    lines_none {q} w l = let e : 0 ≡ q - i = omega arith in subst (λ (k : ℕ). Put w (flat_map f (range i k)) w) e (put_none w)

    module _ {w v : Writer} {q : ℕ} (l : i ≤ q) (p : Put w (flat_map f (range i (q - i))) v) where
      -- where all fit, the next one does
      pub lines_fit : (n : ℕ) → q < i + n → HasRoom w (flat_map f (range i n)) → HasRoom v (f q)
      lines_fit n g h =
          let e : n ≡ q - i + suc (n - suc (q - i)) = omega arith in
          let d : i + (q - i) ≡ q = omega arith in
          let all : flat_map f (range i n) ≡ flat_map f (range i (q - i)) ++ (f q ++ flat_map f (range (suc q) (n - suc (q - i)))) =
          ap (λ (k : ℕ). flat_map f (range i k)) e ∙ over_range (q - i) i (suc (n - suc (q - i)))
          ∙ ap (λ (k : ℕ). flat_map f (range i (q - i)) ++ flat_map f (range k (suc (n - suc (q - i))))) d
          ∙ ap (λ (ls : List ℕ). flat_map f (range i (q - i)) ++ ls) (over_first q (n - suc (q - i))) in
          fits_first (f q) (flat_map f (range (suc q) (n - suc (q - i))))
          (fits_rest (flat_map f (range i (q - i))) (f q ++ flat_map f (range (suc q) (n - suc (q - i)))) (subst (HasRoom w) all h) p)

      pub lines_more : {u : Writer} → Put v (f q) u → Put w (flat_map f (range i (q + 1 - i))) u
      lines_more {u} s =
          let e : q - i + 1 ≡ q + 1 - i = omega arith in
          let d : i + (q - i) ≡ q = omega arith in
          let all : flat_map f (range i (q - i)) ++ f q ≡ flat_map f (range i (q + 1 - i)) =
          ap (λ (ls : List ℕ). flat_map f (range i (q - i)) ++ ls) (sym (over_one q) ∙ ap (λ (k : ℕ). flat_map f (range k 1)) (sym d)) ∙ sym (over_range (q - i) i 1)
          ∙ ap (λ (k : ℕ). flat_map f (range i k)) e in
          subst (λ (ls : List ℕ). Put w ls u) all (put_then (flat_map f (range i (q - i))) (f q) p s)

      -- after the last
      pub lines_all : (n : ℕ) → q ≤ i + n → i + n ≤ q → Put w (flat_map f (range i n)) v
      lines_all n g h = let e : q - i ≡ n = omega arith in subst (λ (k : ℕ). Put w (flat_map f (range i k)) v) e p
