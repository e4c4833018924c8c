-- A cell narrowed by a bound, where that changes it and where not. Assumes nothing.
use mathlib.Core.Path.{◌≡◌, sym, ap, ◌∙◌}
use mathlib.Core.List.{List}
use Prim.Native.Nat.{ℕ, ◌-◌}
use native.Mathlib.Omega.{arith}
use lib.ListN.{get_or, set}
use lib.Seq.{set-get_or}
use Rattle.rules.specs.Relations.{meet, size}
use Rattle.passes.specs.Passes.{Narrowed}

module _ (t : List ℕ) (k b is : ℕ) (e : is ≡ meet (get_or t k 0) b) where
  pub narrowed_not : is ≡ get_or t k 0 → Narrowed t k b t 0
  narrowed_not f =
      let g : size (get_or t k 0) ≡ size (meet (get_or t k 0) b) = ap size (sym f ∙ e) in
      record { cells = sym (ap (λ (x : ℕ). set t k x) (sym e ∙ f) ∙ set-get_or t k 0); struck = omega arith }

  pub narrowed_so : (m n : ℕ) → m ≡ size (get_or t k 0) → n ≡ size is → Narrowed t k b (set t k is) (m - n)
  narrowed_so m n f g =
      let h : n ≡ size (meet (get_or t k 0) b) = g ∙ ap size e in
      record { cells = ap (λ (x : ℕ). set t k x) e; struck = omega arith }
