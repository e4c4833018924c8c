-- Any two answers that the contract of `first_disagreeing` permits are equal: it gives the place as a function of the lines. Assumes nothing.
use mathlib.Core.Path.{◌≡◌, refl, sym, ap, ◌∙◌}
use mathlib.Core.List.{List}
use Prim.Native.Nat.{ℕ}
use native.Mathlib.Omega.{arith}
use Rattle.std.specs.Prelude.{Option, Some, None}
use Rattle.rules.specs.Descriptions.{KindLine}
use Rattle.arities.specs.Arities.{FirstTold}
use Rattle.contracts.specs.Promises.{OneResult}
use Rattle.arities.proofs.first_disagreeing.Kinds as first_disagreeing_kinds
use Rattle.arities.proofs.first_disagreeing.Reads as first_disagreeing_lem

-- a first line that disagrees is one, and there is one or none
one_told : (ks : List KindLine) (r s : Option ℕ) → FirstTold ks r → FirstTold ks s → r ≡ s
one_told ks (Some a) (Some b) p q = ap Some (p.1 ∙ sym q.1)
one_told ks (Some a) None p q = let z : ⊥ = omega (arith, p.0, q) in absurd z
one_told ks None (Some b) p q = let z : ⊥ = omega (arith, q.0, p) in absurd z
one_told ks None None p q = refl

pub first_disagreeing_determined : OneResult 1 first_disagreeing_kinds.ps first_disagreeing_kinds.r first_disagreeing_lem.Asked first_disagreeing_lem.Learnt
first_disagreeing_determined κs a asked x y d e p q =
    let (v, (ks, fill)) = asked in
    one_told ks x y (p v ks fill) (q v ks fill)
