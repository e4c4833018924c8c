-- What a function's contract asks for and what it determines, over the kit's own record of it: `Asked` is what a caller must show of the arguments, and
-- `Learnt` what it learns of the result and of the parameters at exit. Assumes nothing.
use Rattle.std.specs.Prelude.{◌≡◌, List, ℕ}
use contract.Lifetimes.{Lfts}
use denote.Triple.Clauses.{AtExit}
use borrow.Fn.Kinds.{ParamKind, ResultKind, Dens, In, Out, res_t, ended_of}

-- The function takes whatever it is lent.
abbrev pub AsksNothing : (n : ℕ) (ps : List (ParamKind n)) → In n ps → Type 0
AsksNothing n ps asked = (κs : Lfts n) (a : Dens κs ps) → asked κs a

-- P holds of the arguments, the result and the parameters at exit of every call: it is what a caller learns.
abbrev pub Teaches : (n : ℕ) (ps : List (ParamKind n)) (r : ResultKind n) → Out n ps r
    → ((κs : Lfts n) (a : Dens κs ps) (x : (res_t r κs).Denot) (e : AtExit (ended_of n ps r) κs) → Type 0) → Type 0
Teaches n ps r learnt P =
    (κs : Lfts n) (a : Dens κs ps) (x : (res_t r κs).Denot) (e : AtExit (ended_of n ps r) κs) → learnt κs a x e → P κs a x e

module _ (n : ℕ) (ps : List (ParamKind n)) (r : ResultKind n) (asked : In n ps) (learnt : Out n ps r) where
  -- P holds of any two outcomes of the same arguments: of the two results and of the parameters after each.
  abbrev pub OfTwo : ((κs : Lfts n) (x y : (res_t r κs).Denot) (d e : AtExit (ended_of n ps r) κs) → Type 0) → Type 0
  OfTwo P =
      (κs : Lfts n) (a : Dens κs ps) → asked κs a → (x y : (res_t r κs).Denot) (d e : AtExit (ended_of n ps r) κs) → learnt κs a x d → learnt κs a y e
      → P κs x y d e

  -- Any two results are equal.
  abbrev pub OneResult : Type 0
  OneResult = OfTwo (λ κs x y d e. x ≡ y)

  -- Any two results are equal, and so is what `left` reads off the parameters at exit.
  abbrev pub OneOutcome : {X : Type 0} → ((κs : Lfts n) → AtExit (ended_of n ps r) κs → X) → Type 0
  OneOutcome left = OfTwo (λ κs x y d e. (x ≡ y) × (left κs d ≡ left κs e))

  -- Where the same is left, the results are equal.
  abbrev pub OneResultFor : {X : Type 0} → ((κs : Lfts n) → AtExit (ended_of n ps r) κs → X) → Type 0
  OneResultFor left = OfTwo (λ κs x y d e. left κs d ≡ left κs e → x ≡ y)
