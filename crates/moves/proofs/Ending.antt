-- Work that loses no table that is to be kept has one end: where what it left is to be kept too, table and answer are fixed. Assumes nothing.
use mathlib.Core.Path.{◌≡◌, refl}
use Rattle.std.specs.Prelude.{Result, Ok, Err}
use mathlib.Core.List.{List}
use Prim.Native.Nat.{ℕ}
use contract.Lifetimes.{Lfts}
use denote.Triple.Clauses.{AtExit}
use borrow.Fn.Kinds.{ParamKind, ResultKind, Dens, In, Out, res_t, ended_of}
use lib.Dec.{T_not}
use Rattle.rules.specs.Tables.{Table, Inside, emptied}
use Rattle.rules.proofs.Inside.{inside_antisym}
use Rattle.passes.specs.Passes.{Filled}
use Rattle.moves.specs.declared.Emptied.{Emptied}
use Rattle.moves.specs.Moves.{Lost, Went}

-- no empty cell was met
abbrev pub Held : Result (Unit {0}) Emptied → Type 0
Held (Ok _) = Unit {0}
Held (Err _) = ⊥

-- the same answer, and the same table unless an empty cell was met
abbrev pub SameEnd : Result (Unit {0}) Emptied → Result (Unit {0}) Emptied → List ℕ → List ℕ → Type 0
SameEnd a b u w = (a ≡ b) × (Held a → u ≡ w)

module _ (C : List ℕ → Type 0) (v : ℕ) (t : List ℕ) where
  -- w is the largest table inside t of which C holds, and no cell of it is empty
  pub record End (w : List ℕ) : Type 0 where
    pub table : Table v w
    pub filled : Filled w
    pub inside : Inside w t
    pub keeps : (x : List ℕ) → C x → Inside x t → Inside x w
    pub kept : C w

  -- there is such a table, or every table inside t of which C holds has an empty cell
  abbrev pub ended : List ℕ → Result (Unit {0}) Emptied → Type 0
  ended w (Ok _) = End w
  ended w (Err _) = Lost C v t

  unlost : {w : List ℕ} → End w → Lost C v t → ⊥
  unlost {w} k f = T_not (emptied w) k.filled (f w k.table k.kept k.inside)

  pub one_end : (u w : List ℕ) (a b : Result (Unit {0}) Emptied) → ended u a → ended w b → SameEnd a b u w
  one_end u w (Ok _) (Ok _) k l = (refl, λ e. inside_antisym k.table l.table (l.keeps u k.kept k.inside) (k.keeps w l.kept l.inside))
  one_end u w (Ok _) (Err _) k f = absurd (unlost k f)
  one_end u w (Err _) (Ok _) f l = absurd (unlost l f)
  one_end u w (Err _) (Err _) f g = (refl, λ e. absurd e)

  -- work that tells whether it was left at an empty cell, and has come to its end
  pub went_ended : (P : List ℕ → List ℕ → Type 0) (m w n : List ℕ) (r : Result (Unit {0}) Emptied) → Went C v P t m w n r → (Held r → C w) → ended w r
  went_ended P m w n (Ok _) g c = record { table = g.0.fit.ready.table; filled = g.0.fit.filled; inside = g.0.inside; keeps = g.0.keeps; kept = c tt }
  went_ended P m w n (Err _) f c = f

-- two outcomes of such work, where the tables that are to be kept depend on something that is only known to be there, as the kind lines are that fill some words
pub visits_ended : {X : Type 0} {F : X → Type 0} (C : X → List ℕ → Type 0) (P : X → List ℕ → List ℕ → Type 0) (v : ℕ) (t m u k w n : List ℕ) (a b : Result (Unit {0}) Emptied) → (x : X) × F x
    → ((x : X) → F x → Went (C x) v (P x) t m u k a) → ((x : X) → F x → Went (C x) v (P x) t m w n b) → (Held a → (x : X) → F x → C x u) → (Held b → (x : X) → F x → C x w)
    → SameEnd a b u w
visits_ended C P v t m u k w n a b (x, h) p q f g =
    one_end (C x) v t u w a b (went_ended (C x) v t (P x) m u k a (p x h) (λ s. f s x h)) (went_ended (C x) v t (P x) m w n b (q x h) (λ s. g s x h))

-- Any two outcomes that a contract permits are one, where C holds of the tables that they leave.
module _ (n : ℕ) (ps : List (ParamKind n)) (r : ResultKind n) (asked : In n ps) (learnt : Out n ps r) where
  abbrev pub OneEnd : ((κs : Lfts n) → Dens κs ps → List ℕ → Type 0) → ((κs : Lfts n) → (res_t r κs).Denot → Result (Unit {0}) Emptied)
      → ((κs : Lfts n) → AtExit (ended_of n ps r) κs → List ℕ) → Type 0
  OneEnd C told left =
      (κs : Lfts n) (a : Dens κs ps) → asked κs a → (x y : (res_t r κs).Denot) (d e : AtExit (ended_of n ps r) κs) → learnt κs a x d → learnt κs a y e
      → (Held (told κs x) → C κs a (left κs d)) → (Held (told κs y) → C κs a (left κs e)) → SameEnd (told κs x) (told κs y) (left κs d) (left κs e)
