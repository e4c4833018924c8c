-- Any two answers, tables and lists that a contract of this crate permits are equal. Assumes nothing.
use mathlib.Core.Path.{◌≡◌, refl, sym, ap, ap₂, ◌∙◌}
use mathlib.Core.Bool.{Bool}
use mathlib.Core.Logic.{⊎_elim}
use mathlib.Core.List.{List}
use Prim.Native.Nat.{ℕ, ◌≤◌, ◌<◌}
use native.Mathlib.Omega.{arith}
use lib.ListN.{get_or, set}
use Rattle.std.specs.Prelude.{Option, Some, None, Result}
use Rattle.rules.proofs.Tests.{order_cases}
use Rattle.bits.specs.Sets.{removed, lowest}
use Rattle.contracts.specs.Promises.{OneResult, OneOutcome}
use Rattle.moves.specs.declared.Emptied.{Emptied}
use Rattle.moves.specs.Moves.{FirstMarked, PairTaken, PairPut}
use Rattle.moves.proofs.marks_room.Kinds as marks_room_kinds
use Rattle.moves.proofs.marks_room.Reads as marks-room
use Rattle.moves.proofs.clear.Kinds as clear_kinds
use Rattle.moves.proofs.clear.Reads as clear
use Rattle.moves.proofs.take_pair.Kinds as take_pair_kinds
use Rattle.moves.proofs.take_pair.Reads as take-pair
use Rattle.moves.proofs.put_pair.Kinds as put_pair_kinds
use Rattle.moves.proofs.put_pair.Reads as put-pair
use Rattle.moves.proofs.strike.Kinds as strike_kinds
use Rattle.moves.proofs.strike.Reads as strike

-- the first is one: one before it would have no mark, and yet one
one_first : {v : ℕ} {m : List ℕ} {p q : ℕ} → FirstMarked v m p → FirstMarked v m q → p ≡ q
one_first {v} {m} {p} {q} f g = ⊎_elim (λ l. absurd (before f g l)) (⊎_elim (λ l. absurd (before g f l)) (λ e. e)) (order_cases p q)
  where
    before : {p q : ℕ} → FirstMarked v m p → FirstMarked v m q → p < q → ⊥
    before {p} {q} f g l = let h : q ≤ v = g.most in f.found (omega arith) (g.before p l)

pub marks_room_determined : OneResult 0 marks_room_kinds.ps marks_room_kinds.r marks-room.Asked marks-room.Learnt
marks_room_determined κs a asked x y d e p q = p ∙ sym q

pub clear_determined : OneOutcome 1 clear_kinds.ps clear_kinds.r clear.Asked clear.Learnt (λ κs e. e.0.now)
clear_determined κs a asked x y d e p q = (refl, p ∙ sym q)

-- the first pair is one, and one list is left without it
one_pair : (v : ℕ) (m n k : List ℕ) (r s : Option (ℕ × ℕ)) → PairTaken v m n r → PairTaken v m k s → (r ≡ s) × (n ≡ k)
one_pair v m n k (Some r) (Some s) f g =
    let e : r.0 ≡ s.0 = one_first f.0 g.0 in
    let d : r.1 ≡ s.1 = f.2 ∙ ap (λ (p : ℕ). lowest (get_or m p 0)) e ∙ sym g.2 in
    (ap₂ (λ (p q : ℕ). Some (p, q)) e d, f.3 ∙ ap₂ (λ (p q : ℕ). set m p (removed (get_or m p 0) q)) e d ∙ sym g.3)
one_pair v m n k (Some r) None f g = let e : r.0 ≡ v = one_first f.0 g.0 in let z : ⊥ = omega (arith, f.1) in absurd z
one_pair v m n k None (Some s) f g = let e : s.0 ≡ v = one_first g.0 f.0 in let z : ⊥ = omega (arith, g.1) in absurd z
one_pair v m n k None None f g = (refl, f.1 ∙ sym g.1)

pub take_pair_determined : OneOutcome 1 take_pair_kinds.ps take_pair_kinds.r take-pair.Asked take-pair.Learnt (λ κs e. e.1.0.now)
take_pair_determined κs a asked x y d e p q = one_pair _ _ _ _ x y p q

-- the answer, the table and the list
one_put : {idle : Bool} {v p q x : ℕ} {t m w n u k : List ℕ} {r s : Result (Unit {0}) Emptied} → PairPut idle v p q x t m w n r → PairPut idle v p q x t m u k s
    → (r ≡ s) × (◌≡◌ {A = List ℕ × List ℕ} (w, n) (u, k))
one_put f g = (f.told ∙ sym g.told, ap₂ (λ (w n : List ℕ). (w, n)) (f.cells ∙ sym g.cells) (f.list ∙ sym g.list))

pub put_pair_determined : OneOutcome 2 put_pair_kinds.ps put_pair_kinds.r put-pair.Asked put-pair.Learnt {X = List ℕ × List ℕ}
    (λ κs e. (e.1.1.1.1.0.now, e.1.1.1.1.1.0.now))
put_pair_determined κs a asked x y d e p q = one_put p q

pub strike_determined : OneOutcome 2 strike_kinds.ps strike_kinds.r strike.Asked strike.Learnt {X = List ℕ × List ℕ}
    (λ κs e. (e.1.1.1.1.0.now, e.1.1.1.1.1.0.now))
strike_determined κs a asked x y d e p q = one_put p q
