-- Any two outcomes of the rounds and of a drained list are equal, but for the cells where one was emptied, and for the list. Assumes nothing.
use mathlib.Core.Path.{◌≡◌, refl, ap}
use Rattle.std.specs.Prelude.{Result, Ok, Err, IsOk}
use mathlib.Core.List.{List}
use Prim.Native.Nat.{ℕ}
use lib.Dec.{T_not}
use Rattle.rules.specs.Descriptions.{KindLine}
use Rattle.rules.specs.Tables.{emptied}
use Rattle.rules.specs.Closing.{Rule}
use Rattle.passes.specs.Passes.{Clash}
use Rattle.passes.proofs.Passes.{idle_determined}
use Rattle.contracts.specs.Promises.{OfTwo}
use Rattle.moves.proofs.Ending.{SameEnd, ended, one_end}
use Rattle.moves.specs.declared.Emptied.{Emptied}
use Rattle.rules.proofs.Tests.{clash}
use Rattle.rounds.specs.Rounds.{rules_again, Settled, after_rounds, Again, drained}
use Rattle.rounds.proofs.rounds.Kinds as rounds_kinds
use Rattle.rounds.proofs.rounds.Reads as rounds
use Rattle.rounds.proofs.drain.Kinds as drain_kinds
use Rattle.rounds.proofs.drain.Reads as drain

-- the result, and the cells unless one was emptied
abbrev pub Fixed : Result ℕ Emptied → Result ℕ Emptied → List ℕ → List ℕ → Type 0
Fixed q r u w = (q ≡ r) × (IsOk q → u ≡ w)

module _ {v : ℕ} {rs : List Rule} {t : List ℕ} where
  settled_unclashed : {u : List ℕ} {m : ℕ} → Settled v rs t u m → Clash v rs t → ⊥
  settled_unclashed {u} k f = T_not (emptied u) k.filled (f u k.kept.table k.kept.inside k.idle)

one_outcome : (v : ℕ) (rs : List Rule) (t u w : List ℕ) (q r : Result ℕ Emptied) → after_rounds v rs t u q → after_rounds v rs t w r → Fixed q r u w
one_outcome v rs t u w (Ok m) (Ok n) k l = let d = idle_determined k.kept k.idle l.kept l.idle in (ap Ok d.1, λ z. d.0)
one_outcome v rs t u w (Ok m) (Err _) k f = absurd (settled_unclashed k f)
one_outcome v rs t u w (Err _) (Ok n) f l = absurd (settled_unclashed l f)
one_outcome v rs t u w (Err _) (Err _) f g = (refl, λ z. clash (cc))

pub rounds_determined : OfTwo 2 rounds_kinds.ps rounds_kinds.r rounds.Asked rounds.Learnt (λ κs x y d e. Fixed x y d.1.1.1.0.now e.1.1.1.0.now)
rounds_determined κs a asked x y d e p q =
    one_outcome a.0 (rules_again a.0 asked.1.0.0) a.1.1.1.0.now d.1.1.1.0.now e.1.1.1.0.now x y (p asked.1.0.0 asked.1.0.1) (q asked.1.0.0 asked.1.0.1)

drained_ended : (v : ℕ) (ks : List KindLine) (t w n : List ℕ) (r : Result (Unit {0}) Emptied) → drained v ks t w n r → ended (Again v ks) v t w r
drained_ended v ks t w n (Ok _) k =
    record { table = k.fit.ready.table; filled = k.fit.filled; inside = k.inside; keeps = k.keeps; kept = k.idle }
drained_ended v ks t w n (Err _) f = f

pub drain_determined : OfTwo 4 drain_kinds.ps drain_kinds.r drain.Asked drain.Learnt (λ κs x y d e. SameEnd x y d.1.0.now e.1.0.now)
drain_determined κs a asked x y d e p q =
    let v = a.0.now.boards in
    let (ks, fill) = asked.0.listed.lines.0 in
    let t = a.1.0.now in
    one_end (Again v ks) v t d.1.0.now e.1.0.now x y
    (drained_ended v ks t d.1.0.now d.1.1.0.now x (p ks fill))
    (drained_ended v ks t e.1.0.now e.1.1.0.now y (q ks fill))
