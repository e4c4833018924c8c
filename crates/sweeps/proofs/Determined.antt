-- What the contracts of `through` and `level_all` determine. Assumes nothing.
use Rattle.std.specs.Prelude.{Result, Ok, Err}
use mathlib.Core.List.{List}
use Prim.Native.Nat.{ℕ}
use Rattle.rules.specs.Closing.{rules2}
use Rattle.contracts.specs.Promises.{OfTwo}
use Rattle.passes.specs.Passes.{Idles}
use Rattle.moves.specs.declared.Emptied.{Emptied}
use Rattle.moves.proofs.Passing.{mirrored_idle}
use Rattle.moves.proofs.Ending.{SameEnd, ended, one_end, went_ended, OneEnd}
use Rattle.sweeps.specs.Sweeps.{Evenly, ThroughBoth, Leveled}
use Rattle.sweeps.proofs.through.Kinds as through_kinds
use Rattle.sweeps.proofs.through.Reads as through
use Rattle.sweeps.proofs.level_all.Kinds as level_all_kinds
use Rattle.sweeps.proofs.level_all.Reads as level_all

-- where two tables are left in which rules 2 and 3 strike nothing, they are one, and so is the answer
pub through_ended : OneEnd 2 through_kinds.ps through_kinds.r through.Asked through.Learnt (λ κs a. Evenly a.0) (λ κs x. x) (λ κs e. e.1.1.1.0.now)
through_ended κs a asked x y d e p q f g =
    let v = a.0 in
    let seen = ThroughBoth v a.1.0 a.1.1.0 in
    let t = a.1.1.1.0.now in
    let m = a.1.1.1.1.0.now in
    one_end (Evenly v) v t d.1.1.1.0.now e.1.1.1.0.now x y
    (went_ended (Evenly v) v t seen m d.1.1.1.0.now d.1.1.1.1.0.now x p f)
    (went_ended (Evenly v) v t seen m e.1.1.1.0.now e.1.1.1.1.0.now y q g)

leveled_ended : (v : ℕ) (t w n : List ℕ) (r : Result (Unit {0}) Emptied) → Leveled v t w n r → ended (Idles v (rules2 v)) v t w r
leveled_ended v t w n (Ok _) k =
    record { table = k.fit.ready.table; filled = k.fit.filled; inside = k.inside; keeps = k.keeps; kept = mirrored_idle k.fit.mirrored }
leveled_ended v t w n (Err _) f = f

-- the answer, and the table unless an empty cell was met
pub level_all_determined : OfTwo 2 level_all_kinds.ps level_all_kinds.r level_all.Asked level_all.Learnt
    (λ κs x y d e. SameEnd x y d.1.0.now e.1.0.now)
level_all_determined κs a asked x y d e p q =
    let v = a.0 in
    let t = a.1.0.now in
    one_end (Idles v (rules2 v)) v t d.1.0.now e.1.0.now x y
    (leveled_ended v t d.1.0.now d.1.1.0.now x p)
    (leveled_ended v t e.1.0.now e.1.1.0.now y q)
