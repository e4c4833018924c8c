-- `revisit` meets its contract: the rules of boards are visited, and then those of kind lines, if there are any. Assumes nothing.
use mathlib.Core.List.{List}
use Prim.Native.Nat.{ℕ}
use Rattle.std.specs.Prelude.{Result, Ok, Err}
use Rattle.rules.specs.Descriptions.{KindLine}
use Rattle.moves.specs.declared.Emptied.{Emptied}
use Rattle.moves.specs.Moves.{Moved, Went}
use Rattle.moves.proofs.Moving.{moved_none, moved_as, lost_as, lost_then}
use Rattle.moves.proofs.Passing.{moved_site, went_err}
use Rattle.sweeps.specs.Sweeps.{Evenly, ThroughBoth}
use Rattle.rounds.specs.Rounds.{Again, LinesSeen, Seen}
use Rattle.rounds.proofs.Draining.{again_three, apart_moved, lines_none, all_seen}
use Rattle.rounds.proofs.revisit.Goals as goal

-- the visit to rule 3 has gone on
last : {v : ℕ} (ks : List KindLine) {p q : ℕ} {t m u k : List ℕ} (w n : List ℕ) (r : Result (Unit {0}) Emptied) → Moved (Evenly v) v t m u k → ThroughBoth v p q k u
    → Went (Again v ks) v (LinesSeen v ks p q) u k w n r → Went (Again v ks) v (Seen v ks p q) t m w n r
last ks w n (Ok _) f f3 h = all_seen f f3 h.0 h.1
last ks w n (Err _) f f3 h = lost_then (moved_as (again_three _ ks) f) h

pub through-requires : goal.through-requires
through-requires c = let pre = c.requires in (pre.0.table, pre.0.list, pre.1, pre.2)

pub returns-in_err-through : goal.returns-in_err-through
returns-in_err-through c =
    let v = c.args.lines.now.boards in
    λ ks e.
    went_err (Again v ks) v (Seen v ks c.args.p c.args.q) _ c.args.marks.now _ _ c.from_residual.result c.from_residual.ensures.0
    (lost_as (again_three _ ks) c.in_err-through.ensures)

pub returns-then-lines-eq0 : goal.returns-then-lines-eq0
returns-then-lines-eq0 c =
    λ ks e.
    let went = c.in_ok-through.ensures in
    all_seen went.0 went.1 (moved_none went.0.fit went.0.list)
    (lines_none c.args.lines.now.boards c.args.lines.now.count c.args.lines.now.words.now ks e c.if-lines-eq0.true c.args.p c.args.q _ _)

pub revisit_lines-requires : goal.revisit_lines-requires
revisit_lines-requires c =
    let pre = c.requires in
    let went = c.in_ok-through.ensures in
    (moved_site pre.0.listed went.0, pre.1, pre.2, λ ks e k a l b. apart_moved went.0 k l (pre.3 ks e k a l b))

pub returns : goal.returns
returns c =
    λ ks e.
    let went = c.in_ok-through.ensures in
    let rest = c.revisit_lines in
    last ks rest.new.cells rest.new.marks rest.result went.0 went.1 (rest.ensures ks e)
