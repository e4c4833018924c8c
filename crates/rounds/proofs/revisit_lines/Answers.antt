-- `revisit_lines` meets its contract: each visit sees to its rules, and what was seen to before stays so. Assumes nothing.
use mathlib.Core.List.{List}
use Prim.Native.Nat.{ℕ}
use Rattle.std.specs.Prelude.{Result, Ok, Err}
use Rattle.rules.specs.Descriptions.{KindLine}
use Rattle.rules.specs.Closing.{rules6, rules7}
use Rattle.moves.specs.declared.Emptied.{Emptied}
use Rattle.moves.specs.Moves.{Moved, Went, FedFor, MatchedFor}
use Rattle.moves.specs.Visits.{Keeping}
use Rattle.moves.proofs.Moving.{moved_as, lost_as, lost_then}
use Rattle.moves.proofs.Passing.{moved_site, went_err}
use Rattle.rounds.specs.Rounds.{Again, LinesSeen}
use Rattle.rounds.proofs.Draining.{again_six, again_seven, apart_moved, lines_seen}
use Rattle.rounds.proofs.revisit_lines.Goals as goal

-- both visits to rule 6 have gone on
last : {v : ℕ} (ks : List KindLine) {p q : ℕ} {t m u k u' k' : List ℕ} (w n : List ℕ) (r : Result (Unit {0}) Emptied) → Moved (Keeping rules6 v ks) v t m u k → FedFor v ks p q k u
    → Moved (Keeping rules6 v ks) v u k u' k' → FedFor v ks q p k' u' → Went (Keeping rules7 v ks) v (MatchedFor v ks p q) u' k' w n r
    → Went (Again v ks) v (LinesSeen v ks p q) t m w n r
last ks w n (Ok _) f f6 g g6 h = lines_seen f f6 g g6 h.0 h.1
last ks w n (Err _) f f6 g g6 h = lost_then (moved_as (again_six _ ks) f) (lost_then (moved_as (again_six _ ks) g) (lost_as (again_seven _ ks) h))

pub returns-in_err-rule6_for : goal.returns-in_err-rule6_for
returns-in_err-rule6_for c =
    let v = c.args.lines.now.boards in
    λ ks e.
    went_err (Again v ks) v (LinesSeen v ks c.args.p c.args.q) _ c.args.marks.now _ _ c.from_residual.result c.from_residual.ensures.0
    (lost_as (again_six _ ks) (c.in_err-rule6_for.ensures ks e))

pub rule6_for-requires-2 : goal.rule6_for-requires-2
rule6_for-requires-2 c =
    let pre = c.requires in
    let has = pre.0.listed.lines.0 in
    (moved_site pre.0.listed (c.in_ok-rule6_for.ensures has.0 has.1).0, pre.2, pre.1)

pub returns-in_err-rule6_for-2 : goal.returns-in_err-rule6_for-2
returns-in_err-rule6_for-2 c =
    let v = c.args.lines.now.boards in
    λ ks e.
    went_err (Again v ks) v (LinesSeen v ks c.args.p c.args.q) _ c.args.marks.now _ _ c.from_residual-in_err-rule6_for-2.result c.from_residual-in_err-rule6_for-2.ensures.0
    (lost_then (moved_as (again_six _ ks) (c.in_ok-rule6_for.ensures ks e).0) (lost_as (again_six _ ks) (c.in_err-rule6_for-2.ensures ks e)))

pub rule7_for-requires : goal.rule7_for-requires
rule7_for-requires c =
    let pre = c.requires in
    let has = pre.0.listed.lines.0 in (
      moved_site pre.0.listed (c.in_ok-rule6_for-2.ensures has.0 has.1).0,
      pre.1,
      pre.2,
      λ ks e k a l b. apart_moved (c.in_ok-rule6_for-2.ensures ks e).0 k l (apart_moved (c.in_ok-rule6_for.ensures ks e).0 k l (pre.3 ks e k a l b)),
    )

pub returns : goal.returns
returns c =
    λ ks e.
    let one = c.in_ok-rule6_for.ensures ks e in
    let two = c.in_ok-rule6_for-2.ensures ks e in
    last ks c.rule7_for.new.cells c.rule7_for.new.marks c.rule7_for.result one.0 one.1 two.0 two.1 (c.rule7_for.ensures ks e)
