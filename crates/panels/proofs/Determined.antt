-- What the contracts of `rule6_for` and `rule6_without_ways` determine: where two tables are left in which rules 2 and 6 strike nothing, they are one, and so is
-- the answer. Assumes nothing.
use Rattle.rules.specs.Closing.{rules6}
use Rattle.kinds.specs.Sections.{WithKinds}
use Rattle.moves.specs.Moves.{FedFor}
use Rattle.moves.specs.Visits.{Keeping}
use Rattle.moves.proofs.Ending.{visits_ended, OneEnd}
use Rattle.panels.specs.Visits.{FedWithout}
use Rattle.panels.proofs.rule6_for.Kinds as for_kinds
use Rattle.panels.proofs.rule6_for.Reads as for
use Rattle.panels.proofs.rule6_without_ways.Kinds as without_ways_kinds
use Rattle.panels.proofs.rule6_without_ways.Reads as without_ways

pub rule6_for_ended : OneEnd 4 for_kinds.ps for_kinds.r for.Asked for.Learnt
    (λ κs a w. let l = a.0.now in WithKinds l.boards l.count l.words.now (λ ks. Keeping rules6 l.boards ks w)) (λ κs x. x) (λ κs e. e.1.1.1.0.now)
rule6_for_ended κs a asked x y d e p q f g =
    let v = a.0.now.boards in
    visits_ended (Keeping rules6 v) (λ ks. FedFor v ks a.1.0 a.1.1.0) _ _ _ _ _ _ _ x y asked.0.listed.lines.0 p q f g

pub rule6_without_ways_ended : OneEnd 4 without_ways_kinds.ps without_ways_kinds.r without_ways.Asked without_ways.Learnt
    (λ κs a w. let l = a.0.now in WithKinds l.boards l.count l.words.now (λ ks. Keeping rules6 l.boards ks w)) (λ κs x. x) (λ κs e. e.1.0.now)
rule6_without_ways_ended κs a asked x y d e p q f g =
    let v = a.0.now.boards in
    visits_ended (Keeping rules6 v) (λ ks. FedWithout v ks) _ _ _ _ _ _ _ x y asked.listed.lines.0 p q f g
