-- What the contracts of `rule7_for` and `rule7_at_first` determine: where two tables are left in which rules 2 and 7 strike nothing, they are one, and so is
-- the answer. Assumes nothing.
use Rattle.rules.specs.Closing.{rules7}
use Rattle.kinds.specs.Sections.{WithKinds}
use Rattle.moves.specs.Moves.{MatchedFor}
use Rattle.moves.specs.Visits.{Keeping}
use Rattle.moves.proofs.Ending.{visits_ended, OneEnd}
use Rattle.same_panels.specs.Visits.{AtFirst}
use Rattle.same_panels.proofs.rule7_for.Kinds as for_kinds
use Rattle.same_panels.proofs.rule7_for.Reads as for
use Rattle.same_panels.proofs.rule7_at_first.Kinds as at_first_kinds
use Rattle.same_panels.proofs.rule7_at_first.Reads as at_first

pub rule7_for_ended : OneEnd 4 for_kinds.ps for_kinds.r for.Asked for.Learnt
    (λ κs a w. WithKinds a.0.now.boards a.0.now.count a.0.now.words.now (λ ks. Keeping rules7 a.0.now.boards ks w)) (λ κs x. x) (λ κs e. e.1.1.1.0.now)
rule7_for_ended κs a asked x y d e p q f g =
    visits_ended (Keeping rules7 a.0.now.boards) (λ ks. MatchedFor a.0.now.boards ks a.1.0 a.1.1.0) _ _ _ _ _ _ _ x y asked.0.listed.lines.0 p q f g

pub rule7_at_first_ended : OneEnd 4 at_first_kinds.ps at_first_kinds.r at_first.Asked at_first.Learnt
    (λ κs a w. WithKinds a.0.now.boards a.0.now.count a.0.now.words.now (λ ks. Keeping rules7 a.0.now.boards ks w)) (λ κs x. x) (λ κs e. e.1.0.now)
rule7_at_first_ended κs a asked x y d e p q f g =
    visits_ended (Keeping rules7 a.0.now.boards) (λ ks. AtFirst a.0.now.boards ks) _ _ _ _ _ _ _ x y asked.listed.lines.0 p q f g
