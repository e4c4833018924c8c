-- `level` meets its contract: the pair is put unless all is allowed. Assumes nothing.
use mathlib.Core.Path.{◌≡◌, sym, ap, ap₂, ◌∙◌}
use borrow.Author.Tests.{ne_eqb}
use Rattle.std.proofs.lemmas.Bool.{eqb-false}
use Rattle.rules.specs.Relations.{meet, converse}
use Rattle.moves.proofs.Striking.{put_so}
use Rattle.sweeps.specs.Sweeps.{allowed}
use Rattle.sweeps.proofs.Leveling.{full_is}
use Rattle.sweeps.proofs.level.Goals as goal

pub returns : goal.returns
returns c =
    let kept : c.bitand-is.result ≡ allowed c.args.v c.args.cells.now c.args.p c.args.q =
    c.bitand-is.ensures ∙ ap₂ meet c.cell-2.ensures (c.converse-bound.ensures ∙ ap converse c.cell.ensures) in
    put_so kept (ne_eqb _ _ (λ z. eqb-false _ _ (sym c.eq.ensures ∙ c.if-eq.false) (kept ∙ z ∙ full_is))) c.put_pair.ensures
