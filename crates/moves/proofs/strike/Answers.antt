-- `strike` meets its contract: the pair is put only where that changes the cell. Assumes nothing.
use mathlib.Core.Path.{◌≡◌, sym, ap, ◌∙◌}
use Prim.Native.Nat.{ℕ}
use borrow.Author.Tests.{ne_eqb}
use Rattle.std.proofs.lemmas.Bool.{eqb-true, eqb-false}
use Rattle.rules.specs.Relations.{meet}
use Rattle.moves.specs.Moves.{kept_of}
use Rattle.moves.proofs.Striking.{put_so, struck_not}
use Rattle.moves.proofs.strike.Goals as goal

pub returns-then-eq : goal.returns-then-eq
returns-then-eq c =
    struck_not c.args.bound c.requires.0 c.requires.2 c.requires.3 (c.bitand-is.ensures ∙ ap (λ (x : ℕ). meet x c.args.bound) c.cell-was.ensures)
    (eqb-true _ _ (sym c.eq.ensures ∙ c.if-eq.true) ∙ c.cell-was.ensures)

pub returns : goal.returns
returns c =
    let keeps : c.bitand-is.result ≡ kept_of c.args.v c.args.cells.now c.args.p c.args.q c.args.bound =
    c.bitand-is.ensures ∙ ap (λ (x : ℕ). meet x c.args.bound) c.cell-was.ensures in
    put_so keeps (ne_eqb _ _ (λ z. eqb-false _ _ (sym c.eq.ensures ∙ c.if-eq.false) (keeps ∙ z ∙ sym c.cell-was.ensures))) c.put_pair.ensures
