-- `symbol_of` meets its contract: `boards`, one of the words, or a number. Assumes nothing.
use mathlib.Core.Path.{◌≡◌, sym, ap, ◌∙◌}
use Rattle.std.proofs.Common.{rules}
use Rattle.typed.specs.Symbols.{words}
use Rattle.symbols.specs.Tokens.{mark}
use Rattle.symbols.proofs.Words.{is_boards_word, no_boards_word, is_word, no_word, by_number, number_marked}
use Rattle.symbols.proofs.symbol_of.Goals as goal

pub returns-then-same : goal.returns-then-same
returns-then-same c = sym (ap mark (is_boards_word _ (sym c.same.ensures ∙ c.if-same.true)))

pub returns-in-Some : goal.returns-in-Some
unfolding words
returns-in-Some c =
    let run = c.args.run.now in
    sym (ap mark (no_boards_word run (sym c.same.ensures ∙ c.if-same.false) ∙ is_word run c.in-Some.code c.in-Some.ensures))

pub returns-in-None : goal.returns-in-None
unfolding words by_number
returns-in-None c =
    let run = c.args.run.now in
    let e : c.map_or.result ≡ by_number c.number_of.result = search rules in
    e ∙ number_marked run c.number_of.result c.number_of.ensures
    ∙ sym (ap mark (no_boards_word run (sym c.same.ensures ∙ c.if-same.false) ∙ no_word run c.in-None.ensures))
