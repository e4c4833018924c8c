-- `set_of` meets its contract: the entry of each code is its set, computed once for the whole table. Assumes nothing.
use mathlib.Core.Path.{sym, ap, ◌∙◌}
use lib.ListN.{length}
use Rattle.std.proofs.lemmas.Grind.{get_or_default_zero}
use Rattle.rules.specs.Expressions.{relation, codes, code}
use Rattle.rules.proofs.Entries.{values, value_at}
use Rattle.expressions.proofs.Codes.{set, is_relation}
use Rattle.expressions.proofs.set_of.Goals as goal

pub listed : goal.listed
unfolding codes
listed c = c.requires.0

pub returns : goal.returns
unfolding codes code
returns c =
    is_relation (code c.args.word) c.requires.1
    ∙ ap relation (sym (get_or_default_zero (values (λ w. set (code w)) 0 (length codes)) c.args.word c.index-word.result c.requires.0 ∙ value_at (λ w. set (code w)) (length codes) c.args.word c.requires.0))

pub bounds-word : goal.bounds-word
unfolding codes
bounds-word c = c.requires.0
