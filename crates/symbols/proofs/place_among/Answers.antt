-- `place_among` meets its contract: the words stand behind references. Assumes nothing.
use mathlib.Core.List.{List}
use borrow.Author.Tests.{tests}
use denote.Ref.{Bor}
use Rattle.std.proofs.Common.{rules, ℕ}
use Rattle.std.specs.Str.{bytes_eq}
use Rattle.std.proofs.lemmas.Iterator.{YieldsList-from_slice}
use Rattle.std.proofs.lemmas.Iterator.Search.{position_from_yields_List}
use Rattle.symbols.proofs.Words.{among}
use Rattle.symbols.proofs.place_among.Goals as goal

pub returns : goal.returns
returns c =
    among c.args.run.now c.args.words.now c.position.result
    (position_from_yields_List (λ (w : Bor (List ℕ)). bytes_eq w.now c.args.run.now) _ _ _ c.position.ensures.ran (YieldsList-from_slice c.args.words.now cc)
    (λ x b q k. search (rules, tests)))
