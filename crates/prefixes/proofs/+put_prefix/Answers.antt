-- The proof of the cycle of calls {put_prefix}: it calls itself on parts of the words, whose number is the measure. Assumes nothing.
use mathlib.Core.Path.{sym, ap, ◌∙◌}
use borrow.Author.Tests.{eqb-true, eqb-false}
use lib.ListN.{length}
use Rattle.std.proofs.lemmas.List.{get_or_default}
use Rattle.typed.specs.Scanning.{Item}
use Rattle.prefixes.proofs.Chiefs.{nothing}
use Rattle.prefixes.proofs.Putting.{put_none, put_parts}
use Rattle.prefixes.proofs.+put_prefix.Goals as goal

pub returns-then-is_empty : goal.returns-then-is_empty
returns-then-is_empty t c = put_none c.args.items.now _ _ (eqb-true (length c.args.items.now) 0 (sym c.is_empty.ensures ∙ c.if-is_empty.true))

pub returns : goal.returns
returns t c =
    let xs = c.args.items.now in
    let some = eqb-false (length xs) 0 (sym c.is_empty.ensures ∙ c.if-is_empty.false) in
    let top = c.chief-top.result in
    let code = ap (λ (x : Item). x.code) (c.loosest.view_is ∙ c.index-items-top.is ∙ get_or_default xs top _ nothing c.chief-top.ensures.within) in
    put_parts xs some top c.chief-top.ensures.loosest c.args.words.now _ _ c.args.at c.loosest.inside.code code c.put_prefix.ensures c.put_prefix-2.ensures
