-- `put_relation` meets its contract: the first board, the expression and the second board, one after the other. Assumes nothing.
use mathlib.Core.Path.{refl, sym}
use native.Mathlib.Omega.{arith}
use Rattle.rules.proofs.Parts.{tail}
use Rattle.puts.proofs.Putting.{putting, fits_as, put_as}
use Rattle.sheet_texts.proofs.Bytes.{begins, expression_words, relation_front}
use Rattle.sheet_texts.proofs.put_relation.Goals as goal

pub put_number-requires : goal.put_number-requires
put_number-requires c =
    let room = fits_as (relation_front c.requires.0 (tail 3 c.args.words.now) c.from.ensures refl) c.requires.1 in grind putting

pub put_expression-expression-requires : goal.put_expression-expression-requires
put_expression-expression-requires c =
    let room = fits_as (relation_front c.requires.0 (tail 3 c.args.words.now) c.from.ensures refl) c.requires.1 in
    (begins c.requires.0 (tail 3 c.args.words.now), grind putting)

pub put_last-requires : goal.put_last-requires
put_last-requires c =
    let room = fits_as (relation_front c.requires.0 (tail 3 c.args.words.now) c.from.ensures c.from-2.ensures) c.requires.1 in grind putting

pub returns-clause-after : goal.returns-clause-after
returns-clause-after c = omega (arith, c.put_expression-expression.ensures.extent, expression_words c.requires.0 (tail 3 c.args.words.now))

pub returns-clause-put : goal.returns-clause-put
returns-clause-put c = put_as (sym (relation_front c.requires.0 (tail 3 c.args.words.now) c.from.ensures c.from-2.ensures)) (grind putting)

pub overflow_add-result : goal.overflow_add-result
overflow_add-result c =
    record { fits = omega (arith, c.put_expression-expression.ensures.extent, expression_words c.requires.0 (tail 3 c.args.words.now), c.requires.0.inside) }
