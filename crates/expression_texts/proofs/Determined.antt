-- Any two outcomes that the contract of `put_expression` permits are equal: the number of words, and what the writer tells. Assumes nothing.
use mathlib.Core.Path.{sym, ◌∙◌}
use Rattle.contracts.specs.Promises.{OneOutcome}
use Rattle.puts.specs.Texts.{told}
use Rattle.puts.proofs.Putting.{told_once}
use Rattle.expression_texts.proofs.put_expression.Kinds as put_expression_kinds
use Rattle.expression_texts.proofs.put_expression.Reads as put-expression

pub put_expression_determined : OneOutcome 3 put_expression_kinds.ps put_expression_kinds.r put-expression.Asked put-expression.Learnt (λ κs e. told e.1.1.0.now)
put_expression_determined κs a asked x y d e p q = (p.0 ∙ sym q.0, told_once p.1 q.1)
