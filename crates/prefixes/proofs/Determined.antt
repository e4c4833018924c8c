-- Any two runs of words that the contract of this crate permits are equal. Assumes nothing.
use mathlib.Core.Path.{refl, sym, ◌∙◌}
use Rattle.contracts.specs.Promises.{OneOutcome}
use Rattle.prefixes.proofs.put_prefix.Kinds as put_prefix_kinds
use Rattle.prefixes.proofs.put_prefix.Reads as put-prefix

pub put_prefix_determined : OneOutcome 2 put_prefix_kinds.ps put_prefix_kinds.r put-prefix.Asked put-prefix.Learnt (λ κs e. e.1.0.now)
put_prefix_determined κs a asked x y d e p q = (refl, p ∙ sym q)
