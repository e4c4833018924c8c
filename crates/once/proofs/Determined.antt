-- Any two outcomes that a contract of this crate permits are equal. Assumes nothing.
use Rattle.contracts.specs.Promises.{OneOutcome}
use Rattle.passes.proofs.Passes.{once_determined}
use Rattle.once.proofs.rules1.Kinds as rules1_kinds
use Rattle.once.proofs.rules1.Reads as rules1
use Rattle.once.proofs.rules4.Kinds as rules4_kinds
use Rattle.once.proofs.rules4.Reads as rules4

pub rules1_determined : OneOutcome 1 rules1_kinds.ps rules1_kinds.r rules1.Asked rules1.Learnt (λ κs e. e.1.0.now)
rules1_determined κs a asked x y d e p q = let both = once_determined p q in (both.1, both.0)

pub rules4_determined : OneOutcome 2 rules4_kinds.ps rules4_kinds.r rules4.Asked rules4.Learnt (λ κs e. e.1.1.1.0.now)
rules4_determined κs a asked x y d e p q = let both = once_determined (p asked.1.0 asked.1.1) (q asked.1.0 asked.1.1) in (both.1, both.0)
