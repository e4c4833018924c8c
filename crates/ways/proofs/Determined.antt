-- Any two outcomes that the contract of `rules5` permits are equal. Assumes nothing.
use Rattle.contracts.specs.Promises.{OneOutcome}
use Rattle.passes.proofs.Passes.{once_determined}
use Rattle.ways.proofs.rules5.Kinds as rules5_kinds
use Rattle.ways.proofs.rules5.Reads as rules5

pub rules5_determined : OneOutcome 2 rules5_kinds.ps rules5_kinds.r rules5.Asked rules5.Learnt (λ κs e. e.1.1.1.0.now)
rules5_determined κs a asked x y d e p q = let both = once_determined (p asked.1.0 asked.1.1) (q asked.1.0 asked.1.1) in (both.1, both.0)
