-- `rules5` meets its contract: rule 5 has struck for each kind line passed. Assumes nothing.
use native.Mathlib.Omega.{arith}
use Rattle.rules.specs.Closing.{rules5}
use Rattle.passes.proofs.Passes.{kept_few}
use Rattle.kinds.proofs.Passing.{once_strikes, along_none, along_one, along_kept, along_end, kind_there, kind_ready, kind_next_lem}
use Rattle.ways.proofs.rules5.Goals as goal

pub loop-init : goal.loop-init
loop-init c = along_none once_strikes c.requires.0.table

pub kind_at-line-requires : goal.kind_at-line-requires
kind_at-line-requires c = kind_there once_strikes c.loop.invariant c.requires.1 (omega arith)

pub rule5-struck-requires : goal.rule5-struck-requires
rule5-struck-requires c = kind_ready once_strikes c.loop.invariant c.requires.1 (omega arith) c.kind_at-line.ensures c.requires.0

pub loop-preserved : goal.loop-preserved
loop-preserved c =
    along_one once_strikes c.loop.counter
    (kind_next_lem once_strikes c.loop.invariant c.requires.1 (omega arith) c.kind_at-line.ensures c.requires.0 (λ ks e. c.rule5-struck.ensures))

pub overflow_add-struck : goal.overflow_add-struck
overflow_add-struck c =
    let struck =
    kind_next_lem once_strikes c.loop.invariant c.requires.1 (omega arith) c.kind_at-line.ensures c.requires.0 (λ ks e. c.rule5-struck.ensures) in
    record { fits = omega (arith, kept_few c.requires.0 (along_kept once_strikes struck c.requires.1)) }

pub returns : goal.returns
unfolding rules5
returns c = along_end once_strikes c.loop.invariant (omega arith)
