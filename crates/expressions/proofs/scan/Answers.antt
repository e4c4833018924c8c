-- `scan` meets its contract: of the words from each place on, as many expressions are needed as tell of them what is told of all the words. There are never more
-- needed than words passed and one. The measure is the words left. Assumes nothing.
use mathlib.Core.Path.{sym, ◌∙◌}
use Prim.Native.Nat.{◌<◌}
use native.Mathlib.Omega.{arith}
use lib.ListN.{length}
use Rattle.rules.specs.Expressions.{codes}
use Rattle.rules.proofs.Tests.{tested}
use Rattle.expressions.proofs.Codes.{takes_few}
use Rattle.expressions.proofs.Scanning.{needing_one, needing_over, needing_unknown, needing_next}
use Rattle.expressions.proofs.scan.Goals as goal
use Rattle.expressions.proofs.scan.Goals.{then-needed-eq0-via-else-needed-eq0+then-word-ge-CODES, then-needed-eq0-via-then-needed-eq0}

pub loop-i-init : goal.loop-i-init
loop-i-init c = (needing_one c.args.words.now, omega arith, omega arith)

pub returns-then-needed-eq0 : goal.returns-then-needed-eq0
unfolding codes
returns-then-needed-eq0 c =
    let words = c.args.words.now in
    (elim c.then-needed-eq0.branch [ then-needed-eq0-via-then-needed-eq0 w ↦ sym (needing_over words c.loop-i.i (omega arith) c.loop-i.needed (omega arith)) | then-needed-eq0-via-else-needed-eq0+then-word-ge-CODES w ↦ sym (needing_unknown words c.loop-i.i (omega arith) c.loop-i.needed c.from-word.result c.from-word.ensures (omega tested)) ])
    ∙ c.loop-i.invariant.0

pub overflow_sub-needed : goal.overflow_sub-needed
overflow_sub-needed c = omega arith

pub operands_of-requires : goal.operands_of-requires
unfolding codes
operands_of-requires c = (c.operand_counts-counts.ensures, omega tested)

pub overflow_add-needed : goal.overflow_add-needed
unfolding codes
overflow_add-needed c =
    let few = takes_few c.from-word.result (omega tested) in
    omega (arith, c.operands_of.ensures, few, c.loop-i.invariant.1, c.requires)

pub loop-i-smaller : goal.loop-i-smaller
loop-i-smaller c = omega arith

pub loop-i-preserved : goal.loop-i-preserved
unfolding codes
loop-i-preserved c =
    let word = c.from-word.result in
    let listed : word < length codes = omega tested in
    let few = takes_few word listed in
    let next = needing_next c.args.words.now c.loop-i.i (omega arith) c.loop-i.needed word c.if-needed-eq0.false
    c.from-word.ensures listed in
    (rw c.operands_of.ensures (next ∙ c.loop-i.invariant.0), omega (arith, c.operands_of.ensures, few), omega arith)
