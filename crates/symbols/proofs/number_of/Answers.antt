-- `number_of` meets its contract: the bytes passed are the digits of the number so far. Assumes nothing.
use mathlib.Core.Path.{sym, ◌∙◌}
use Prim.Native.Nat.{◌≤◌, ◌<◌}
use native.Mathlib.Omega.{arith}
use borrow.Author.Tests.{eqb-false}
use lib.ListN.{length}
use Rattle.std.proofs.Common.{rules}
use Rattle.symbols.proofs.Digits.{most_few, next_so_far, nothing_spelled, too_long, padded_none, no_digit, no_number, one_number, decimal_char, outside}
use Rattle.symbols.proofs.number_of.Goals as goal
use Rattle.symbols.proofs.number_of.Goals.{then-is_empty-via-then-is_empty, then-is_empty-via-else-is_empty+then-run-gt-MOST_DIGITS, then-is_empty-via-else-is_empty+else-run-gt-MOST_DIGITS+then-padded}

pub returns-then-is_empty : goal.returns-then-is_empty
returns-then-is_empty c =
    no_number _ (elim c.then-is_empty.branch [
      | then-is_empty-via-then-is_empty w ↦ nothing_spelled _ (search rules)
      | then-is_empty-via-else-is_empty+then-run-gt-MOST_DIGITS w ↦ too_long _ w.if-run-gt-MOST_DIGITS.true
      | then-is_empty-via-else-is_empty+else-run-gt-MOST_DIGITS+then-padded w ↦ padded_none _ (sym w.padded.ensures ∙ w.if-padded.true)
    ])

pub overflow_mul-value : goal.overflow_mul-value
overflow_mul-value c = record { fits = omega (arith, c.loop-byte.invariant.small, most_few c.loop-byte.byte-index (omega arith)) }

pub returns-in_err-value : goal.returns-in_err-value
returns-in_err-value c =
    let cases = c.in_err-value.ensures.cases in
    c.from_residual.ensures
    ∙ no_number _ (no_digit _ c.loop-byte.byte-index c.loop-byte-test.true (outside _ (λ h l. let m = cases (omega arith) (omega arith) in omega arith)))

pub overflow_add-value : goal.overflow_add-value
overflow_add-value c =
    let value = c.in_ok-value.ensures.value in
    record { fits = omega (arith, c.loop-byte.invariant.small, value.0, value.1, most_few c.loop-byte.byte-index (omega arith)) }

pub loop-byte-preserved : goal.loop-byte-preserved
loop-byte-preserved c =
    let value = c.in_ok-value.ensures.value in
    let small : c.in_ok-value.field-0 < 10 = omega (arith, value.0, value.1) in
    next_so_far _ c.loop-byte.byte-index c.loop-byte.value c.in_ok-value.field-0
    (sym c.padded.ensures ∙ c.if-padded.false)
    c.loop-byte.invariant c.loop-byte-test.true small (sym c.from.ensures ∙ decimal_char _ _ c.in_ok-value.ensures.cases small)

pub returns : goal.returns
returns c =
    let filled = eqb-false (length c.args.run.now) 0 (sym c.is_empty.ensures ∙ c.if-is_empty.false) in
    let some : 1 ≤ length c.args.run.now = omega arith in
    c.ok.ensures.value
    ∙ one_number _ c.loop-byte.byte-index c.loop-byte.value some c.loop-byte-test.false c.loop-byte.invariant c.try_from.result c.try_from.ensures
