-- `put_digits` calls itself on a tenth of the number, whose digits go before the last one. Assumes nothing.
use mathlib.Core.Path.{refl}
use mathlib.Core.List.{[], ◌∷◌}
use Prim.Native.Nat.{◌/◌}
use native.Mathlib.Omega.{arith}
use Rattle.puts.specs.Decimals.{last_digit, decimal}
use Rattle.puts.specs.Texts.{placed}
use Rattle.puts.proofs.Decimals.{decimal_one, decimal_more, decimal_length_one, decimal_length_more}
use Rattle.puts.proofs.Putting.{placed_append}
use Rattle.puts.proofs.+put_digits.Goals as goal

pub bounds-text-at : goal.bounds-text-at
bounds-text-at t c = omega (arith, c.requires, decimal_length_one c.args.n c.if-n-lt10.true)

pub put_digits-last-requires : goal.put_digits-last-requires
put_digits-last-requires t c = (omega arith, omega (arith, c.requires, decimal_length_more c.args.n c.if-n-lt10.false))

pub returns-then-n-lt10 : goal.returns-then-n-lt10
unfolding placed
returns-then-n-lt10 t c =
    let h = c.if-n-lt10.true in
    record { put = rw (decimal_one c.args.n h, c.last_digit.ensures) refl; after = omega (arith, decimal_length_one c.args.n h) }

pub bounds-text-last : goal.bounds-text-last
bounds-text-last t c =
    omega (arith, c.requires, decimal_length_more c.args.n c.if-n-lt10.false, c.put_digits-last.ensures.after)

pub overflow_add-result-2 : goal.overflow_add-result-2
overflow_add-result-2 t c =
    record { fits = omega (arith, c.requires, decimal_length_more c.args.n c.if-n-lt10.false, c.put_digits-last.ensures.after) }

pub returns : goal.returns
unfolding placed
returns t c =
    let h = c.if-n-lt10.false in
    let e = c.put_digits-last.ensures in
    record {
      put = rw (decimal_more c.args.n h, c.last_digit-2.ensures, e.after, e.put) (placed_append c.args.text.now c.args.at (decimal (c.args.n / 10)) (last_digit c.args.n ∷ []));
      after = omega (arith, e.after, decimal_length_more c.args.n h);
    }
