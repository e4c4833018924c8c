-- `relation_line` meets its contract: a good line's expression is found with its set. Assumes nothing.
use mathlib.Core.Path.{◌≡◌, ap, ◌∙◌}
use Prim.Native.Nat.{ℕ, ◌+◌, ◌-◌}
use native.Mathlib.Omega.{arith}
use lib.ListN.{get_or, drop, length-drop}
use lib.Seq.{length-take-le}
use Rattle.std.specs.Prelude.{is_ok}
use Rattle.lines.proofs.Fronts.{good_passed, good_set, good_found}
use Rattle.lines.proofs.relation_line.Goals as goal

pub bounds-words-2 : goal.bounds-words-2
bounds-words-2 c = omega (arith, (good_passed c.requires).fits.three)

pub slice_bounds-evaluate-end : goal.slice_bounds-evaluate-end
slice_bounds-evaluate-end c = omega (arith, (good_passed c.requires).fits.room, (good_passed c.requires).fits.three, c.from-end.ensures)

pub evaluate-requires : goal.evaluate-requires
evaluate-requires c =
    let ws = c.args.words.now in
    let fits = (good_passed c.requires).fits in
    omega (arith, length-take-le (3 + c.from-end.result - 3) (drop 3 ws) (omega (arith, length-drop 3 ws, fits.room, c.from-end.ensures)), fits.high, c.from-end.ensures)

pub unwrap-allowed-requires : goal.unwrap-allowed-requires
unwrap-allowed-requires c =
    let ends : 3 + c.from-end.result ≡ 3 + get_or c.args.words.now 2 0 = ap (λ (n : ℕ). 3 + n) c.from-end.ensures in
    ap is_ok (c.evaluate.ensures ∙ good_set c.requires.0 _ c.requires.2 ends)

pub bounds-words-0 : goal.bounds-words-0
bounds-words-0 c = omega (arith, (good_passed c.requires).fits.three)

pub bounds-words-1 : goal.bounds-words-1
bounds-words-1 c = omega (arith, (good_passed c.requires).fits.three)

pub overflow_sub-result : goal.overflow_sub-result
overflow_sub-result c = omega (arith, (good_passed c.requires).fits.room, (good_passed c.requires).fits.three, c.from-end.ensures)

pub returns : goal.returns
returns c v f read =
    let ends : 3 + c.from-end.result ≡ 3 + get_or c.args.words.now 2 0 = ap (λ (n : ℕ). 3 + n) c.from-end.ensures in
    let set = c.evaluate.ensures ∙ good_set v _ read ends in
    let same : ◌≡◌ {A = ℕ × ℕ} c.unwrap-allowed.result (f.line.allowed, 0) = let u = c.unwrap-allowed.ensures in cc in
    good_found v _ read ends c.from.ensures c.from-2.ensures (ap (λ (p : ℕ × ℕ). p.0) same)
