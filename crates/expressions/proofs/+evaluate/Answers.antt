-- The proof of the cycle of calls {evaluate}: it calls itself on the words left, whose number is the measure. Assumes nothing.
use mathlib.Core.Path.{◌≡◌, sym, ap, subst, ◌∙◌}
use mathlib.Core.List.{List}
use Prim.Native.Nat.{ℕ, ◌-◌, ◌<◌}
use native.Mathlib.Nat.{le_of_lt}
use native.Mathlib.Omega.{arith}
use borrow.Author.Tests.{not-true, not-false}
use lib.ListN.{length, get_or, take, drop}
use Rattle.std.specs.Prelude.{Result}
use Rattle.std.proofs.lemmas.Result.{err_from_is_err_and}
use Rattle.rules.proofs.Tests.{tested}
use Rattle.rules.proofs.Parts.{tail, tail_length}
use Rattle.rules.specs.Expressions.{codes, code}
use Rattle.expressions.proofs.Codes.{is_one, is_two, no_code, takes_none, takes_some, takes_one, takes_two, takes_few}
use Rattle.expressions.proofs.Evaluation as evaluation
use Rattle.expressions.proofs.+evaluate.Goals as goal

-- how `evaluate` finds a part of the words that is lent to it, as it finds what is left after k of them
lent : (k : ℕ) (ws : List ℕ) (e : Result (ℕ × ℕ) ℕ) → evaluation.Finds (take (length ws - k) (drop k ws)) e → evaluation.Finds (drop k ws) e
lent k ws e f = subst (λ (us : List ℕ). evaluation.Finds us e) (tail k ws) f

-- what stands at the front of some words
front : (ws : List ℕ) {w : ℕ} → w ≡ get_or ws 0 0 → code (get_or ws 0 0) ≡ code w
front ws e = sym (ap code e)

pub returns-then-is_empty : goal.returns-then-is_empty
returns-then-is_empty t c = evaluation.finds_nothing c.args.words.now (grind arith)

pub returns-then-word-ge-CODES : goal.returns-then-word-ge-CODES
unfolding codes
returns-then-word-ge-CODES t c =
    evaluation.finds_unknown c.args.words.now (grind arith) (front c.args.words.now c.from-word.ensures ∙ no_code c.from-word.result c.if-word-ge-CODES.true)

pub set_of-requires : goal.set_of-requires
unfolding codes
set_of-requires t c =
    let listed : c.from-word.result < length codes = omega tested in
    (listed, takes_none c.from-word.result listed c.among.ensures (not-true _ c.if-not-among.true-raw))

pub returns-then-not-among : goal.returns-then-not-among
returns-then-not-among t c =
    evaluation.finds_relation c.args.words.now (grind arith) _ (front c.args.words.now c.from-word.ensures ∙ c.set_of.ensures)

pub returns-in_err-x : goal.returns-in_err-x
unfolding codes
returns-in_err-x t c =
    let listed : c.from-word.result < length codes = omega tested in
    let ws = c.args.words.now in
    let p = err_from_is_err_and c.from_residual.result c.from_residual.ensures.1 in
    rw (p.1, p.2)
    (evaluation.finds_no_first ws (grind arith) _ (front c.args.words.now c.from-word.ensures)
    (takes_some c.from-word.result listed c.among.ensures (not-false _ c.if-not-among.false-raw)) (takes_few c.from-word.result listed) _
    (lent 1 ws _ (sym c.in_err-x.was ∙ c.evaluate.ensures)))

pub apply_one-requires : goal.apply_one-requires
unfolding codes
apply_one-requires t c =
    let listed : c.from-word.result < length codes = omega tested in (
      listed,
      takes_one c.from-word.result listed c.among.ensures (not-false _ c.if-not-among.false-raw) c.among-2.ensures c.if-among.true,
    )

pub returns-then-among : goal.returns-then-among
unfolding codes
returns-then-among t c =
    let listed : c.from-word.result < length codes = omega tested in
    let ws = c.args.words.now in
    rw c.apply_one.ensures
    (evaluation.finds_one ws (grind arith) _ _ (lent 1 ws _ (sym c.in_ok-x.was ∙ c.evaluate.ensures)) _
    (front c.args.words.now c.from-word.ensures ∙ is_one _ (takes_one c.from-word.result listed c.among.ensures (not-false _ c.if-not-among.false-raw) c.among-2.ensures c.if-among.true)))

pub overflow_sub-second : goal.overflow_sub-second
overflow_sub-second t c =
    let ws = c.args.words.now in
    le_of_lt (evaluation.second_at ws (grind arith) _ _ (lent 1 ws _ (sym c.in_ok-x.was ∙ c.evaluate.ensures))).0

pub evaluate-requires-2 : goal.evaluate-requires-2
evaluate-requires-2 t c =
    let ws = c.args.words.now in
    let l = tail_length (length ws - c.in_ok-x.left) ws in
    (omega (arith, c.decreases, (evaluation.second_at ws (grind arith) _ _ (lent 1 ws _ (sym c.in_ok-x.was ∙ c.evaluate.ensures))).0), omega (arith, c.requires))

pub returns-in_err-y : goal.returns-in_err-y
unfolding codes
returns-in_err-y t c =
    let listed : c.from-word.result < length codes = omega tested in
    let ws = c.args.words.now in
    let p = err_from_is_err_and c.from_residual-in_err-y.result c.from_residual-in_err-y.ensures.1 in
    rw (p.1, p.2)
    (evaluation.finds_no_second ws (grind arith) _ _ (lent 1 ws _ (sym c.in_ok-x.was ∙ c.evaluate.ensures)) _
    (front c.args.words.now c.from-word.ensures ∙ is_two _ (takes_two c.from-word.result listed c.among.ensures (not-false _ c.if-not-among.false-raw) c.among-2.ensures c.if-among.false)) _
    (lent (length ws - c.in_ok-x.left) ws _ (sym c.in_err-y.was ∙ c.evaluate-2.ensures)))

pub apply_two-requires : goal.apply_two-requires
unfolding codes
apply_two-requires t c =
    let listed : c.from-word.result < length codes = omega tested in (
      listed,
      takes_two c.from-word.result listed c.among.ensures (not-false _ c.if-not-among.false-raw) c.among-2.ensures c.if-among.false,
    )

pub returns : goal.returns
unfolding codes
returns t c =
    let listed : c.from-word.result < length codes = omega tested in
    let ws = c.args.words.now in
    rw c.apply_two.ensures
    (evaluation.finds_two ws (grind arith) _ _ (lent 1 ws _ (sym c.in_ok-x.was ∙ c.evaluate.ensures)) _ _
    (lent (length ws - c.in_ok-x.left) ws _ (sym c.in_ok-y.was ∙ c.evaluate-2.ensures)) _
    (front c.args.words.now c.from-word.ensures ∙ is_two _ (takes_two c.from-word.result listed c.among.ensures (not-false _ c.if-not-among.false-raw) c.among-2.ensures c.if-among.false)))
