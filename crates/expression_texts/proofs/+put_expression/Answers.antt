-- The proof of the cycle of calls {put_expression}: it calls itself on the operands, with fewer words left, whose number is the measure. Assumes nothing.
use mathlib.Core.Path.{◌≡◌, refl, sym, ap, ◌∙◌}
use mathlib.Core.List.{List}
use Prim.Native.Nat.{ℕ, ◌-◌, ◌≤◌, ◌<◌}
use native.Mathlib.Omega.{arith}
use borrow.Author.Rules.{rules}
use lib.ListN.{length, get_or, take, drop}
use Rattle.rules.proofs.Parts.{tail, tail_length}
use Rattle.puts.proofs.Putting.{putting, fits_as, put_as}
use Rattle.expression_texts.specs.Puts.{Begins, extent}
use Rattle.expression_texts.proofs.Begun.{HasOne, HasTwo, begun_some, extent_within, names, has_one, has_two}
use Rattle.expression_texts.proofs.+put_expression.Goals as goal

-- the words from a place on, as code lends them
abbrev lent : ℕ → List ℕ → List ℕ
lent k ws = take (length ws - k) (drop k ws)

-- the operands of the first word, where they are lent: the one, or the first and the one k words after it
one_operand : (ws : List ℕ) → Begins ws → 6 ≤ get_or ws 0 0 → (n : ℕ) → HasOne ws (lent 1 ws) n
one_operand ws b large n = has_one ws b (tail 1 ws) large n

two_operands : (ws : List ℕ) → Begins ws → 4 ≤ get_or ws 0 0 → get_or ws 0 0 < 6 → (n : ℕ) {k : ℕ} → k ≡ extent (lent 1 ws)
    → HasTwo ws (lent 1 ws) (lent k (lent 1 ws)) n
two_operands ws b large small n {k} e =
    has_two ws b (tail 1 ws) large small n (tail k (lent 1 ws) ∙ ap (λ (m : ℕ). drop m (lent 1 ws)) e)

pub bounds-words-0 : goal.bounds-words-0
bounds-words-0 t c = begun_some c.args.words.now c.requires.0

pub slice_bounds-operands-count : goal.slice_bounds-operands-count
slice_bounds-operands-count t c = begun_some c.args.words.now c.requires.0

pub slice_bounds-operands-start : goal.slice_bounds-operands-start
slice_bounds-operands-start t c = let h = begun_some c.args.words.now c.requires.0 in search rules

-- ---- a word that names a relation

pub put_word-requires : goal.put_word-requires
put_word-requires t c =
    let h = names c.args.words.now c.requires.0 c.if-code-lt-OR.true c.args.level in (omega arith, fits_as h.text c.requires.1)

pub returns-then-code-lt-OR-clause-extent : goal.returns-then-code-lt-OR-clause-extent
returns-then-code-lt-OR-clause-extent t c = sym (names c.args.words.now c.requires.0 c.if-code-lt-OR.true c.args.level).words

pub returns-then-code-lt-OR-clause-put : goal.returns-then-code-lt-OR-clause-put
returns-then-code-lt-OR-clause-put t c =
    put_as (sym (names c.args.words.now c.requires.0 c.if-code-lt-OR.true c.args.level).text) c.put_word.ensures

-- ---- a word with one operand

pub put_word-requires-then-code-gt-AND : goal.put_word-requires-then-code-gt-AND
put_word-requires-then-code-gt-AND t c =
    let ws = c.args.words.now in
    let h = one_operand ws c.requires.0 (omega arith) c.args.level in
    let room = fits_as h.text c.requires.1 in
    (h.listed, grind putting)

pub put_expression-requires : goal.put_expression-requires
put_expression-requires t c =
    let ws = c.args.words.now in
    let h = one_operand ws c.requires.0 (omega arith) c.args.level in
    let room = fits_as h.text c.requires.1 in
    let some = begun_some ws c.requires.0 in
    (omega (arith, tail_length 1 ws), (h.operand, grind putting))

pub overflow_add-result : goal.overflow_add-result
overflow_add-result t c =
    let ws = c.args.words.now in
    let h = one_operand ws c.requires.0 (omega arith) c.args.level in
    record { fits = omega (arith, h.words, extent_within c.requires.0, c.put_expression.ensures.extent) }

pub returns-then-code-gt-AND-clause-extent : goal.returns-then-code-gt-AND-clause-extent
returns-then-code-gt-AND-clause-extent t c =
    let ws = c.args.words.now in
    let h = one_operand ws c.requires.0 (omega arith) c.args.level in
    omega (arith, h.words, c.put_expression.ensures.extent)

pub returns-then-code-gt-AND-clause-put : goal.returns-then-code-gt-AND-clause-put
returns-then-code-gt-AND-clause-put t c =
    let ws = c.args.words.now in
    let h = one_operand ws c.requires.0 (omega arith) c.args.level in
    put_as (sym h.text) (grind putting)

-- ---- a word that joins two operands

pub put_paren-requires : goal.put_paren-requires
put_paren-requires t c =
    let ws = c.args.words.now in
    let h = two_operands ws c.requires.0 (omega arith) (omega arith) c.args.level refl in
    let room = fits_as h.text c.requires.1 in
    grind putting

pub put_expression-left-requires : goal.put_expression-left-requires
put_expression-left-requires t c =
    let ws = c.args.words.now in
    let h = two_operands ws c.requires.0 (omega arith) (omega arith) c.args.level refl in
    let room = fits_as h.text c.requires.1 in
    let some = begun_some ws c.requires.0 in
    (omega (arith, tail_length 1 ws), (h.first, grind putting))

pub put_word-requires-2 : goal.put_word-requires-2
put_word-requires-2 t c =
    let ws = c.args.words.now in
    let h = two_operands ws c.requires.0 (omega arith) (omega arith) c.args.level c.put_expression-left.ensures.extent in
    let room = fits_as h.text c.requires.1 in
    (omega arith, grind putting)

pub offset_bounds-operands-left : goal.offset_bounds-operands-left
offset_bounds-operands-left t c =
    let ws = c.args.words.now in
    let h = two_operands ws c.requires.0 (omega arith) (omega arith) c.args.level refl in
    let few : extent (lent 1 ws) ≤ length (lent 1 ws) = extent_within h.first in
    let size : length (lent 1 ws) ≡ length ws - 1 = tail_length 1 ws in
    let e = c.put_expression-left.ensures.extent in
    search rules

pub slice_bounds-put_expression-count : goal.slice_bounds-put_expression-count
slice_bounds-put_expression-count t c =
    let ws = c.args.words.now in
    let h = two_operands ws c.requires.0 (omega arith) (omega arith) c.args.level refl in
    omega (arith, extent_within h.first, c.put_expression-left.ensures.extent)

pub slice_bounds-put_expression-start : goal.slice_bounds-put_expression-start
slice_bounds-put_expression-start t c =
    let ws = c.args.words.now in
    let h = two_operands ws c.requires.0 (omega arith) (omega arith) c.args.level refl in
    let few : extent (lent 1 ws) ≤ length (lent 1 ws) = extent_within h.first in
    let e = c.put_expression-left.ensures.extent in
    search rules

pub put_expression-right-requires : goal.put_expression-right-requires
put_expression-right-requires t c =
    let ws = c.args.words.now in
    let left = c.put_expression-left.result in
    let h = two_operands ws c.requires.0 (omega arith) (omega arith) c.args.level c.put_expression-left.ensures.extent in
    let room = fits_as h.text c.requires.1 in
    let some = begun_some ws c.requires.0 in
    (omega (arith, tail_length left (lent 1 ws), tail_length 1 ws), (h.second, grind putting))

pub put_paren-requires-2 : goal.put_paren-requires-2
put_paren-requires-2 t c =
    let ws = c.args.words.now in
    let h = two_operands ws c.requires.0 (omega arith) (omega arith) c.args.level c.put_expression-left.ensures.extent in
    let room = fits_as h.text c.requires.1 in
    grind putting

pub overflow_add-result-2 : goal.overflow_add-result-2
overflow_add-result-2 t c =
    let ws = c.args.words.now in
    let h = two_operands ws c.requires.0 (omega arith) (omega arith) c.args.level c.put_expression-left.ensures.extent in
    record { fits = omega (arith, h.words, extent_within c.requires.0, c.put_expression-left.ensures.extent) }

pub overflow_add-result-3 : goal.overflow_add-result-3
overflow_add-result-3 t c =
    let ws = c.args.words.now in
    let h = two_operands ws c.requires.0 (omega arith) (omega arith) c.args.level c.put_expression-left.ensures.extent in
    record { fits = omega (arith, h.words, extent_within c.requires.0, c.put_expression-left.ensures.extent, c.put_expression-right.ensures.extent) }

pub returns-clause-extent : goal.returns-clause-extent
returns-clause-extent t c =
    let ws = c.args.words.now in
    let h = two_operands ws c.requires.0 (omega arith) (omega arith) c.args.level c.put_expression-left.ensures.extent in
    omega (arith, h.words, c.put_expression-left.ensures.extent, c.put_expression-right.ensures.extent)

pub returns-clause-put : goal.returns-clause-put
returns-clause-put t c =
    let ws = c.args.words.now in
    let h = two_operands ws c.requires.0 (omega arith) (omega arith) c.args.level c.put_expression-left.ensures.extent in
    put_as (sym h.text) (grind putting)
