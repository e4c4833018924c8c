-- `take_words` meets its contract: each pair of bytes is the next word. Assumes nothing.
use Rattle.std.proofs.Common.{List, [], ℕ, ◌/◌, length, get_or, sym, ◌∙◌, ap, arith}
use Rattle.std.specs.Int.{w16, from_le_bytes}
use Rattle.passes.proofs.Cells.{laid_none, laid_more, laid_all}
use Rattle.words.proofs.Bytes.{words_length, pair_word}
use Rattle.words.proofs.take_words.Goals as goal

pub loop-i-init : goal.loop-i-init
loop-i-init c = laid_none (sym (words_length _ _ c.requires))

pub loop-i-preserved : goal.loop-i-preserved
loop-i-preserved c =
    let many = words_length _ _ c.requires in
    let bytes = c.args.bytes.now in
    let pairs = c.as_chunks.ensures.front in
    laid_more c.loop-i.invariant (omega arith)
    (c.from_le_bytes.ensures
    ∙ ap (λ (ps : List (List ℕ)). from_le_bytes w16 (get_or ps c.loop-i.i [])) pairs
    ∙ pair_word bytes (length bytes / 2) c.loop-i.i (omega arith) (omega arith))

pub returns : goal.returns
returns c =
    let many = words_length _ _ c.requires in
    laid_all c.loop-i.invariant (omega arith)
