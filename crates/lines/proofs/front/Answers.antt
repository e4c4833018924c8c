-- `front` meets its contract: each of its refusals is one of the laws of a line's front. Assumes nothing.
use mathlib.Core.Path.{sym, ap, ◌∙◌}
use Rattle.std.specs.Prelude.{Err}
use Rattle.rules.proofs.Tests.{tested}
use Rattle.rules.proofs.Lines.{relation_short, relation_no_length, relation_past, relation_no_p, relation_no_q}
use Rattle.lines.specs.Found.{relation_told}
use Rattle.lines.proofs.front.Goals as goal

pub returns-then-words-lt-LINE_WORDS : goal.returns-then-words-lt-LINE_WORDS
returns-then-words-lt-LINE_WORDS c =
    ap Err c.at.ensures ∙ sym (ap relation_told (relation_short c.args.v c.args.words.now c.if-words-lt-LINE_WORDS.true))

pub returns-then-n-lt1 : goal.returns-then-n-lt1
returns-then-n-lt1 c =
    ap Err c.at-then-n-lt1.ensures ∙ sym (ap relation_told (relation_no_length c.args.v c.args.words.now (omega tested) (λ low high. omega tested)))

pub returns-then-words-n : goal.returns-then-words-n
returns-then-words-n c =
    ap Err c.at-then-words-n.ensures
    ∙ sym (ap relation_told (relation_past c.args.v c.args.words.now (omega tested) (omega tested) (omega tested) (omega tested)))

pub returns-then-v-p : goal.returns-then-v-p
returns-then-v-p c =
    ap Err c.at-then-v-p.ensures
    ∙ sym (ap relation_told (relation_no_p c.args.v c.args.words.now
    (record { three = omega tested; low = omega tested; high = omega tested; room = omega tested }) (omega tested)))

pub returns-then-v-q : goal.returns-then-v-q
returns-then-v-q c =
    ap Err c.at-then-v-q.ensures
    ∙ sym (ap relation_told (relation_no_q c.args.v c.args.words.now
    (record { three = omega tested; low = omega tested; high = omega tested; room = omega tested }) (omega tested) (omega tested)))
