-- `kind_line` meets its contract: each of its ends is one of the laws of a line's front. Assumes nothing.
use mathlib.Core.Path.{sym, ap, ◌∙◌}
use Rattle.std.specs.Prelude.{Err}
use Rattle.rules.proofs.Tests.{tested}
use Rattle.rules.proofs.Lines.{kind_short, kind_no_number, kind_past, kind_no_panel}
use Rattle.kind_lines.specs.Found.{kind_found}
use Rattle.kind_lines.proofs.Fronts.{kind_way_found, kind_line_found}
use Rattle.kind_lines.proofs.kind_line.Goals as goal

pub returns-then-words-lt-LINE_WORDS : goal.returns-then-words-lt-LINE_WORDS
returns-then-words-lt-LINE_WORDS c =
    ap Err c.at.ensures ∙ sym (ap kind_found (kind_short c.args.v c.args.words.now c.if-words-lt-LINE_WORDS.true))

pub returns-then-n-gt-MOST_WAYS : goal.returns-then-n-gt-MOST_WAYS
returns-then-n-gt-MOST_WAYS c =
    ap Err c.at-then-n-gt-MOST_WAYS.ensures ∙ sym (ap kind_found (kind_no_number c.args.v c.args.words.now (omega tested) (omega tested)))

pub returns-then-words-n : goal.returns-then-words-n
returns-then-words-n c =
    ap Err c.at-then-words-n.ensures ∙ sym (ap kind_found (kind_past c.args.v c.args.words.now (omega tested) (omega tested) (omega tested)))

pub returns-then-v-from : goal.returns-then-v-from
returns-then-v-from c =
    ap Err c.at-then-v-from.ensures ∙ sym (ap kind_found (kind_no_panel c.args.v c.args.words.now
    (record { three = omega tested; high = omega tested; room = omega tested }) (omega tested)))

pub returns-in-Some : goal.returns-in-Some
returns-in-Some c =
    ap Err c.at-in-Some.ensures
    ∙ sym (ap kind_found (kind_way_found c.args.v c.args.words.now c.from-n.result c.from-n.ensures
    (record { three = omega tested; high = omega tested; room = omega tested }) (omega tested) _ (sym c.in-Some.is ∙ c.first_stranger.ensures)))

pub returns : goal.returns
returns c =
    kind_line_found c.args.v c.args.words.now c.from-n.result c.from-n.ensures
    (record { three = omega tested; high = omega tested; room = omega tested }) (omega tested) (sym c.in_default.is ∙ c.first_stranger.ensures)
