-- `from_text` meets its contract: what was gathered is joined, read and handed over. Assumes nothing.
use mathlib.Core.Path.{◌≡◌, ap, ◌∙◌}
use native.Mathlib.Omega.{arith}
use lib.ListN.{length}
use Rattle.std.proofs.lemmas.Grind.{common_steps}
use Rattle.rules.specs.Descriptions.{most_words}
use Rattle.text_lines.specs.Gatherings.{kinds_room}
use Rattle.reading.proofs.Making.{boards_out, joining, joined_told}
use Rattle.reading.proofs.from_text.Goals as goal

pub returns-then-not-contains : goal.returns-then-not-contains
returns-then-not-contains c =
    boards_out _ _ _ _ c.gather.ensures c.in-Ok.is c.args.room.now (λ low high. grind (arith, common_steps))

pub join-total-requires : goal.join-total-requires
join-total-requires c =
    let words : length c.gather.new.words ≡ most_words = c.gather.auto.words ∙ ap length c.words_room-words.ensures in
    let kinds : length c.gather.new.kinds ≡ kinds_room = c.gather.auto.kinds ∙ ap length c.kinds_room-kinds.ensures in
    joining _ _ _ _ c.gather.ensures c.in-Ok.is c.args.room.now (omega arith) (omega arith) words kinds

pub returns : goal.returns
returns c =
    let words : length c.gather.new.words ≡ most_words = c.gather.auto.words ∙ ap length c.words_room-words.ensures in
    let kinds : length c.gather.new.kinds ≡ kinds_room = c.gather.auto.kinds ∙ ap length c.kinds_room-kinds.ensures in
    c.hand_over.ensures ∙ joined_told _ _ _ _ c.gather.ensures c.in-Ok.is c.args.room.now (omega arith) (omega arith) words kinds c.join-total.ensures.joined
