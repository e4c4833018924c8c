-- Good descriptions, how long their texts are at most, and a text that is put. Assumes nothing.
use Rattle.std.specs.Prelude.{◌≡◌, List, ℕ, ◌+◌, ◌*◌, ◌≤◌, length}
use Rattle.rules.specs.Descriptions.{most_lines, most_kinds, most_expression_words, most_ways, Sheet, good, read}
use Rattle.puts.specs.Texts.{placed}
use Rattle.typed.specs.Writing.{text_of}

-- the words are those of a good description
pub record Good (ws : List ℕ) : Type 0 where
  pub sheet : Sheet
  pub reads : read ws ≡ good sheet

-- the bytes of the longest first line, relation line and kind line: a board has two digits, a code five, and a word of an expression takes at most
-- eight bytes
abbrev pub most_first : ℕ
most_first = 6 + 3 + 1

abbrev pub most_relation : ℕ
most_relation = 2 + 8 * most_expression_words + 3 + 1

abbrev pub most_kind : ℕ
most_kind = 2 + 2 + 6 + 2 + 3 * most_ways + 2 + 1

-- the bytes of the longest text
abbrev pub most_text : ℕ
most_text = most_first + most_lines * most_relation + most_kinds * most_kind

-- The text of the description ws is put at the front of t, and this makes u; n is its length, and it is no longer than the longest.
pub record PutsSheet (ws t u : List ℕ) (n : ℕ) : Type 0 where
  pub text : u ≡ placed t 0 (text_of ws)
  pub length_told : n ≡ length (text_of ws)
  pub few : length (text_of ws) ≤ most_text
