-- What was gathered of a typed sheet, joined in one description. Assumes nothing.
use Rattle.std.specs.Prelude.{◌≡◌, List, [], ◌∷◌, ℕ, ◌+◌, ◌≤◌, length, take}
use Rattle.std.proofs.lemmas.List.Edits.{sets}
use Rattle.rules.specs.Descriptions.{most_words, most_lines, most_kinds}
use Rattle.text_lines.specs.declared.Gathered.{Gathered}

-- the header of what was gathered
abbrev pub header : Gathered → ℕ → List ℕ
header g total = g.boards ∷ g.relations.lines ∷ g.kinds.lines ∷ 6 ∷ g.relations.end ∷ total ∷ []

-- what was gathered can be joined
pub record Joins (words kinds : List ℕ) (g : Gathered) : Type 0 where
  pub words_room : length words ≡ most_words
  pub few_relations : g.relations.lines ≤ most_lines
  pub few_kinds : g.kinds.lines ≤ most_kinds
  pub begins : 6 ≤ g.relations.end
  pub inside : g.kinds.end ≤ length kinds
  pub room : g.relations.end + g.kinds.end ≤ most_words

-- the header stands before the words of the relation lines, and those of the kind lines after them
pub record Joined (before kinds : List ℕ) (g : Gathered) (after : List ℕ) (total : ℕ) : Type 0 where
  pub count : total ≡ g.relations.end + g.kinds.end
  pub words : after ≡ sets (sets before 0 (header g total)) g.relations.end (take g.kinds.end kinds)
