-- What the functions over one line of a typed sheet answer and leave. Assumes nothing.
use Rattle.std.specs.Prelude.{◌≡◌, Bool, true, false, List, [], ◌∷◌, ℕ, ◌+◌, ◌≤◌, ◌<◌, nat_lt, length, drop, Option, None, Some, MatchOption}
use Rattle.std.proofs.lemmas.List.Edits.{sets}
use Rattle.rules.specs.Descriptions.{most_lines, most_kinds, most_expression_words, most_ways}
use Rattle.typed.specs.Brief.{brief}
use Rattle.typed.specs.Grammar.{lines_of}
use Rattle.typed.specs.Symbols.{symbols}
use Rattle.typed.specs.Sheets.{Line, malformed_line, relation_words, kind_words, First, no_boards, boards_of, boards_in, first_of}
use Rattle.text_lines.specs.declared.TakenLine.{TakenLine}
use Rattle.text_lines.specs.declared.TakenLine.TheVariants.{Relation, Kind}
use Rattle.text_lines.specs.declared.Section.{Section}
use Rattle.text_lines.specs.declared.Gathered.{Gathered}

-- the first line of a text, and the text after it: no line, and nothing after it, where the text is empty
pub record Splits (text line rest : List ℕ) : Type 0 where
  pub lines : 1 ≤ length text → lines_of text ≡ line ∷ lines_of rest
  pub shorter : 1 ≤ length text → length rest < length text
  pub none : text ≡ [] → (line ≡ []) × (rest ≡ [])

-- the place after the word `boards`, which the first line begins with
abbrev pub AfterBoards : List ℕ → Option ℕ → Type 0
AfterBoards line r =
    MatchOption r (first_of (symbols line) ≡ no_boards) (λ n. (n ≤ length line) × (first_of (symbols line) ≡ boards_in (symbols (drop n line))))

-- what the first line came to
abbrev pub Opens : First → Option ℕ → Type 0
Opens no_boards r = r ≡ None
Opens (boards_of v) r = r ≡ Some v

-- what a line after the first came to: the words of a relation line go to the words, those of a kind line to the kinds, each from a place on
abbrev pub LineTook : Line → List ℕ → ℕ → List ℕ → ℕ → List ℕ → List ℕ → Option TakenLine → Type 0
LineTook malformed_line ws n ks k ws' ks' r = r ≡ None
LineTook (relation_words w) ws n ks k ws' ks' r =
    (r ≡ Some (Relation (n + length (brief most_expression_words w)))) × (ws' ≡ sets ws n (brief most_expression_words w)) × (ks' ≡ ks)
LineTook (kind_words w) ws n ks k ws' ks' r =
    (r ≡ Some (Kind (k + length (brief most_ways w)))) × (ks' ≡ sets ks k (brief most_ways w)) × (ws' ≡ ws)

-- ---- counts

-- the count of lines can go on
abbrev pub Countable : Section → Type 0
Countable s = s.lines < 18446744073709551615

-- a place moves on only as long as there are not too many lines
abbrev pub moved_on : Bool → ℕ → ℕ → ℕ
moved_on true new old = new
moved_on false new old = old

-- the lines of a sort, of which there may be so many, after another one
abbrev pub counted : ℕ → Section → ℕ → Section
counted most s n = record { lines = s.lines + 1; end = moved_on (nat_lt s.lines most) n s.end }

-- what is gathered after another line
abbrev pub counted_with : Gathered → TakenLine → Gathered
counted_with g (Relation n) = record { boards = g.boards; relations = counted most_lines g.relations n; kinds = g.kinds }
counted_with g (Kind n) = record { boards = g.boards; relations = g.relations; kinds = counted most_kinds g.kinds n }

-- the number of the next line: the first one says how many boards there are
abbrev pub next_line : Gathered → ℕ
next_line g = g.relations.lines + g.kinds.lines + 2
