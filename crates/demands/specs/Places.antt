-- A refusal says where (02, request 3), sentence by sentence: of any calls, by what they may answer and leave, and of the definitions that these cite.
-- Assumes nothing.
use Rattle.std.specs.Prelude.{◌≡◌, List, ◌∷◌, ◌++◌, ℕ, suc, ◌+◌, ◌-◌, ◌≤◌, ◌<◌, length, slice_index}
use Rattle.rules.specs.Expressions.{expression, Longest}
use Rattle.rules.specs.Descriptions.{most_boards, most_lines, most_kinds, most_expression_words, most_ways, Reading, good, refused, Front, next, meaning, relation_line, kind_line, section, after_header, kind_words, agreed, read}
use Rattle.rules.specs.Places.{Placing}
use Rattle.answers.specs.Answers.{Answer}
use Rattle.demands.specs.Runs.{TableCall}
use Rattle.demands.specs.Sentences.{EachCall}
use Rattle.demands.specs.Texts.{RoomCall, EachRoom, EachSheet}
use Rattle.demands.specs.Arities.{Disagree}

-- the answer carries what the words ws are refused with: the number, and the place for a count
abbrev pub Carries : List ℕ → Answer → Type 0
Carries ws a = (n k : ℕ) → read ws ≡ refused n k → (a.number ≡ n) × (a.count ≡ k)

-- what is said of lines and sections is said of no total
abbrev pub no_total : List ℕ → ℕ
no_total ws = 0

-- the total that the header has
abbrev pub header_total : List ℕ → ℕ
header_total ws = slice_index ws 5

-- Of a reader, a call that is lent a description and a table, and the two text calls:
pub record SaysWhere (Reads : List ℕ → Answer → Type 0) (Calls : TableCall) (ReadsText WritesText : RoomCall) : Type 0 where
  -- Refusals 1 to 5 and 11 carry their place, in every call; of a text it is one in the words made.
  pub reader_carries : (ws : List ℕ) (a : Answer) → Reads ws a → Carries ws a
  pub calls_carry : EachCall Calls (λ ws t a w. Carries ws a)
  pub text_reader_carries : EachSheet ReadsText (λ text ws t room a w. Carries ws a)
  pub text_writer_carries : EachRoom WritesText (λ ws room a w. Carries ws a)
  -- Too many lines in a text are told at the word that counts them.
  pub many_relations : EachSheet ReadsText
      (λ text ws t room a w. 1 ≤ t.v → t.v ≤ most_boards → most_lines < length t.relations → (a.number ≡ 1) × (a.count ≡ 1))
  pub many_kinds : EachSheet ReadsText
      (λ text ws t room a w. 1 ≤ t.v → t.v ≤ most_boards → length t.relations ≤ most_lines → most_kinds < length t.kinds → (a.number ≡ 1) × (a.count ≡ 2))

-- Of what the calls promise to carry, the place of a description that is read:
pub record Places : Type 1 where
  -- It is the index of the first word that breaks the rule, or, where words are missing, the place just after those that there are: it is never past the
  -- words, and none before it breaks the rule, whatever words stand from it on. So it is with lines, sections, the header, and the whole.
  pub relation_line_lem : (v : ℕ) → Placing no_total (relation_line v)
  pub kind_line_lem : (v : ℕ) → Placing no_total (kind_line v)
  pub relation_section : (v count : ℕ) → Placing no_total (section (relation_line v) count)
  pub kind_section : (v count : ℕ) → Placing no_total (λ ws. next (section (kind_line v) count ws) agreed)
  pub header : Placing header_total (λ ws. after_header ws (good ws))
  pub description : Placing header_total read
  -- Words are missing: in a header,
  pub header_short : (ws : List ℕ) → length ws < 6 → read ws ≡ refused 1 (length ws)
  -- in the section of a line, which has too few words for its first three, or for as many as the line says;
  pub relation_short : (v : ℕ) (ws : List ℕ) → length ws < 3 → relation_line v ws ≡ refused 3 (length ws)
  pub kind_short : (v : ℕ) (ws : List ℕ) → length ws < 3 → kind_line v ws ≡ refused 3 (length ws)
  pub relation_past : (v : ℕ) (ws : List ℕ) → 3 ≤ length ws → 1 ≤ slice_index ws 2 → slice_index ws 2 ≤ most_expression_words → length ws - 3 < slice_index ws 2
      → relation_line v ws ≡ refused 3 (length ws)
  pub kind_past : (v : ℕ) (ws : List ℕ) → 3 ≤ length ws → slice_index ws 2 ≤ most_ways → length ws - 3 < slice_index ws 2 → kind_line v ws ≡ refused 3 (length ws)
  -- or in an expression. Reading an expression promises its place of failure: the length of the longest beginning of its words that some expression
  -- begins with; so a code above 7 and a word left over are at their own index, and missing words at the end.
  pub expression_place : (ws : List ℕ) (n k : ℕ) → meaning (length ws) (expression ws) ≡ refused n k → (n ≡ 5) × Longest ws k
  -- Its line passes it on, whatever stands behind.
  pub passed_on : (v p q : ℕ) → p < v → q < v → (es rest : List ℕ) → 1 ≤ length es → length es ≤ most_expression_words → (n k : ℕ)
      → meaning (length es) (expression es) ≡ refused n k → relation_line v (p ∷ q ∷ length es ∷ (es ++ rest)) ≡ refused n (3 + k)
  -- A place moves as the words before it move: by the words of a good line before the section's others.
  pub moves : {X : Type 0} (line : List ℕ → Reading (Front X)) (count : ℕ) (us ws : List ℕ) (f : Front X) → line (us ++ ws) ≡ good f → f.rest ≡ ws
      → (n k : ℕ) → section line count ws ≡ refused n k → section line (suc count) (us ++ ws) ≡ refused n (length us + k)
  -- For 11 it is the line's number of ways: that is the word there, which stands after the words of the kind lines before, and the line's first two.
  pub eleven : (ws : List ℕ) (k : ℕ) → read ws ≡ refused 11 k
      → (d : Disagree ws) × (slice_index ws k ≡ length d.2.line.ways) × (k ≡ slice_index ws 4 + (kind_words d.2.before + 2))
