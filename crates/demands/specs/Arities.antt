-- One kind code means one number of ways (02, request 2), sentence by sentence, over any calls: what each may answer and leave is all that is known of
-- it. Assumes nothing.
use Rattle.std.specs.Prelude.{◌≡◌, ◌↔◌, ℕ, nat_eq, length}
use mathlib.Core.List.{List, ◌∷◌, ◌++◌, Memᴰ}
use Rattle.rules.specs.Descriptions.{KindLine, Sheet, good, meant, read, OneArity}
use Rattle.rules.specs.Arrangements.{Alike}
use Rattle.rules.specs.Closing.{agree}
use Rattle.answers.specs.Answers.{Answer}
use Rattle.demands.specs.Runs.{TableCall}
use Rattle.demands.specs.Sentences.{EachCall}
use Rattle.demands.specs.Texts.{RoomCall, EachRoom, EachSheet}

-- the first kind line that disagrees with an earlier one: it has its code and another number of ways, and the lines before it are of one arity
pub record Disagreeing (ks : List KindLine) : Type 0 where
  pub before : List KindLine
  pub line : KindLine
  pub after : List KindLine
  pub earlier : KindLine
  pub all : ks ≡ before ++ (line ∷ after)
  pub agreeing : OneArity before
  pub one : Memᴰ earlier before
  pub code : line.code ≡ earlier.code
  pub ways : length line.ways ≡ length earlier.ways → ⊥

-- none of 1 to 5 applies to the words, by what 01 makes of them, and a kind line disagrees
abbrev pub Disagree : List ℕ → Type 0
Disagree ws = (s : Sheet) × (meant ws ≡ good s) × Disagreeing s.kinds

-- Of a reader, a call that is lent a description and a table, and the two text calls:
pub record OneNumberOfWays (Reads : List ℕ → Answer → Type 0) (Calls : TableCall) (ReadsText WritesText : RoomCall) : Type 0 where
  -- 11, in every call that gives 1 to 5, right after them, for the first kind line that disagrees with an earlier one:
  pub told_exactly : (ws : List ℕ) (a : Answer) → Reads ws a → (a.number ≡ 11) ↔ Disagree ws
  pub refused_exactly : EachCall Calls (λ ws t a w. (a.number ≡ 11) ↔ Disagree ws)
  pub text_refused_exactly : EachSheet ReadsText (λ text ws t room a w. (a.number ≡ 11) ↔ Disagree ws)
  pub writer_refused_exactly : EachRoom WritesText (λ ws room a w. (a.number ≡ 11) ↔ Disagree ws)
  -- Every other description is read as 01 reads it.
  pub read_as_before : (ws : List ℕ) → (Disagree ws → ⊥) → read ws ≡ meant ws
  -- In a good description two kind lines of one code have as many ways,
  pub good_one_arity : (ws : List ℕ) (s : Sheet) → read ws ≡ good s → OneArity s.kinds
  -- so rule 7's case of differing numbers of ways is never reached: whether code and number of ways agree is whether the codes do.
  pub rule_7_by_code : (ws : List ℕ) (s : Sheet) → read ws ≡ good s → (k l : KindLine) → Memᴰ k s.kinds → Memᴰ l s.kinds
      → (agree k l ≡ nat_eq k.code l.code) × (Alike k l ↔ (k.code ≡ l.code))
