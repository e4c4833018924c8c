-- The calls meet what request 2 asks of them (`Arities`), whatever they may answer and leave by their promises. Assumes nothing.
use mathlib.Core.Path.{◌≡◌, refl, sym, ap, ◌∙◌, subst}
use mathlib.Core.Bool.{Bool, true, false, ◌&&◌}
use mathlib.Core.Logic.Iff
use mathlib.Core.Logic.{◌⊎◌, inl, inr, ⊎_elim, ◌↔◌}
use mathlib.Core.List.Memᴰ
use mathlib.Core.List.{List, [], ◌∷◌, ◌++◌, flatten}
use Prim.Native.Nat.{ℕ, suc, ◌+◌, ◌≤◌, ◌<◌}
use native.Mathlib.Nat.{eq-or-lt_of_le}
use native.Mathlib.Omega.{arith}
use borrow.Author.Tests.{eq-eqb, eqb-true}
use lib.Dec.{eqb}
use lib.ListN.{length, get_or, take, drop}
use lib.Seq.{split_at, length-take-le, get_or-drop}
use Rattle.rules.specs.Expressions.{codes, code, follow, evaluate, expression}
use Rattle.rules.specs.Descriptions.{KindLine, Sheet, Reading, good, refused, next, relation_line, kind_line, section, boards_before, after_numbers, after_offsets, relation_lines, kind_lines, meant, disagrees, first_disagreeing, kind_words, agreed, agreed_sheet, read, OneArity, describe}
use Rattle.rules.specs.Arrangements.{width, Alike}
use Rattle.rules.specs.Closing.{agree}
use Rattle.rules.specs.Calls.{Outcome, succeed, given, reading}
use Rattle.rules.specs.Cases.{feeds_as, feeds}
use Rattle.rules.proofs.Tests.{clash}
use Rattle.rules.proofs.Members.{some_of_out}
use Rattle.rules.proofs.Refusals.{Only, only_meant}
use Rattle.rules.proofs.Arities.{disagrees_out, first_few, first_disagreeing_lem, none_disagreeing, arity_place, agreed_in, agreed_refused}
use Rattle.rules.proofs.Readings.{later_out}
use Rattle.rules.proofs.KindWords.{ways_word}
use Rattle.rules.proofs.Descriptions.{meant_out, read_well_formed}
use Rattle.meanings.proofs.Sheets.{typed_made}
use Rattle.answers.specs.Answers.{Answer}
use Rattle.answers.proofs.Outcomes.{says}
use Rattle.demands.specs.Entries.{Reads, AnyCall, ReadingText, WritingText}
use Rattle.demands.specs.Runs.{TableCall}
use Rattle.demands.specs.Texts.{RoomCall}
use Rattle.demands.specs.Arities.{Disagreeing, Disagree, OneNumberOfWays}
use Rattle.demands.proofs.Refusing.{reading_refused, any_gives, gives_description, gives_eleven}
use Rattle.demands.proofs.Rooms.{ends_number, writer_ends, reader_ends}

-- ---- the lines

-- lines are refused with 11 exactly if one is the first that disagrees with an earlier one
module _ (ks : List KindLine) where
  blank : KindLine
  blank = record { p = 0; code = 0; ways = [] }

  some_disagrees : (OneArity ks → ⊥) → Disagreeing ks
  some_disagrees f =
      let n = first_disagreeing [] ks in
      let h : n < length ks = less (first_few [] ks) in
      let parts = split_at ks n blank h in
      let found : first_disagreeing [] (take n ks ++ (get_or ks n blank ∷ drop (suc n) ks)) ≡ length (take n ks) =
      ap (first_disagreeing []) (sym parts) ∙ sym (length-take-le n ks (omega arith)) in
      let (one, t) = (first_disagreeing_lem (take n ks) (get_or ks n blank) (drop (suc n) ks)).0 found in
      let (l, m, d) = some_of_out (disagrees (get_or ks n blank)) (take n ks) t in
      let (code, ways) = disagrees_out (get_or ks n blank) l d in
      record {
        before = take n ks;
        line = get_or ks n blank;
        after = drop (suc n) ks;
        earlier = l;
        all = parts;
        agreeing = one;
        one = m;
        code = code;
        ways = ways;
      }
    where
      less : first_disagreeing [] ks ≤ length ks → first_disagreeing [] ks < length ks
      less h = ⊎_elim (λ e. absurd (f ((none_disagreeing ks).0 e))) (λ l. l) (eq-or-lt_of_le h)

  one_or_some : OneArity ks ⊎ Disagreeing ks
  one_or_some =
      ⊎_elim (λ e. inl ((none_disagreeing ks).0 e)) (λ l. inr (some_disagrees (λ one. omega (arith, (none_disagreeing ks).1 one)))) (eq-or-lt_of_le (first_few [] ks))

  disagrees_some : Disagreeing ks → OneArity ks → ⊥
  disagrees_some d h =
      let one = subst OneArity d.all h in
      d.ways
      (one d.line d.earlier (Memᴰ.append_right d.before (Memᴰ.head refl)) (Memᴰ.append_left (d.line ∷ d.after) d.one) d.code)

-- ---- a description

module _ (ws : List ℕ) where
  -- a good reading of 01 stays where lines of one code have as many ways, and is refused with 11 where not
  after_in_lem : (s : Sheet) → meant ws ≡ good s → OneArity s.kinds → read ws ≡ good s
  unfolding read
  after_in_lem s e one = rw (e, agreed_in s.kinds one)

  after_refused : (s : Sheet) → meant ws ≡ good s → (OneArity s.kinds → ⊥) → read ws ≡ refused 11 (get_or ws 4 0 + arity_place s.kinds)
  unfolding read
  after_refused s e none = rw (e, agreed_refused s.kinds none)

  -- 01 refuses with 1 to 5
  few : Only (λ n. n ≤ 5) (meant ws)
  few = only_meant (λ n. n ≤ 5) (omega arith) (omega arith) (omega arith) (omega arith) (omega arith) ws

  -- 11 is at the number of ways of the first line that disagrees
  pub eleven_at : (k : ℕ) → read ws ≡ refused 11 k
      → (d : Disagree ws) × (get_or ws k 0 ≡ length d.2.line.ways) × (k ≡ get_or ws 4 0 + (kind_words d.2.before + 2))
  unfolding read kind_lines some_disagrees
  eleven_at k e = go (meant ws) refl few
    where
      go : (r : Reading Sheet) → meant ws ≡ r → Only (λ n. n ≤ 5) r
          → (d : Disagree ws) × (get_or ws k 0 ≡ length d.2.line.ways) × (k ≡ get_or ws 4 0 + (kind_words d.2.before + 2))
      go (refused n i) m h =
          let d : refused n i ≡ refused 11 k = ap (λ (r : Reading Sheet). next r (agreed_sheet (get_or ws 4 0))) (sym m) ∙ e in
          let number : n ≡ 11 = cc in
          clash (omega arith)
      go (good s) m h =
          let none : OneArity s.kinds → ⊥ = λ one. let d = after_in_lem s m one in clash (cc) in
          let d : Disagreeing s.kinds = some_disagrees s.kinds none in
          let there : refused 11 (get_or ws 4 0 + arity_place s.kinds) ≡ refused 11 k = sym (after_refused s m none) ∙ e in
          let at : k ≡ get_or ws 4 0 + arity_place s.kinds = cc in
          let own = later_out (get_or ws 4 0) (section (kind_line (get_or ws 0 0)) (get_or ws 2 0) (drop (get_or ws 4 0) ws)) s.kinds (meant_out ws s m).kinds in
          let word = ways_word (get_or ws 0 0) (get_or ws 2 0) (drop (get_or ws 4 0) ws) d.before d.line d.after (own ∙ ap good d.all) in
          ((s, m, d), ap (λ (i : ℕ). get_or ws i 0) at ∙ sym (get_or-drop (get_or ws 4 0) ws (arity_place s.kinds) 0) ∙ word, at)

  eleven_exactly : ((k : ℕ) × (read ws ≡ refused 11 k)) ↔ Disagree ws
  eleven_exactly = (λ (k, e). (eleven_at k e).0, λ d. (_, after_refused d.0 d.1 (disagrees_some d.0.kinds d.2)))

  unless_eleven : (Disagree ws → ⊥) → read ws ≡ meant ws
  unfolding read
  unless_eleven f = go (meant ws) refl
    where
      go : (r : Reading Sheet) → meant ws ≡ r → read ws ≡ meant ws
      go (good s) m = ⊎_elim (λ one. after_in_lem s m one ∙ sym m) (λ d. absurd (f (s, m, d))) (one_or_some s.kinds)
      go (refused n k) m = rw m

  -- reading answers 11 exactly then
  reading_eleven : ((reading ws).number ≡ 11) ↔ ((k : ℕ) × (read ws ≡ refused 11 k))
  unfolding reading
  reading_eleven = (go (read ws), λ (k, e). ap (λ (o : Outcome (Unit {0})). o.number) (reading_refused ws 11 k e))
    where
      go : (r : Reading Sheet) → (given {L = Unit {0}} r tt (λ s. succeed 0 tt)).number ≡ 11 → (k : ℕ) × (r ≡ refused 11 k)
      go (good s) e = clash (omega (arith, e))
      go (refused n k) e = (k, ap (λ (m : ℕ). refused m k) e)

-- ---- rule 7

-- two lines that have as many ways if they have one code agree exactly if they have one code
by_code : (k l : KindLine) → (k.code ≡ l.code → width k ≡ width l) → (agree k l ≡ eqb k.code l.code) × (Alike k l ↔ (k.code ≡ l.code))
unfolding agree
by_code k l h = (go (eqb k.code l.code) refl, (λ a. a.0, λ e. (e, h e)))
  where
    go : (b : Bool) → eqb k.code l.code ≡ b → (b && eqb (width k) (width l)) ≡ b
    go true e = eq-eqb (width k) (width l) (h (eqb-true k.code l.code e))
    go false e = refl

-- Request 2, of the reader, the calls that open, close, search and check, and the two text calls.
pub one_number_of_ways : OneNumberOfWays Reads AnyCall ReadingText WritingText
one_number_of_ways =
    record {
      told_exactly = λ ws a call.
          let n : a.number ≡ (reading ws).number = says call in
          Iff.trans (λ e. sym n ∙ e, λ e. n ∙ e) (Iff.trans (reading_eleven ws) (eleven_exactly ws));
      refused_exactly = λ ws t a w call.
          let g = (any_gives ws t a w call).1 in
          Iff.trans (gives_eleven ws t a w g, λ (k, e). (gives_description ws t a w g 11 k e).number) (eleven_exactly ws);
      text_refused_exactly = λ text ws t room a w call. Iff.trans (ends_number (reader_ends text (typed_made t) call) 11 tt) (eleven_exactly ws);
      writer_refused_exactly = λ ws room a w call. Iff.trans (ends_number (writer_ends ws call) 11 tt) (eleven_exactly ws);
      read_as_before = unless_eleven;
      good_one_arity = λ ws s e. (read_well_formed ws s e).arity;
      rule_7_by_code = λ ws s e k l m n. by_code k l ((read_well_formed ws s e).arity k l m n);
    }

-- ---- calls that only look like calls, refuted from these sentences

-- panels of one code, with one way and with two; of two codes; and of one code behind a relation line that is refused with 5
abbrev two_sizes : List ℕ
two_sizes = describe 2 [] (feeds 0 (1 ∷ []) ∷ feeds 1 (0 ∷ 0 ∷ []) ∷ [])

abbrev two_codes : List ℕ
two_codes = describe 2 [] (feeds 0 (1 ∷ []) ∷ feeds_as 8 1 (0 ∷ 0 ∷ []) ∷ [])

abbrev no_expression : List ℕ
no_expression = describe 2 ((0 ∷ 0 ∷ 1 ∷ 8 ∷ []) ∷ []) (feeds 0 (1 ∷ []) ∷ feeds 1 (0 ∷ 0 ∷ []) ∷ [])

-- what they are read as
record Computed : Type 0 where
  two_sizes_lem : (reading two_sizes).number ≡ 11
  two_codes_lem : (reading two_codes).number ≡ 0
  no_expression_lem : (reading no_expression).number ≡ 5

computed : Computed
unfolding codes code follow evaluate expression relation_line kind_line section boards_before after_numbers after_offsets relation_lines kind_lines meant disagrees first_disagreeing kind_words agreed read
    reading flatten
computed = record { two_sizes_lem = refl; two_codes_lem = refl; no_expression_lem = refl }

module _ {Reads : List ℕ → Answer → Type 0} {Calls : TableCall} {ReadsText WritesText : RoomCall}
    (request : OneNumberOfWays Reads Calls ReadsText WritesText) where
  -- 11 is told of no words that are read otherwise
  otherwise : (ws : List ℕ) (n : ℕ) → (reading ws).number ≡ n → (n ≡ 11 → ⊥) → (a : Answer) → Reads ws a → a.number ≡ 11 → ⊥
  otherwise ws n e f a call z = f (sym e ∙ (reading_eleven ws).1 ((eleven_exactly ws).1 ((request.told_exactly ws a call).0 z)))

  sizes_disagree : Disagree two_sizes
  sizes_disagree = (eleven_exactly two_sizes).0 ((reading_eleven two_sizes).0 computed.two_sizes_lem)

  -- a reader that takes panels of one code and two sizes
  pub two_sizes_taken_excluded : (a : Answer) → a.number ≡ 0 → Reads two_sizes a → ⊥
  two_sizes_taken_excluded a z call = omega (arith, z, (request.told_exactly two_sizes a call).1 sizes_disagree)

  -- one that compares numbers of ways and no codes
  pub two_codes_refused_excluded : (a : Answer) → a.number ≡ 11 → Reads two_codes a → ⊥
  two_codes_refused_excluded a z call = otherwise two_codes 0 computed.two_codes_lem (λ e. omega (arith, e)) a call z

  -- one that gives 11 before 5
  pub eleven_before_five_excluded : (a : Answer) → a.number ≡ 11 → Reads no_expression a → ⊥
  eleven_before_five_excluded a z call = otherwise no_expression 5 computed.no_expression_lem (λ e. omega (arith, e)) a call z

  -- a call with a table that gives 6 before 11, whatever the table
  pub six_before_eleven_excluded : (t : List ℕ) (a : Answer) (w : List ℕ) → a.number ≡ 6 → Calls two_sizes t a w → ⊥
  six_before_eleven_excluded t a w z call = omega (arith, z, (request.refused_exactly two_sizes t a w call).1 sizes_disagree)
