-- Rule 7 of many kind lines: two lines of them at a time, one pair of lines after another, and the numbers of a set in turn. Assumes nothing.
use mathlib.Core.Path.{◌≡◌, sym, subst}
use Rattle.std.specs.Prelude.{Result}
use mathlib.Core.List.{List, ◌++◌, flat_map, Memᴰ}
use Prim.Native.Nat.{ℕ, ◌<◌}
use Rattle.rules.specs.Descriptions.{KindLine, SameArity}
use Rattle.rules.specs.Closing.{Idle, rules2, rule7, rules7}
use Rattle.rules.proofs.Members.{all_append, append_left, append_right, over_all}
use Rattle.passes.specs.Passes.{Idles}
use Rattle.kinds.specs.Lines.{kind_at, line_at, StandsIn}
use Rattle.kinds.specs.declared.KindLine as kinds
use Rattle.kinds.specs.Sections.{Kinds}
use Rattle.by_board.specs.Found.{start_of, numbered, Listed}
use Rattle.by_board.proofs.Numbers.{numbered_in, numbered_out}
use Rattle.by_board.proofs.Asking.{located_stands, located_line}
use Rattle.moves.specs.Watches.{apart, matches, matches'}
use Rattle.moves.specs.declared.Emptied.{Emptied}
use Rattle.moves.specs.Moves.{Moved, Went, Matched}
use Rattle.moves.specs.Visits.{Keeping, Visited}
use Rattle.moves.proofs.Moving.{tended_moved}
use Rattle.moves.proofs.Passing.{went_as, Steady}
use Rattle.moves.proofs.Reading.{apart_honest, matches_honest, matches'_honest}
use Rattle.same_panels.specs.Visits.{Beside, Each, Unlisted, FirstBeside, AtFirst}

-- ---- two of the lines

-- what was seen to stays so
pub matched_moved : {C : List ℕ → Type 0} {v : ℕ} {t m w n : List ℕ} {k l : KindLine} → Moved C v t m w n → Matched v k l m t → Matched v k l n w
matched_moved {v = v} {k = k} {l} g f =
    record {
      codes = tended_moved g (apart v k l) (apart_honest v k l) f.codes;
      panels = λ i h. tended_moved g (matches v k l i) (matches_honest v k l i) (f.panels i h);
      ways = λ a i h. tended_moved g (matches' v k l i) (matches'_honest v k l i) (f.ways a i h);
    }

-- rule 2 and rule 7 of every two lines ask what rule 2 and rule 7 of two of them do
kept_two : (v : ℕ) {ks : List KindLine} {k l : KindLine} → Memᴰ k ks → Memᴰ l ks → (x : List ℕ) → Keeping rules7 v ks x → Idles v (rules2 v ++ rule7 v k l) x
unfolding rules7
kept_two v {ks} {k} {l} hk hl x d =
    all_append (Idle v x) (rules2 v) (append_left (Idle v x) (rules2 v) (rules7 v ks) d)
    (over_all (Idle v x) (rule7 v k) ks (over_all (Idle v x) (λ k. flat_map (rule7 v k) ks) ks (append_right (Idle v x) (rules2 v) (rules7 v ks) d) k hk) l hl)

-- what stays: rule 7 of two lines, of two that no listed pair would bring up, of one beside each line, of one beside each of a set, of each of two sets
pub steady_two : (v : ℕ) (k l : KindLine) → Steady v (Matched v k l)
steady_two v k l C t m w n g f = matched_moved g f

pub steady_unlisted : (v : ℕ) (k l : KindLine) → Steady v (Unlisted v k l)
steady_unlisted v k l C t m w n g f = record { codes = λ d. matched_moved g (f.codes d); panels = λ e. matched_moved g (f.panels e) }

pub steady_first : (v count : ℕ) (ws : List ℕ) (i : ℕ) → Steady v (FirstBeside v count ws i)
steady_first v count ws i C t m w n g f o h = steady_unlisted v (numbered ws i) (numbered ws o) C t m w n g (f o h)

pub steady_beside : (v : ℕ) (ws : List ℕ) (i others : ℕ) → Steady v (Beside v ws i others)
steady_beside v ws i others C t m w n g f o h = matched_moved g (f o h)

pub steady_each : (v : ℕ) (ws : List ℕ) (lines others : ℕ) → Steady v (Each v ws lines others)
steady_each v ws lines others C t m w n g f i h o d = matched_moved g (f i h o d)

-- ---- lines by their numbers

-- what is seen to of every two numbers is seen to of every two lines
pub at_first : (v count : ℕ) (ws : List ℕ) {ks : List KindLine} {m t : List ℕ} → Kinds v count ws ks → ((n : ℕ) → n < count → FirstBeside v count ws n m t)
    → AtFirst v ks m t
at_first v count ws {ks} {m} {t} fill f k hk l hl =
    let (n, hn, kn) = numbered_out v count ws ks fill k hk in
    let (o, ho, lo) = numbered_out v count ws ks fill l hl in
    subst (λ (k : KindLine). Unlisted v k l m t) kn (subst (λ (l : KindLine). Unlisted v (numbered ws n) l m t) lo (f n hn o ho))

-- two lines as code has found them by their numbers
module _ {v count : ℕ} {ws xs : List ℕ} (listed : Listed v count ws xs) {n o : ℕ} (hn : n < count) (ho : o < count) {line other : kinds.KindLine}
    (first : line ≡ kind_at ws (start_of ws n)) (second : other ≡ kind_at ws (start_of ws o)) where
  -- what rule 7 of two lines requires of them
  pub two_stand : StandsIn v ws line × StandsIn v ws other × SameArity (line_at ws line) (line_at ws other)
  two_stand =
      let ((ks, fill), agreed) = listed.lines in (
        located_stands listed hn first,
        located_stands listed ho second,
        subst (λ (k : KindLine). SameArity k (line_at ws other)) (located_line ws n first)
            (subst (SameArity (numbered ws n)) (located_line ws o second)
            (agreed ks fill (numbered ws n) (numbered ws o) (numbered_in v count ws ks fill n hn) (numbered_in v count ws ks fill o ho))),
      )

  -- what loses no table in which rule 2 and rule 7 of the two strike nothing, loses none in which those of every two do
  pub two_visited : (P : KindLine → KindLine → List ℕ → List ℕ → Type 0) (t m w u : List ℕ) (r : Result (Unit {0}) Emptied)
      → Went (Idles v (rules2 v ++ rule7 v (line_at ws line) (line_at ws other))) v (P (line_at ws line) (line_at ws other)) t m w u r
      → Visited (Keeping rules7 v) v count ws (λ ks. P (numbered ws n) (numbered ws o)) t m w u r
  two_visited P t m w u r h ks fill =
      went_as (Idles v (rules2 v ++ rule7 v (numbered ws n) (numbered ws o))) (Keeping rules7 v ks) v (P (numbered ws n) (numbered ws o)) t m w u r
      (kept_two v (numbered_in v count ws ks fill n hn) (numbered_in v count ws ks fill o ho))
      (subst (λ (l : KindLine). Went (Idles v (rules2 v ++ rule7 v (numbered ws n) l)) v (P (numbered ws n) l) t m w u r) (sym (located_line ws o second))
      (subst (λ (k : KindLine). Went (Idles v (rules2 v ++ rule7 v k (line_at ws other))) v (P k (line_at ws other)) t m w u r) (sym (located_line ws n first)) h))
