-- Lines gathered one after the other. Assumes nothing.
use mathlib.Core.Path.{◌≡◌, refl, sym, ap, ap₂, ◌∙◌, subst}
use mathlib.Core.Bool.{true, false}
use mathlib.Core.List.Memᴰ
use mathlib.Core.List.{List, [], ◌∷◌, ◌++◌, append_assoc, append-nil, Memᴰ}
use Prim.Native.Nat.{ℕ, suc, ◌+◌, ◌≤◌, ◌<◌}
use native.Mathlib.Omega.{arith}
use borrow.Author.Tests.{ne_eqb}
use lib.Dec.{eqb, ltb}
use lib.ListN.{length, take, length-append, length-take, take-append-drop, drop}
use lib.Seq.{sets}
use Rattle.std.specs.Option.{ok_or}
use Rattle.std.proofs.Common.{Option, None, Some, Result, Ok, Err}
use Rattle.rules.specs.Descriptions.{most_lines, most_kinds, most_expression_words, most_ways, most_words}
use Rattle.rules.proofs.Tests.{clash}
use Rattle.rules.proofs.Members.{All, all_none, all_one, all_append}
use Rattle.typed.specs.Brief.{brief}
use Rattle.typed.specs.Symbols.{symbols}
use Rattle.typed.specs.Grammar.{lines_of}
use Rattle.typed.specs.Sheets.{Line, malformed_line, relation_words, kind_words, line_of, Lines, stopped, lines, line_before, lines_from}
use Rattle.returns.proofs.Sections.{IsLine}
use Rattle.returns.proofs.Made.{relation_made_line, kind_made_line}
use Rattle.text_lines.specs.declared.TakenLine.{TakenLine}
use Rattle.text_lines.specs.declared.TakenLine.TheVariants.{Relation, Kind}
use Rattle.text_lines.specs.declared.Gathered.{Gathered}
use Rattle.text_lines.specs.Lines.{Splits, LineTook, moved_on, counted_with, next_line, Countable}
use Rattle.text_lines.specs.Gatherings.{parts_of, kinds_room, Stored, Gathers}
use Rattle.text_lines.proofs.Storing.{lines_few, stored_none, stored_next}

-- the first of some lines are lines
first_lines : (most : ℕ) (ls : List (List ℕ)) → All IsLine ls → All IsLine (take most ls)
first_lines most ls h w m = h w (subst (Memᴰ w) (take-append-drop most ls) (Memᴰ.append_left (drop most ls) m))

-- ---- what is gathered so far

-- the words of these lines come first
abbrev pub lines_after : List (List ℕ) → List (List ℕ) → Lines → Lines
lines_after rs ks (stopped n) = stopped n
lines_after rs ks (lines rs' ks') = lines (rs ++ rs') (ks ++ ks')

after_none : (l : Lines) → l ≡ lines_after [] [] l
after_none (stopped n) = refl
after_none (lines rs ks) = refl

after_relation : (rs ks : List (List ℕ)) (n : ℕ) (w : List ℕ) (l : Lines) → lines_after rs ks (line_before n (relation_words w) l) ≡ lines_after (rs ++ (w ∷ [])) ks l
after_relation rs ks n w (stopped m) = refl
after_relation rs ks n w (lines rs' ks') = ap (λ (l : List (List ℕ)). lines l (ks ++ ks')) (sym (append_assoc rs (w ∷ []) rs'))

after_kind : (rs ks : List (List ℕ)) (n : ℕ) (w : List ℕ) (l : Lines) → lines_after rs ks (line_before n (kind_words w) l) ≡ lines_after rs (ks ++ (w ∷ [])) l
after_kind rs ks n w (stopped m) = refl
after_kind rs ks n w (lines rs' ks') = ap (λ (l : List (List ℕ)). lines (rs ++ rs') l) (sym (append_assoc ks (w ∷ []) ks'))

-- whether there is a rest
pub some_left : (bs : List ℕ) → false ≡ eqb (length bs) 0 → 1 ≤ length bs
some_left [] h = clash (cc)
some_left (b ∷ bs) h = omega arith

pub none_left : (bs : List ℕ) → true ≡ eqb (length bs) 0 → bs ≡ []
none_left [] h = refl
none_left (b ∷ bs) h = clash (cc (h, ne_eqb (length (b ∷ bs)) 0 (λ z. omega arith)))

-- a line is taken, or refused with its number
none_refused : (r : Option TakenLine) (n : ℕ) {e : ℕ} → ok_or r n ≡ Err e → (r ≡ None) × (e ≡ n)
none_refused None n h = (refl, cc)
none_refused (Some l) n h = clash (cc)

some_accepted : (r : Option TakenLine) (n : ℕ) {l : TakenLine} → ok_or r n ≡ Ok l → r ≡ Some l
some_accepted None n h = clash (cc)
some_accepted (Some l) n h = cc

-- the words of the lines before the rest of a text are gathered
pub record Gathering (text : List ℕ) (v : ℕ) (words kinds rest : List ℕ) (g : Gathered) : Type 0 where
  pub behind : g.relations.lines + g.kinds.lines + length rest ≤ length text
  pub words_room : length words ≡ most_words
  pub kinds_room_lem : length kinds ≡ kinds_room
  pub rs : List (List ℕ)
  pub ks : List (List ℕ)
  pub relation_lines_lem : All IsLine rs
  pub kind_lines_lem : All IsLine ks
  pub boards : g.boards ≡ v
  pub relations : g.relations.lines ≡ length rs
  pub panels : g.kinds.lines ≡ length ks
  pub relation_words_lem : Stored most_expression_words 6 words g.relations.end (take most_lines rs)
  pub kind_words_lem : Stored most_ways 0 kinds g.kinds.end (take most_kinds ks)
  pub left : lines_from 2 (lines_of text) ≡ lines_after rs ks (lines_from (next_line g) (lines_of rest))

pub gathering_start : (text : List ℕ) (v : ℕ) (words kinds : List ℕ) → length words ≡ most_words → length kinds ≡ kinds_room
    → Gathering text v words kinds text (record { boards = v; relations = record { lines = 0; end = 6 }; kinds = record { lines = 0; end = 0 } })
gathering_start text v words kinds p q =
    record {
      behind = omega arith;
      words_room = p;
      kinds_room_lem = q;
      rs = [];
      ks = [];
      relation_lines_lem = all_none IsLine;
      kind_lines_lem = all_none IsLine;
      boards = refl;
      relations = refl;
      panels = refl;
      relation_words_lem = stored_none most_expression_words 6 words;
      kind_words_lem = stored_none most_ways 0 kinds;
      left = after_none (lines_from 2 (lines_of text));
    }

module _ {text : List ℕ} {v : ℕ} {words kinds rest : List ℕ} {c : Gathered} (g : Gathering text v words kinds rest c) where
  -- there is room for another line of each sort
  pub room_left : (c.relations.end + 18 ≤ length words) × (c.kinds.end + 11 ≤ length kinds)
  room_left =
      let r = lines_few most_expression_words (take most_lines g.rs) (first_lines most_lines g.rs g.relation_lines_lem) in
      let k = lines_few most_ways (take most_kinds g.ks) (first_lines most_kinds g.ks g.kind_lines_lem) in
      let m : length (take most_lines g.rs) ≤ 128 = omega (arith, length-take most_lines g.rs) in
      let n : length (take most_kinds g.ks) ≤ 16 = omega (arith, length-take most_kinds g.ks) in
      (omega (arith, g.relation_words_lem.place, g.words_room), omega (arith, g.kind_words_lem.place, g.kinds_room_lem))

  -- the lines can be counted on
  pub countable : 1 ≤ length rest → length text < 18446744073709551615 → Countable c.relations × Countable c.kinds
  countable h l = (omega (arith, g.relations, g.behind), omega (arith, g.panels, g.behind))

  -- nothing is left
  pub gathering_end : rest ≡ [] → Gathers (parts_of v (lines_from 2 (lines_of text))) words kinds (Ok c)
  unfolding lines_of lines_from
  gathering_end h =
      let e : lines_from 2 (lines_of text) ≡ lines g.rs g.ks =
      g.left ∙ ap (λ (bs : List ℕ). lines_after g.rs g.ks (lines_from (next_line c) (lines_of bs))) h ∙ ap₂ lines (append-nil g.rs) (append-nil g.ks) in
      subst (λ (l : Lines). Gathers (parts_of v l) words kinds (Ok c)) (sym e)
      (record { boards = g.boards; relations = g.relations; panels = g.panels; relation_words_lem = g.relation_words_lem; kind_words_lem = g.kind_words_lem })

  module _ {line rest' : List ℕ} (h : 1 ≤ length rest) (s : Splits rest line rest') where
    -- what is left begins with this line
    next_left : (x : Line) → line_of (symbols line) ≡ x
        → lines_from 2 (lines_of text) ≡ lines_after g.rs g.ks (line_before (next_line c) x (lines_from (suc (next_line c)) (lines_of rest')))
    unfolding lines_from
    next_left x d =
        g.left ∙ ap (λ (ls : List (List ℕ)). lines_after g.rs g.ks (lines_from (next_line c) ls)) (s.lines h)
        ∙ ap (λ (x : Line). lines_after g.rs g.ks (line_before (next_line c) x (lines_from (suc (next_line c)) (lines_of rest')))) d

    module _ (words' kinds' : List ℕ) where
      -- it is malformed
      pub gathering_fault : (r : Option TakenLine) → LineTook (line_of (symbols line)) words c.relations.end kinds c.kinds.end words' kinds' r → {e : ℕ}
          → ok_or r (next_line c) ≡ Err e → {o : Result Gathered ℕ} → o ≡ Err e
          → Gathers (parts_of v (lines_from 2 (lines_of text))) words' kinds' o
      gathering_fault r t {e} q {o} p =
          let n = none_refused r (next_line c) q in
          subst (Gathers (parts_of v (lines_from 2 (lines_of text))) words' kinds') (sym (p ∙ ap Err n.1)) (go (line_of (symbols line)) refl t n.0)
        where
          go : (x : Line) → line_of (symbols line) ≡ x → LineTook x words c.relations.end kinds c.kinds.end words' kinds' r
              → r ≡ None → Gathers (parts_of v (lines_from 2 (lines_of text))) words' kinds' (Err (next_line c))
          go malformed_line d t e =
              subst (λ (y : Lines). Gathers (parts_of v y) words' kinds' (Err (next_line c))) (sym (next_left malformed_line d)) refl
          go (relation_words w) d t e = clash (cc (t.0, e))
          go (kind_words w) d t e = clash (cc (t.0, e))

      -- it is well-formed
      module _ (n : length words' ≡ length words) (k : length kinds' ≡ length kinds) where
        abbrev On : TakenLine → Type 0
        On l = Gathering text v words' kinds' rest' (counted_with c l)

        -- what is left after it
        rest_left : (x : Line) → line_of (symbols line) ≡ x → (n : ℕ) → n ≡ suc (next_line c)
            → lines_from 2 (lines_of text) ≡ lines_after g.rs g.ks (line_before (next_line c) x (lines_from n (lines_of rest')))
        rest_left x d n e = next_left x d ∙ ap (λ (j : ℕ). lines_after g.rs g.ks (line_before (next_line c) x (lines_from j (lines_of rest')))) (sym e)

        with_relation : (w : List ℕ) → line_of (symbols line) ≡ relation_words w → words' ≡ sets words c.relations.end (brief most_expression_words w)
            → kinds' ≡ kinds → On (Relation (c.relations.end + length (brief most_expression_words w)))
        with_relation w d e f =
            let i : IsLine w = relation_made_line (symbols line) w d in
            record {
              behind = omega (arith, s.shorter h, g.behind);
              words_room = n ∙ g.words_room;
              kinds_room_lem = k ∙ g.kinds_room_lem;
              rs = g.rs ++ (w ∷ []);
              ks = g.ks;
              relation_lines_lem = all_append IsLine g.rs g.relation_lines_lem (all_one IsLine i);
              kind_lines_lem = g.kind_lines_lem;
              boards = g.boards;
              relations = omega (arith, g.relations, length-append g.rs (w ∷ []));
              panels = g.panels;
              relation_words_lem =
                  subst
                  (λ (j : ℕ).
                  Stored most_expression_words 6 words'
                  (moved_on (ltb j most_lines) (c.relations.end + length (brief most_expression_words w)) c.relations.end)
                  (take most_lines (g.rs ++ (w ∷ []))))
                  (sym g.relations) (stored_next most_lines g.rs g.relation_words_lem i room_left.0 e refl);
              kind_words_lem = subst (λ (us : List ℕ). Stored most_ways 0 us c.kinds.end (take most_kinds g.ks)) (sym f) g.kind_words_lem;
              left =
                  let n = next_line (counted_with c (Relation 0)) in
                  rest_left (relation_words w) d n (omega arith) ∙ after_relation g.rs g.ks (next_line c) w (lines_from n (lines_of rest'));
            }

        with_kind : (w : List ℕ) → line_of (symbols line) ≡ kind_words w → kinds' ≡ sets kinds c.kinds.end (brief most_ways w) → words' ≡ words
            → On (Kind (c.kinds.end + length (brief most_ways w)))
        with_kind w d e f =
            let i : IsLine w = kind_made_line (symbols line) w d in
            record {
              behind = omega (arith, s.shorter h, g.behind);
              words_room = n ∙ g.words_room;
              kinds_room_lem = k ∙ g.kinds_room_lem;
              rs = g.rs;
              ks = g.ks ++ (w ∷ []);
              relation_lines_lem = g.relation_lines_lem;
              kind_lines_lem = all_append IsLine g.ks g.kind_lines_lem (all_one IsLine i);
              boards = g.boards;
              relations = g.relations;
              panels = omega (arith, g.panels, length-append g.ks (w ∷ []));
              relation_words_lem = subst (λ (us : List ℕ). Stored most_expression_words 6 us c.relations.end (take most_lines g.rs)) (sym f) g.relation_words_lem;
              kind_words_lem =
                  subst
                  (λ (j : ℕ).
                  Stored most_ways 0 kinds' (moved_on (ltb j most_kinds) (c.kinds.end + length (brief most_ways w)) c.kinds.end)
                  (take most_kinds (g.ks ++ (w ∷ []))))
                  (sym g.panels) (stored_next most_kinds g.ks g.kind_words_lem i room_left.1 e refl);
              left =
                  let n = next_line (counted_with c (Kind 0)) in
                  rest_left (kind_words w) d n (omega arith) ∙ after_kind g.rs g.ks (next_line c) w (lines_from n (lines_of rest'));
            }

        pub gathering_on : (r : Option TakenLine) → LineTook (line_of (symbols line)) words c.relations.end kinds c.kinds.end words' kinds' r → (l : TakenLine)
            → ok_or r (next_line c) ≡ Ok l → {c' : Gathered} → c' ≡ counted_with c l → Gathering text v words' kinds' rest' c'
        gathering_on r t l p e = subst (Gathering text v words' kinds' rest') (sym e) (go (line_of (symbols line)) refl t)
          where
            q : r ≡ Some l
            q = some_accepted r (next_line c) p

            go : (x : Line) → line_of (symbols line) ≡ x → LineTook x words c.relations.end kinds c.kinds.end words' kinds' r → On l
            go malformed_line d t = clash (cc (t, q))
            go (relation_words w) d t =
                let m : Relation (c.relations.end + length (brief most_expression_words w)) ≡ l = cc (t.0, q) in
                subst On m (with_relation w d t.1 t.2)
            go (kind_words w) d t =
                let m : Kind (c.kinds.end + length (brief most_ways w)) ≡ l = cc (t.0, q) in
                subst On m (with_kind w d t.1 t.2)
