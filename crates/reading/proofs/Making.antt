-- What was gathered of a text, joined, is read as the words that the text makes. Assumes nothing.
use mathlib.Core.Path.{◌≡◌, refl, sym, ap, ap₂, ◌∙◌, subst}
use mathlib.Core.List.{List, [], ◌∷◌, ◌++◌, map, flatten}
use Prim.Native.Nat.{ℕ, ◌+◌, ◌≤◌, ◌<◌, min}
use native.Mathlib.Omega.{arith}
use lib.ListN.{length, take, drop, length-map}
use lib.Seq.{sets, sets-eq, length-sets, take_all, take-append-add}
use Rattle.std.specs.Result.{IsOkAnd}
use Rattle.std.proofs.Common.{Result, Ok, Err}
use Rattle.rules.specs.Descriptions.{most_boards, most_lines, most_kinds, most_expression_words, most_ways, most_words, Sheet, Reading, good, refused, read, describe}
use Rattle.rules.specs.Calls.{Outcome, refuse, given}
use Rattle.rules.proofs.Tests.{clash}
use Rattle.rules.proofs.Members.{All, all_none, all_one, all_append}
use Rattle.typed.specs.Brief.{brief}
use Rattle.typed.specs.Symbols.{symbols}
use Rattle.typed.specs.Grammar.{lines_of, LinesTyped, none, relation_next, kind_next}
use Rattle.typed.specs.Sheets.{First, no_boards, boards_of, first_of, Lines, stopped, lines, lines_from, Typed, sheet, typed}
use Rattle.typed.specs.Calls.{most_count, in_room, read_typed, from_text}
use Rattle.meanings.proofs.Sheets.{made_lines}
use Rattle.returns.proofs.Sections.{IsLine}
use Rattle.returns.proofs.Made.{relation_typed_line, kind_typed_line}
use Rattle.returns.proofs.Headers.{range_boards, range_lines, range_kinds, read_described}
use Rattle.returns.proofs.Brief.{brief_read, brief_good}
use Rattle.text_lines.specs.declared.Gathered.{Gathered}
use Rattle.text_lines.specs.Gatherings.{Parts, fault_at, parts, parts_of, opened_parts, sheet_parts, typed_parts, kinds_room, Stored, Whole, Gathers}
use Rattle.text_lines.proofs.Storing.{lines_few, put_more}
use Rattle.reading.specs.Joined.{header, Joins, Joined}

-- ---- the parts of a text

parts_typed : (ls : List (List ℕ)) → sheet ls ≡ typed_parts (sheet_parts ls)
parts_typed [] = refl
parts_typed (l ∷ ls) = opened (first_of (symbols l))
  where
    rest : (v : ℕ) (x : Lines) → Rattle.typed.specs.Sheets.description v x ≡ typed_parts (parts_of v x)
    rest v (stopped n) = refl
    rest v (lines rs ks) = refl

    opened : (f : First) → Rattle.typed.specs.Sheets.opened f ls ≡ typed_parts (opened_parts f ls)
    opened no_boards = refl
    opened (boards_of v) = rest v (lines_from 2 ls)

-- what a text makes, by its parts
pub text_typed : (text : List ℕ) → typed text ≡ typed_parts (sheet_parts (lines_of text))
unfolding typed
text_typed text = parts_typed (lines_of text)

-- what is read of a text, by its parts
abbrev pub read_parts : Parts → List ℕ → Outcome (List ℕ)
read_parts p room = read_typed (typed_parts p) room

pub from_parts : (text room : List ℕ) → read_parts (sheet_parts (lines_of text)) room ≡ from_text text room
unfolding from_text
from_parts text room = ap (λ (t : Typed). read_typed t room) (sym (text_typed text))

-- the words of lines are lines
pub typed_lines : {ls rs ks : List (List ℕ)} → LinesTyped ls rs ks → (All IsLine rs) × (All IsLine ks)
typed_lines none = (all_none IsLine, all_none IsLine)
typed_lines (relation_next {w = w} s r t) = let h = typed_lines t in (all_append IsLine (w ∷ []) (all_one IsLine (relation_typed_line r)) h.0, h.1)
typed_lines (kind_next {w = w} s k t) = let h = typed_lines t in (h.0, all_append IsLine (w ∷ []) (all_one IsLine (kind_typed_line k)) h.1)

pub parts_lines : (ls : List (List ℕ)) (v : ℕ) (rs ks : List (List ℕ)) → sheet_parts ls ≡ parts v rs ks → (All IsLine rs) × (All IsLine ks)
parts_lines [] v rs ks e = clash (cc)
parts_lines (l ∷ ls) v rs ks e = go (first_of (symbols l)) e
  where
    rest : (u : ℕ) (x : Lines) → lines_from 2 ls ≡ x → parts_of u x ≡ parts v rs ks → (All IsLine rs) × (All IsLine ks)
    rest u (stopped n) d f = clash (cc)
    rest u (lines rs' ks') d f =
        let p : rs' ≡ rs = cc in
        let q : ks' ≡ ks = cc in
        typed_lines (made_lines 2 ls rs ks (d ∙ ap₂ lines p q))

    go : (f : First) → opened_parts f ls ≡ parts v rs ks → (All IsLine rs) × (All IsLine ks)
    go no_boards d = clash (cc)
    go (boards_of u) d = rest u (lines_from 2 ls) refl d

-- ---- what was gathered, joined

module _ {v : ℕ} {rs ks : List (List ℕ)} {ws kinds : List ℕ} {g : Gathered} (w : Whole v rs ks ws kinds g) (few_relations : length rs ≤ most_lines) (few_kinds : length ks ≤ most_kinds) where
  abbrev relation_part : List ℕ
  relation_part = flatten (map (brief most_expression_words) rs)

  abbrev kind_part : List ℕ
  kind_part = flatten (map (brief most_ways) ks)

  -- no line is left out
  relations_stored : Stored most_expression_words 6 ws g.relations.end rs
  relations_stored = subst (Stored most_expression_words 6 ws g.relations.end) (take_all most_lines rs few_relations) w.relation_words_lem

  kinds_stored : Stored most_ways 0 kinds g.kinds.end ks
  kinds_stored = subst (Stored most_ways 0 kinds g.kinds.end) (take_all most_kinds ks few_kinds) w.kind_words_lem

  module _ (relation_lines : All IsLine rs) (kind_lines : All IsLine ks) (p : length ws ≡ most_words) (q : length kinds ≡ kinds_room) where
    pub joins : Joins ws kinds g
    joins =
        let a = lines_few most_expression_words rs relation_lines in
        let b = lines_few most_ways ks kind_lines in
        record {
          words_room = p;
          few_relations = omega (arith, w.relations);
          few_kinds = omega (arith, w.panels);
          begins = omega (arith, relations_stored.place);
          inside = omega (arith, kinds_stored.place);
          room = omega (arith, relations_stored.place, kinds_stored.place);
        }

    module _ {after : List ℕ} {total : ℕ} (j : Joined ws kinds g after total) where
      -- the words are those of the description, as far as its lines are not too long
      pub joined_words : take total after ≡ describe v (map (brief most_expression_words) rs) (map (brief most_ways) ks)
      joined_words =
          ap (take total) (j.words ∙ ap (sets front g.relations.end) kind_words_lem) ∙ after_front ∙ ap (λ (us : List ℕ). us ++ kind_part) front_words ∙ named
        where
          front : List ℕ
          front = sets ws 0 (header g total)

          kind_words_lem : take g.kinds.end kinds ≡ kind_part
          kind_words_lem = let e : g.kinds.end ≡ length kind_part = omega (arith, kinds_stored.place) in ap (λ (n : ℕ). take n kinds) e ∙ kinds_stored.words

          after_front : take total (sets front g.relations.end kind_part) ≡ take g.relations.end front ++ kind_part
          after_front =
              let t : total ≡ g.relations.end + length kind_part = omega (arith, j.count, kinds_stored.place) in
              let n : g.relations.end ≡ 0 + g.relations.end = omega arith in
              let r : 0 + g.relations.end + length kind_part ≤ length front = omega (arith, length-sets ws 0 (header g total), joins.room, kinds_stored.place) in
              ap (λ (k : ℕ). take k (sets front g.relations.end kind_part)) t
              ∙ ap (λ (k : ℕ). take (g.relations.end + length kind_part) (sets front k kind_part)) n ∙ put_more front 0 g.relations.end kind_part r

          front_words : take g.relations.end front ≡ header g total ++ relation_part
          front_words =
              let r : 0 + 6 ≤ length ws = omega arith in
              ap (take g.relations.end) (sets-eq (header g total) ws 0 r)
              ∙ ap (λ (k : ℕ). take k (header g total ++ drop 6 ws)) relations_stored.place
              ∙ take-append-add (header g total) (drop 6 ws) (length relation_part) ∙ ap (λ (us : List ℕ). header g total ++ us) relations_stored.words

          -- the six words of the header
          six : ℕ → ℕ → ℕ → ℕ → ℕ → List ℕ
          six a b c d e = a ∷ b ∷ c ∷ 6 ∷ d ∷ e ∷ (relation_part ++ kind_part)

          named : (header g total ++ relation_part) ++ kind_part ≡ describe v (map (brief most_expression_words) rs) (map (brief most_ways) ks)
          named =
              let a : g.relations.lines ≡ length (map (brief most_expression_words) rs) = w.relations ∙ sym (length-map rs (brief most_expression_words)) in
              let b : g.kinds.lines ≡ length (map (brief most_ways) ks) = w.panels ∙ sym (length-map ks (brief most_ways)) in
              let t : total ≡ 6 + length relation_part + length kind_part = omega (arith, j.count, relations_stored.place, kinds_stored.place) in
              ap (λ (x : ℕ). six x g.relations.lines g.kinds.lines g.relations.end total) w.boards
              ∙ ap (λ (x : ℕ). six v x g.kinds.lines g.relations.end total) a
              ∙ ap (λ (x : ℕ). six v (length (map (brief most_expression_words) rs)) x g.relations.end total) b
              ∙ ap (λ (x : ℕ). six v (length (map (brief most_expression_words) rs)) (length (map (brief most_ways) ks)) x total) relations_stored.place
              ∙ ap (six v (length (map (brief most_expression_words) rs)) (length (map (brief most_ways) ks)) (6 + length relation_part)) t

      -- and are read as the words that the text makes
      pub joined_read : (room : List ℕ) → given (read (take total after)) room (λ s. in_room (take total after) room) ≡ read_parts (parts v rs ks) room
      joined_read room = ap (λ (us : List ℕ). given (read us) room (λ s. in_room us room)) joined_words ∙ go (read (describe v rs ks)) refl
        where
          short : List ℕ
          short = describe v (map (brief most_expression_words) rs) (map (brief most_ways) ks)

          same : read short ≡ read (describe v rs ks)
          same = sym (brief_read v rs ks relation_lines kind_lines)

          go : (r : Reading Sheet) → read (describe v rs ks) ≡ r
              → given (read short) room (λ s. in_room short room) ≡ given (read (describe v rs ks)) room (λ s. in_room (describe v rs ks) room)
          go (good s) e =
              let d : short ≡ describe v rs ks = brief_good v rs ks relation_lines kind_lines s e in
              ap (λ (us : List ℕ). given (read us) room (λ s. in_room us room)) d
          go (refused n k) e =
              ap (λ (r : Reading Sheet). given r room (λ s. in_room short room)) (same ∙ e)
              ∙ sym (ap (λ (r : Reading Sheet). given r room (λ s. in_room (describe v rs ks) room)) e)

-- ---- what a text came to

-- a number of boards out of range, or too many lines of a sort, are refused with 1, at their word
module _ (v : ℕ) (rs ks : List (List ℕ)) (room : List ℕ) where
  unread : (k : ℕ) → read (describe v rs ks) ≡ refused 1 k → refuse 1 k room ≡ read_parts (parts v rs ks) room
  unread k e = sym (ap (λ (r : Reading Sheet). given r room (λ s. in_room (describe v rs ks) room)) e)

  pub no_boards_lem : (1 ≤ v → v ≤ most_boards → ⊥) → refuse 1 0 room ≡ read_parts (parts v rs ks) room
  no_boards_lem f = unread 0 (read_described v rs ks ∙ range_boards v (length rs) (length ks) _ f)

  pub many_relations : 1 ≤ v → v ≤ most_boards → most_lines < length rs → refuse 1 1 room ≡ read_parts (parts v rs ks) room
  many_relations some most h = unread 1 (read_described v rs ks ∙ range_lines v (length rs) (length ks) _ some most h)

  pub many_kinds : 1 ≤ v → v ≤ most_boards → length rs ≤ most_lines → most_kinds < length ks → refuse 1 2 room ≡ read_parts (parts v rs ks) room
  many_kinds some most few h = unread 2 (read_described v rs ks ∙ range_kinds v (length rs) (length ks) _ some most few h)

-- the parts of a text without a malformed line
pub record Parted (text ws kinds : List ℕ) (g : Gathered) : Type 0 where
  pub v : ℕ
  pub rs : List (List ℕ)
  pub ks : List (List ℕ)
  pub is : sheet_parts (lines_of text) ≡ parts v rs ks
  pub whole : Whole v rs ks ws kinds g
  pub relation_lines_lem : All IsLine rs
  pub kind_lines_lem : All IsLine ks

module _ (text ws kinds : List ℕ) (r : Result Gathered ℕ) (h : Gathers (sheet_parts (lines_of text)) ws kinds r) where
  pub stopped_at : {n : ℕ} → r ≡ Err n → (room : List ℕ) → refuse 20 (min n most_count) room ≡ from_text text room
  stopped_at {n} f room = go (sheet_parts (lines_of text)) refl h ∙ from_parts text room
    where
      go : (p : Parts) → sheet_parts (lines_of text) ≡ p → Gathers p ws kinds r → refuse 20 (min n most_count) room ≡ read_parts (sheet_parts (lines_of text)) room
      go (fault_at m) e t =
          let k : n ≡ m = cc (t, f) in
          ap (λ (k : ℕ). refuse 20 (min k most_count) room) k ∙ sym (ap (λ (p : Parts). read_parts p room) e)
      go (parts v rs ks) e t = absurd (subst (λ (x : Result Gathered ℕ). IsOkAnd x (Whole v rs ks ws kinds)) f t)

  parted : {g : Gathered} → r ≡ Ok g → Parted text ws kinds g
  parted {g} f = go (sheet_parts (lines_of text)) refl h
    where
      go : (p : Parts) → sheet_parts (lines_of text) ≡ p → Gathers p ws kinds r → Parted text ws kinds g
      go (fault_at n) e t = clash (cc (t, f))
      go (parts v rs ks) e t =
          let l = parts_lines (lines_of text) v rs ks e in
          record {
            v = v;
            rs = rs;
            ks = ks;
            is = e;
            whole = subst (λ (x : Result Gathered ℕ). IsOkAnd x (Whole v rs ks ws kinds)) f t;
            relation_lines_lem = l.0;
            kind_lines_lem = l.1;
          }

  module _ {g : Gathered} (f : r ≡ Ok g) (room : List ℕ) where
    abbrev p : Parted text ws kinds g
    p = parted f

    told : {o : Outcome (List ℕ)} → o ≡ read_parts (parts p.v p.rs p.ks) room → o ≡ from_text text room
    told e = e ∙ ap (λ (x : Parts). read_parts x room) (sym p.is) ∙ from_parts text room

    -- no board, or too many
    pub boards_out : (1 ≤ g.boards → g.boards ≤ most_boards → ⊥) → refuse 1 0 room ≡ from_text text room
    boards_out out = told (no_boards_lem p.v p.rs p.ks room (λ low high. out (omega (arith, p.whole.boards)) (omega (arith, p.whole.boards))))

    module _ (some : 1 ≤ g.boards) (most : g.boards ≤ most_boards) where
      -- too many relation lines
      pub lines_over : most_lines < g.relations.lines → refuse 1 1 room ≡ from_text text room
      lines_over over = told (many_relations p.v p.rs p.ks room (omega (arith, p.whole.boards)) (omega (arith, p.whole.boards)) (omega (arith, p.whole.relations)))

      -- too many kind lines
      pub kinds_over : g.relations.lines ≤ most_lines → most_kinds < g.kinds.lines → refuse 1 2 room ≡ from_text text room
      kinds_over few over =
          told
          (many_kinds p.v p.rs p.ks room (omega (arith, p.whole.boards)) (omega (arith, p.whole.boards)) (omega (arith, p.whole.relations))
          (omega (arith, p.whole.panels)))

    -- neither: what was gathered is joined, and read
    module _ (few_relations : g.relations.lines ≤ most_lines) (few_kinds : g.kinds.lines ≤ most_kinds) (i : length ws ≡ most_words) (j : length kinds ≡ kinds_room) where
      few_relation_lines : length p.rs ≤ most_lines
      few_relation_lines = omega (arith, p.whole.relations)

      few_kind_lines : length p.ks ≤ most_kinds
      few_kind_lines = omega (arith, p.whole.panels)

      pub joining : Joins ws kinds g
      joining = joins p.whole few_relation_lines few_kind_lines p.relation_lines_lem p.kind_lines_lem i j

      pub joined_told : {after : List ℕ} {total : ℕ} → Joined ws kinds g after total
          → given (read (take total after)) room (λ s. in_room (take total after) room) ≡ from_text text room
      joined_told q = told (joined_read p.whole few_relation_lines few_kind_lines p.relation_lines_lem p.kind_lines_lem i j q room)
