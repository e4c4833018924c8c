-- Line n as code meets it, at the place where it begins, and how it comes into the index of the lines before it. Assumes nothing.
use mathlib.Core.Path.{◌≡◌, sym, ap, ◌∙◌, subst}
use mathlib.Core.Logic.{inl}
use mathlib.Core.List.{List}
use Prim.Native.Nat.{ℕ, ◌+◌, ◌*◌, ◌≤◌, ◌<◌}
use native.Mathlib.Numerals.{add-one}
use native.Mathlib.Omega.{arith}
use lib.ListN.{length, get_or, set}
use Rattle.rules.specs.Descriptions.{most_boards, most_kinds, most_ways}
use Rattle.rules.specs.Descriptions as descriptions
use Rattle.rules.specs.Arrangements.{way, width}
use Rattle.kinds.specs.declared.KindLine.{KindLine}
use Rattle.kinds.specs.Lines.{kind_at, ways_at, line_at, StandsIn}
use Rattle.bits.specs.Sets.{added, added_at}
use Rattle.by_board.specs.Found.{start_of, numbered, spots_at, places_at, starts_at, Begins, Indexed}
use Rattle.by_board.proofs.Numbers.{numbered_stands, numbered_narrow, numbered_early}
use Rattle.by_board.proofs.Marking.{Placed, indexed_placed, placed_apart, placed_way}
use Rattle.by_board.proofs.Telling.{Telling, indexed_telling, tell_place, tell_panel, upto, ways_none, tell_way, ways_all, tell_start}

-- line n is told by panel and by its ways in the places before i
abbrev pub Turn : List ℕ → ℕ → ℕ → List ℕ → Type 0
Turn ws n i xs = Telling ws xs (n + 1) (upto n i) n × Placed xs

module _ {n : ℕ} {ws : List ℕ} {at : ℕ} (b : Begins n ws at) where
  -- it is one of few, has its first words, and begins early
  pub line_few : n < most_kinds
  line_few = omega (arith, b.below, b.fits.0)

  pub line_there : at + 3 ≤ length ws
  line_there =
      let (most, (v, boards, has)) = b.fits in
      subst (λ (k : ℕ). k + 3 ≤ length ws) (sym b.place) (numbered_stands v b.count ws has n b.below).1

  pub line_early : at ≤ (3 + most_ways) * most_kinds
  line_early =
      let (most, (v, boards, has)) = b.fits in
      let e : at ≡ start_of ws n = b.place in
      let l : start_of ws n ≤ (3 + most_ways) * n = numbered_early v b.count ws has n (omega (arith, b.below)) in
      omega (arith, line_few)

  -- the line as code has found it by its place
  module _ {k : KindLine} (found : k ≡ kind_at ws at) where
    at_start : k ≡ kind_at ws (start_of ws n)
    at_start = found ∙ ap (kind_at ws) b.place

    is_line : numbered ws n ≡ line_at ws k
    is_line = ap (line_at ws) (sym at_start)

    pub line_stands : StandsIn most_boards ws k
    line_stands =
        let (most, (v, boards, has)) = b.fits in
        let s = (numbered_stands v b.count ws has n b.below).0 in
        subst (StandsIn most_boards ws) (sym at_start)
        (record { ordered = s.ordered; room = s.room; board = omega (arith, s.board); boards = λ i h. omega (arith, s.boards i h) })

    pub line_narrow : length (ways_at ws k) ≤ most_ways
    line_narrow =
        let (most, (v, boards, has)) = b.fits in
        subst (λ (l : descriptions.KindLine). width l ≤ most_ways) is_line (numbered_narrow v b.count ws has n b.below)

    -- each of its ways is a board, and in one of few places
    pub line_board : {i y : ℕ} → i < length (ways_at ws k) → y ≡ get_or (ways_at ws k) i 0 → (y < most_boards) × (i < most_ways)
    line_board {i} {y} h e = (omega (arith, e, line_stands.boards i h), omega (arith, line_narrow))

    -- the next line begins where it ends
    pub line_next : k.end ≡ start_of ws (n + 1)
    unfolding start_of
    line_next = ap (λ (l : KindLine). l.end) at_start ∙ sym (ap (start_of ws) (add-one n))

    -- it is told by panel, by each way in turn, and then where it begins
    pub line_panel : {xs : List ℕ} → Indexed n ws xs → Turn ws n 0 (added_at xs k.p n)
    line_panel {xs} t = (
      ways_none n (tell_panel (indexed_telling t) k.p line_stands.board (ap (λ (l : descriptions.KindLine). l.p) is_line)),
      placed_apart (indexed_placed t) k.p (added (get_or xs k.p 0) n) (inl line_stands.board),
    )

    module _ {xs : List ℕ} {i : ℕ} (t : Turn ws n i xs) where
      -- by a way, and by the way's place
      pub line_way : {y : ℕ} → i < length (ways_at ws k) → y ≡ get_or (ways_at ws k) i 0
          → Turn ws n (i + 1) (added_at (added_at xs (spots_at + most_ways * y + i) n) (places_at + y) i)
      line_way {y} h e =
          let (board, few) = line_board h e in (
            tell_place
                (tell_way n i t.0 y board few (subst (λ (l : descriptions.KindLine). i < width l) (sym is_line) h)
                (ap (λ (l : descriptions.KindLine). way l i) is_line ∙ sym e)) y _ board,
            placed_way t.1 n y i board few t.0.words,
          )

      pub line_told : length (ways_at ws k) ≤ i → Indexed (n + 1) ws (set xs (starts_at + n) at)
      line_told h =
          tell_start (ways_all n i t.0 (subst (λ (l : descriptions.KindLine). width l ≤ i) (sym is_line) h)) t.1 line_few b.place
