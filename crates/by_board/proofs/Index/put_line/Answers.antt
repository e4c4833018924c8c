-- `put_line` meets its contract: the line is told by panel and by the ways passed. Assumes nothing.
use mathlib.Core.Path.{◌≡◌, sym, ap, ◌∙◌, subst}
use Prim.Native.Nat.{◌+◌, ◌*◌}
use native.Mathlib.Omega.{arith}
use borrow.Author.Rules.{rules}
use lib.ListN.{length, set, length-set}
use Rattle.rules.specs.Descriptions.{most_boards, most_ways}
use Rattle.bits.specs.Sets.{added_at}
use Rattle.by_board.specs.declared.Index.TheInside.{Inside}
use Rattle.by_board.specs.Found.{places_at, Indexed}
use Rattle.by_board.proofs.Placing.{Turn, line_there, line_early, line_stands, line_next, line_panel, line_board, line_way, line_told}
use Rattle.by_board.proofs.Laying.{laid_panel, laid_way, laid_place, laid_start}
use Rattle.by_board.proofs.Index.put_line.Goals as goal

pub kind_at-line-requires : goal.kind_at-line-requires
kind_at-line-requires c = line_there c.requires.0

pub listed : goal.listed
listed c = omega (arith, c.self.invariant.0, (line_stands c.requires.0 c.kind_at-line.ensures).board)

pub bounds-self-inside-line : goal.bounds-self-inside-line
bounds-self-inside-line c = (line_stands c.requires.0 c.kind_at-line.ensures).board

pub offset_bounds-words-first : goal.offset_bounds-words-first
offset_bounds-words-first c = let s = line_stands c.requires.0 c.kind_at-line.ensures in search rules

pub slice_bounds-ways-end : goal.slice_bounds-ways-end
slice_bounds-ways-end c = let s = line_stands c.requires.0 c.kind_at-line.ensures in search rules

pub loop-i-init : goal.loop-i-init
loop-i-init c =
    let begins = c.requires.0 in
    let met = c.kind_at-line.ensures in
    let (a, b, d, e) = c.self.invariant in
    let put = laid_panel c.self.inside c.self.invariant c.kind_at-line.result.p c.args.n c.index-self-line.result (line_stands begins met).board c.insert.ensures in (
      (length-set c.self.inside.by_panel c.kind_at-line.result.p _ ∙ a, b, d, e),
      subst (Turn c.args.words.now c.args.n 0) (ap (λ xs. added_at xs c.kind_at-line.result.p c.args.n) (sym c.self.view_is) ∙ put) (line_panel begins met c.requires.1),
    )

pub listed-in-loop-i : goal.listed-in-loop-i
listed-in-loop-i c =
    let (board, few) = line_board c.requires.0 c.kind_at-line.ensures c.loop-i-test.true c.from-y.ensures in
    omega (arith, c.loop-i.invariant.0.1)

pub bounds-self-inside-y : goal.bounds-self-inside-y
bounds-self-inside-y c =
    let (board, few) = line_board c.requires.0 c.kind_at-line.ensures c.loop-i-test.true c.from-y.ensures in
    omega arith

pub listed-in-loop-i-2 : goal.listed-in-loop-i-2
listed-in-loop-i-2 c =
    let (board, few) = line_board c.requires.0 c.kind_at-line.ensures c.loop-i-test.true c.from-y.ensures in
    omega (arith, c.loop-i.invariant.0.2)

pub bounds-self-inside-y-in-loop-i : goal.bounds-self-inside-y-in-loop-i
bounds-self-inside-y-in-loop-i c = (line_board c.requires.0 c.kind_at-line.ensures c.loop-i-test.true c.from-y.ensures).0

pub insert-requires-in-loop-i-2 : goal.insert-requires-in-loop-i-2
insert-requires-in-loop-i-2 c =
    let (board, few) = line_board c.requires.0 c.kind_at-line.ensures c.loop-i-test.true c.from-y.ensures in
    omega arith

pub loop-i-preserved : goal.loop-i-preserved
loop-i-preserved c =
    let begins = c.requires.0 in
    let met = c.kind_at-line.ensures in
    let (sized, turn) = c.loop-i.invariant in
    let (a, b, d, e) = sized in
    let i = c.loop-i.i in
    let y = c.from-y.result in
    let x = c.loop-i.self-inside in
    let (board, few) = line_board begins met c.loop-i-test.true c.from-y.ensures in
    let wide : length (set x.by_way (most_ways * y + i) c.insert-in-loop-i.new.self) ≡ most_ways * most_boards = length-set x.by_way (most_ways * y + i) _ ∙ b in
    let more : Inside = record { by_panel = x.by_panel; by_way = set x.by_way (most_ways * y + i) c.insert-in-loop-i.new.self; places = x.places; starts = x.starts } in
    let by_way = laid_way x sized y i c.args.n c.index-self-y.result board few c.insert-in-loop-i.ensures in
    let by_place = laid_place more (a, wide, d, e) y i c.index-self-y-in-loop-i.result board c.insert-in-loop-i-2.ensures in (
      (a, wide, length-set x.places y _ ∙ d, e),
      subst (Turn c.args.words.now c.args.n (i + 1)) (ap (λ xs. added_at xs (places_at + y) i) by_way ∙ by_place)
          (line_way begins met turn c.loop-i-test.true c.from-y.ensures),
    )

pub returns : goal.returns
returns c =
    let begins = c.requires.0 in
    let met = c.kind_at-line.ensures in
    let (sized, turn) = c.loop-i.invariant in
    (line_next begins met, subst (Indexed (c.args.n + 1) c.args.words.now) (laid_start c.loop-i.self-inside sized c.args.n c.args.at) (line_told begins met turn c.loop-i-test.false))

pub overflow_cast-self : goal.overflow_cast-self
overflow_cast-self c = record { fits = omega (arith, line_early c.requires.0) }
