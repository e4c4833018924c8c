-- `put_pair` meets its contract: it writes two cells and one mark. Assumes nothing.
use mathlib.Core.Path.{sym, ap, ◌∙◌}
use native.Mathlib.Omega.{arith}
use Rattle.passes.proofs.Passes.{place_few, ready_place}
use Rattle.moves.specs.Moves.{told_of}
use Rattle.moves.proofs.Striking.{place_after}
use Rattle.moves.proofs.Taking.{pair_put}
use Rattle.moves.proofs.put_pair.Goals as goal

pub overflow_mul-k : goal.overflow_mul-k
overflow_mul-k c = let pre = c.requires in omega (arith, place_few pre.0.boards pre.2 pre.3)

pub overflow_add-k : goal.overflow_add-k
overflow_add-k c = let pre = c.requires in omega (arith, place_few pre.0.boards pre.2 pre.3)

pub overflow_mul-l : goal.overflow_mul-l
overflow_mul-l c = let pre = c.requires in omega (arith, place_few pre.0.boards pre.3 pre.2)

pub overflow_add-l : goal.overflow_add-l
overflow_add-l c = let pre = c.requires in omega (arith, place_few pre.0.boards pre.3 pre.2)

pub bounds-cells-k : goal.bounds-cells-k
bounds-cells-k c = let pre = c.requires in ready_place pre.0 pre.2 pre.3

pub bounds-cells-l : goal.bounds-cells-l
bounds-cells-l c =
    place_after c.args.cells.now _ c.args.is c.requires.0 c.requires.3 c.requires.2

pub returns : goal.returns
returns c =
    let pre = c.requires in
    record {
      cells = rw c.converse.ensures;
      list = pair_put c.args.v c.args.marks.now pre.0.boards pre.1 c.args.p pre.2 _ c.args.q _ c.insert.ensures;
      told = ap told_of (sym c.if-is_empty.false ∙ c.is_empty.ensures);
    }

pub returns-then-is_empty : goal.returns-then-is_empty
returns-then-is_empty c =
    let pre = c.requires in
    record {
      cells = rw c.converse.ensures;
      list = pair_put c.args.v c.args.marks.now pre.0.boards pre.1 c.args.p pre.2 _ c.args.q _ c.insert.ensures;
      told = ap told_of (sym c.if-is_empty.true ∙ c.is_empty.ensures);
    }
