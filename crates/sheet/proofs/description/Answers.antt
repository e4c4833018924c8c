-- `description` meets its contract: the header and the two sections, each as its reader finds it. Assumes nothing.
use borrow.Author.Rules.{rules}
use mathlib.Core.Path.{◌≡◌, sym, ◌∙◌}
use Prim.Native.Nat.{◌+◌, ◌≤◌, ◌<◌, ◌^◌}
use native.Mathlib.Omega.{arith}
use lib.ListN.{length}
use Rattle.std.proofs.lemmas.Result.{err_from_is_err_and}
use Rattle.std.proofs.iter.Serving.{serving}
use Rattle.answers.specs.Answers.{later_by}
use Rattle.sheet.proofs.Mapped.{mapped, mapped_ok}
use Rattle.sheet.proofs.Wholes.{headed, kinds_after, kinds_inside, relation_part_lem, kind_part_lem, lines_place, kinds_place, description_unheaded, description_no_lines, description_no_kinds, description_read}
use Rattle.sheet.proofs.description.Goals as goal

pub returns-in_err-h : goal.returns-in_err-h
returns-in_err-h c =
    let p = err_from_is_err_and c.from_residual.result c.from_residual.ensures.1 in
    rw (p.1, p.2) (description_unheaded c.args.words.now _ (sym c.in_err-h.was ∙ c.read_header.ensures))

pub map_err-requires : goal.map_err-requires
map_err-requires c e is =
    let ws = c.args.words.now in
    let h = headed ws _ (sym c.in_ok-h.was ∙ c.read_header.ensures) in
    let place : 6 + e.place ≤ length ws = lines_place ws h e (relation_part_lem ws h _ (sym is ∙ c.relation_section.ensures)) in
    let small : 6 + e.place < 2 ^ 64 = omega (arith, place) in
    grind (arith, serving, small)

pub slice_bounds-lines-count : goal.slice_bounds-lines-count
slice_bounds-lines-count c = kinds_after c.args.words.now (headed c.args.words.now _ (sym c.in_ok-h.was ∙ c.read_header.ensures))

pub slice_bounds-lines-start : goal.slice_bounds-lines-start
slice_bounds-lines-start c = kinds_after c.args.words.now (headed c.args.words.now _ (sym c.in_ok-h.was ∙ c.read_header.ensures))

pub slice_bounds-lines-end : goal.slice_bounds-lines-end
slice_bounds-lines-end c = kinds_inside c.args.words.now (headed c.args.words.now _ (sym c.in_ok-h.was ∙ c.read_header.ensures))

pub returns-in_err-map_err : goal.returns-in_err-map_err
returns-in_err-map_err c =
    let ws = c.args.words.now in
    let h = headed ws _ (sym c.in_ok-h.was ∙ c.read_header.ensures) in
    let p = err_from_is_err_and c.from_residual-in_err-map_err.result c.from_residual-in_err-map_err.ensures.1 in
    let (e, is, came) = mapped _ _ _ c.map_err.ensures.cases _ c.in_err-map_err.was in
    let moved : c.in_err-map_err.field-0.0 ≡ later_by 6 e = search rules in
    rw (p.1, p.2) (description_no_lines ws h e _ (relation_part_lem ws h _ (sym is ∙ c.relation_section.ensures)) moved)

pub slice_bounds-agreed_section-count : goal.slice_bounds-agreed_section-count
slice_bounds-agreed_section-count c = kinds_inside c.args.words.now (headed c.args.words.now _ (sym c.in_ok-h.was ∙ c.read_header.ensures))

pub slice_bounds-agreed_section-start : goal.slice_bounds-agreed_section-start
slice_bounds-agreed_section-start c = kinds_inside c.args.words.now (headed c.args.words.now _ (sym c.in_ok-h.was ∙ c.read_header.ensures))

pub map_err-requires-2 : goal.map_err-requires-2
map_err-requires-2 c e is =
    let ws = c.args.words.now in
    let h = headed ws _ (sym c.in_ok-h.was ∙ c.read_header.ensures) in
    let place : c.in_ok-h.h.kinds.at + e.place ≤ length ws = kinds_place ws h e (kind_part_lem ws h _ (sym is ∙ c.agreed_section.ensures)) in
    let small : c.in_ok-h.h.kinds.at + e.place < 2 ^ 64 = omega (arith, place) in
    grind (arith, serving, small)

pub returns-in_err-map_err-2 : goal.returns-in_err-map_err-2
returns-in_err-map_err-2 c =
    let ws = c.args.words.now in
    let h = headed ws _ (sym c.in_ok-h.was ∙ c.read_header.ensures) in
    let p = err_from_is_err_and c.from_residual-in_err-map_err-2.result c.from_residual-in_err-map_err-2.ensures.1 in
    let (e, is, came) = mapped _ _ _ c.map_err-2.ensures.cases _ c.in_err-map_err-2.was in
    let moved : c.in_err-map_err-2.field-0.0 ≡ later_by c.in_ok-h.h.kinds.at e = grind (arith, serving, came) in
    let filled = relation_part_lem ws h _ (sym (mapped_ok _ _ _ c.map_err.ensures.cases _ c.in_ok-map_err.was) ∙ c.relation_section.ensures) in
    rw (p.1, p.2) (description_no_kinds ws h filled e _ (kind_part_lem ws h _ (sym is ∙ c.agreed_section.ensures)) moved)

pub returns : goal.returns
returns c =
    let ws = c.args.words.now in
    let h = headed ws _ (sym c.in_ok-h.was ∙ c.read_header.ensures) in
    let filled = relation_part_lem ws h _ (sym (mapped_ok _ _ _ c.map_err.ensures.cases _ c.in_ok-map_err.was) ∙ c.relation_section.ensures) in
    description_read ws h filled (kind_part_lem ws h _ (sym (mapped_ok _ _ _ c.map_err-2.ensures.cases _ c.in_ok-map_err-2.was) ∙ c.agreed_section.ensures))
