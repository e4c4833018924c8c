-- Any two answers that a contract of this crate permits are equal. Assumes nothing.
use mathlib.Core.Path.{◌≡◌, sym, ap, ap₂, ◌∙◌}
use mathlib.Core.List.{List}
use Prim.Native.Nat.{ℕ}
use Rattle.std.proofs.Common.{Result, Ok, Err}
use Rattle.contracts.specs.Promises.{OneResult}
use Rattle.typed.specs.Grammar.{lines_of}
use Rattle.text_lines.specs.declared.Section.{Section}
use Rattle.text_lines.specs.declared.Gathered.{Gathered}
use Rattle.text_lines.specs.Gatherings.{Parts, fault_at, parts, sheet_parts, Gathers}
use Rattle.text_lines.proofs.gather.Kinds as gather_kinds
use Rattle.text_lines.proofs.gather.Reads as gather
use Rattle.text_lines.proofs.kinds_room.Kinds as kinds_room_kinds
use Rattle.text_lines.proofs.kinds_room.Reads as kinds_room_lem

pub kinds_room_determined : OneResult 0 kinds_room_kinds.ps kinds_room_kinds.r kinds_room_lem.Asked kinds_room_lem.Learnt
kinds_room_determined κs a asked x y d e p q = p ∙ sym q

same_section : (s t : Section) → s.lines ≡ t.lines → s.end ≡ t.end → s ≡ t
same_section s t e f = ap₂ (λ (l n : ℕ). record { lines = l; end = n }) e f

same_gathered : (s t : Gathered) → s.boards ≡ t.boards → s.relations ≡ t.relations → s.kinds ≡ t.kinds → s ≡ t
same_gathered s t e f g =
    ap₂ (λ (v : ℕ) (r : Section). record { boards = v; relations = r; kinds = s.kinds }) e f
    ∙ ap (λ (k : Section). record { boards = t.boards; relations = t.relations; kinds = k }) g

one_gathered : (p : Parts) (ws us kinds others : List ℕ) (x y : Result Gathered ℕ) → Gathers p ws kinds x → Gathers p us others y → x ≡ y
one_gathered (fault_at n) ws us kinds others x y g h = g ∙ sym h
one_gathered (parts v rs ks) ws us kinds others (Ok x) (Ok y) g h =
    ap Ok
    (same_gathered x y (g.boards ∙ sym h.boards)
    (same_section x.relations y.relations (g.relations ∙ sym h.relations) (g.relation_words_lem.place ∙ sym h.relation_words_lem.place))
    (same_section x.kinds y.kinds (g.panels ∙ sym h.panels) (g.kind_words_lem.place ∙ sym h.kind_words_lem.place)))
one_gathered (parts v rs ks) ws us kinds others (Ok x) (Err n) g h = absurd h
one_gathered (parts v rs ks) ws us kinds others (Err m) y g h = absurd g

pub gather_determined : OneResult 3 gather_kinds.ps gather_kinds.r gather.Asked gather.Learnt
gather_determined κs a asked x y d e p q = one_gathered (sheet_parts (lines_of a.0.now)) _ _ _ _ x y p q
