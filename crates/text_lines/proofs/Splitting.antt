-- The first line of a text, and the text after it. Assumes nothing.
use mathlib.Core.Path.{◌≡◌, refl, sym, ap, ap₂, ◌∙◌}
use mathlib.Core.Bool.{Bool}
use mathlib.Core.List.{List, [], ◌∷◌}
use Prim.Native.Nat.{ℕ, zero, suc, ◌+◌, ◌-◌, ◌≤◌, ◌<◌}
use native.Mathlib.Numerals.{add-one}
use native.Mathlib.Omega.{arith}
use borrow.Author.Tests.{eq-eqb, ne_eqb}
use lib.Dec.{eqb}
use lib.ListN.{length, get_or, take, drop, length-drop, drop_of_length-le}
use lib.Seq.{take_all}
use Rattle.std.specs.Prelude.{position}
use Rattle.std.specs.List.{position_or_len}
use Rattle.std.proofs.lemmas.Bool.{eqb-true, eqb-false}
use Rattle.std.proofs.lemmas.Grind.{common_steps}
use Rattle.std.proofs.lemmas.List.Quantifiers.{position-Some}
use Rattle.std.proofs.lemmas.List.Sums.{fails_before_first}
use Rattle.std.proofs.Common.{None, Some}
use Rattle.rules.proofs.Tests.{clash}
use Rattle.typed.specs.Grammar.{lines_of}
use Rattle.text_lines.specs.Lines.{Splits}

abbrev line_feed : ℕ
line_feed = 10

-- bytes up to a line feed, or up to the end, are the first line
lines_front : (bs : List ℕ) (n : ℕ) → 1 ≤ length bs → n ≤ length bs → ((i : ℕ) → i < n → get_or bs i 0 ≡ line_feed → ⊥)
    → (n < length bs → get_or bs n 0 ≡ line_feed) → lines_of bs ≡ take n bs ∷ lines_of (drop (suc n) bs)
unfolding lines_of
lines_front [] n s h f g = clash (omega arith)
lines_front (b ∷ bs) zero s h f g = rw (eq-eqb b line_feed (g (omega arith)), lines_of)
lines_front (b ∷ []) (suc zero) s h f g = rw (ne_eqb b line_feed (f 0 (omega arith)), lines_of)
lines_front (b ∷ []) (suc (suc n)) s h f g = clash (omega arith)
lines_front (b ∷ c ∷ bs) (suc n) s h f g =
    let e : lines_of (c ∷ bs) ≡ take n (c ∷ bs) ∷ lines_of (drop (suc n) (c ∷ bs)) =
    lines_front (c ∷ bs) n (omega arith) (omega arith) (λ i l. f (suc i) (omega arith)) (λ l. g (omega arith)) in
    rw (ne_eqb b line_feed (f 0 (omega arith)), lines_of, e)

-- whether a byte is a line feed
abbrev pub is_feed : ℕ → Bool
is_feed b = eqb b line_feed

module _ (text : List ℕ) where
  pub splits_feed : {end : ℕ} → position is_feed text ≡ Some end → Splits text (take end text) (take (length text - (end + 1)) (drop (end + 1) text))
  splits_feed {end} e =
      let f = position-Some is_feed text end 0 e in
      let l : length (drop (end + 1) text) ≡ length text - (end + 1) = length-drop (end + 1) text in
      let d : take (length text - (end + 1)) (drop (end + 1) text) ≡ drop (end + 1) text = take_all (length text - (end + 1)) (drop (end + 1) text) (omega arith) in
      let s : drop (suc end) text ≡ take (length text - (end + 1)) (drop (end + 1) text) = ap (λ (n : ℕ). drop n text) (sym (add-one end)) ∙ sym d in
      record {
        lines =
            λ some. lines_front text end some (omega (arith, f.0)) (λ i k. eqb-false (get_or text i 0) line_feed (f.2 i k)) (λ k. eqb-true (get_or text end 0) line_feed f.1)
            ∙ ap (λ (bs : List ℕ). take end text ∷ lines_of bs) s;
        shorter = λ some. omega (arith, ap length d, l, f.0);
        none = λ q. clash (omega (arith, ap length q, f.0));
      }

  pub splits_end : position is_feed text ≡ None → Splits text text []
  splits_end e =
      let n : length text ≤ position_or_len is_feed text = grind (arith, common_steps) in
      record {
        lines =
            λ some. lines_front text (length text) some (omega arith)
            (λ i k. eqb-false (get_or text i 0) line_feed (fails_before_first is_feed text i 0 (omega arith))) (λ k. clash (omega arith))
            ∙ ap₂ (λ (l bs : List ℕ). l ∷ lines_of bs) (take_all (length text) text (omega arith)) (drop_of_length-le text {i = suc (length text)} (omega arith));
        shorter = λ some. some;
        none = λ q. (q, refl);
      }
