-- No text of a good description is longer than the longest. Assumes nothing.
use mathlib.Core.Path.{◌≡◌, ap}
use mathlib.Core.List.{List, [], ◌∷◌, ◌++◌, flat_map}
use Prim.Native.Nat.{ℕ, zero, suc, ◌*◌, ◌≤◌, ◌<◌}
use native.Mathlib.Nat.{suc-mul}
use native.Mathlib.Omega.{arith}
use lib.ListN.{length, get_or, drop, length-append}
use Rattle.rules.specs.Expressions.{written}
use Rattle.rules.specs.Descriptions.{most_boards, Sheet, good, read}
use Rattle.rules.proofs.Members.{All}
use Rattle.puts.specs.Decimals.{decimal}
use Rattle.puts.proofs.Decimals.{decimal_two, decimal_five}
use Rattle.typed.specs.Symbols.{Symbol, boards, number, spelling}
use Rattle.typed.specs.Writing.{typing, phrase_of, relation_typing, kind_typing, lines_typing, sheet_typing, spaced, line_text, text_of}
use Rattle.phrases.proofs.Meaning.{phrase_of_written}
use Rattle.parens.proofs.Typing.{typing_length}
use Rattle.returns.proofs.Written.{Typable}
use Rattle.sheet_texts.specs.Sheets.{most_first, most_relation, most_kind, most_text}
use Rattle.sheet_texts.specs.Lines.{IsRelation, IsKind, HasLines, last_text, panel_text, ways_text, closed_text, lines_text}
use Rattle.sheet_texts.proofs.Bytes.{over_append, first_text_lem, relation_text, kind_text}
use Rattle.sheet_texts.proofs.Laid.{Laid, good_laid}

-- ---- a line

-- a board after a blank, and at the end of its line
board_few : (n : ℕ) → n ≤ most_boards → length (spaced (number n)) ≤ 3
unfolding spaced spelling
board_few n h = omega (arith, decimal_two n (omega arith))

last_few : (n : ℕ) → n ≤ most_boards → length (last_text n) ≤ 4
last_few n h = omega (arith, length-append (spaced (number n)) (10 ∷ []), board_few n h)

first_few : (v : ℕ) → v ≤ most_boards → length (line_text (boards ∷ number v ∷ [])) ≤ most_first
first_few v h = rw (first_text_lem v) (omega (arith, last_few v h))

relation_few : (p q : ℕ) (es : List ℕ) → IsRelation p q es → length (line_text (relation_typing p q es)) ≤ most_relation
relation_few p q es r =
    let bytes = flat_map spaced (typing 0 (phrase_of es)) in
    let e : length (written (phrase_of es)) ≡ length es = rw (r.words, phrase_of_written r.phrase) in
    rw (relation_text p q es)
    (omega (
      arith,
      length-append (decimal p) (bytes ++ last_text q),
      length-append bytes (last_text q),
      decimal_two p (omega (arith, r.p_board)),
      typing_length 0 (phrase_of es),
      e,
      r.few,
      last_few q (omega (arith, r.q_board)),
    ))

ways_few : (ys : List ℕ) → ((i : ℕ) → i < length ys → get_or ys i 0 < most_boards) → length (ways_text ys) ≤ 3 * length ys
unfolding flat_map
ways_few [] h = omega arith
ways_few (y ∷ ys) h =
    omega (
      arith,
      length-append (spaced (number y)) (ways_text ys),
      board_few y (omega (arith, h 0 (omega arith))),
      ways_few ys (λ i l. h (suc i) (omega arith)),
    )

panel_few : (p c : ℕ) → p < most_boards → Typable c → length (panel_text p c) ≤ 12
unfolding spaced spelling
panel_few p c h k =
    omega (
      arith,
      length-append (decimal p) (32 ∷ 58 ∷ (spaced (number c) ++ (32 ∷ 40 ∷ []))),
      length-append (spaced (number c)) (32 ∷ 40 ∷ []),
      decimal_two p (omega arith),
      decimal_five c (omega arith),
    )

kind_few : (p c : ℕ) (ys : List ℕ) → IsKind p c ys → length (line_text (kind_typing p c ys)) ≤ most_kind
kind_few p c ys k =
    rw (kind_text p c ys)
    (omega (
      arith,
      length-append (panel_text p c) (ways_text ys ++ closed_text),
      length-append (ways_text ys) closed_text,
      panel_few p c k.p_board k.code,
      ways_few ys k.boards,
      k.few,
    ))

-- ---- some lines

lines_few : (P : ℕ → ℕ → List ℕ → Type 0) (line : ℕ → ℕ → List ℕ → List Symbol) (k : ℕ)
    → ((p q : ℕ) (es : List ℕ) → P p q es → length (line_text (line p q es)) ≤ k) → (n : ℕ) (ws : List ℕ) → HasLines P n ws
    → length (lines_text line n ws) ≤ n * k
unfolding HasLines lines_typing flat_map
lines_few P line k few zero ws l = omega arith
lines_few P line k few (suc n) ws (l, ls) =
    simp length-append (omega (arith, suc-mul n k, few _ _ _ l.such, lines_few P line k few n _ ls))

-- ---- a text

-- a text is the first line, the relation lines and the kind lines
pub sheet_text : (ws : List ℕ)
    → text_of ws
    ≡ line_text (boards ∷ number (get_or ws 0 0) ∷ [])
    ++ (lines_text relation_typing (get_or ws 1 0) (drop 6 ws) ++ lines_text kind_typing (get_or ws 2 0) (drop (get_or ws 4 0) ws))
unfolding text_of sheet_typing flat_map
sheet_text ws =
    ap (λ (bs : List ℕ). line_text (boards ∷ number (get_or ws 0 0) ∷ []) ++ bs)
    (over_append line_text (lines_typing relation_typing (get_or ws 1 0) (drop 6 ws)) (lines_typing kind_typing (get_or ws 2 0) (drop (get_or ws 4 0) ws)))

pub laid_few : (ws : List ℕ) → Laid ws → length (text_of ws) ≤ most_text
laid_few ws l =
    let first = line_text (boards ∷ number (get_or ws 0 0) ∷ []) in
    let relations = lines_text relation_typing (get_or ws 1 0) (drop 6 ws) in
    let kinds = lines_text kind_typing (get_or ws 2 0) (drop (get_or ws 4 0) ws) in
    rw (sheet_text ws)
    (omega (
      arith,
      length-append first (relations ++ kinds),
      length-append relations kinds,
      first_few (get_or ws 0 0) l.numbers.boards,
      lines_few IsRelation relation_typing most_relation relation_few (get_or ws 1 0) (drop 6 ws) l.relations,
      lines_few IsKind kind_typing most_kind kind_few (get_or ws 2 0) (drop (get_or ws 4 0) ws) l.kinds,
      l.numbers.lines,
      l.numbers.kinds,
    ))

-- the text of a good description is no longer than the longest
pub text_few : (ws : List ℕ) (s : Sheet) → All Typable ws → read ws ≡ good s → length (text_of ws) ≤ most_text
text_few ws s h e = laid_few ws (good_laid ws s h e)
