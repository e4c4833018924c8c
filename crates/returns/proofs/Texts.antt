-- The lines of a text that is written, and that each spells its symbols. Assumes nothing.
use mathlib.Core.Path.{◌≡◌, refl, ap}
use mathlib.Core.Bool.{Bool, false, not}
use mathlib.Core.List.Memᴰ
use mathlib.Core.List.{List, [], ◌∷◌, ◌++◌, map, flat_map, append_assoc}
use Prim.Native.Nat.{ℕ}
use native.Mathlib.Omega.{arith}
use borrow.Author.Tests.{not-true}
use lib.Dec.{T, eqb, ltb→lt}
use lib.ListN.{get_or}
use Rattle.puts.specs.Decimals.{decimal}
use Rattle.rules.specs.Relations.{each_of}
use Rattle.rules.proofs.Tests.{T_true, differ_T, each_at}
use Rattle.rules.proofs.Members.{All, all_none, all_append, all_over, each_of_out, each_of_places}
use Rattle.typed.specs.Symbols.{Symbol, boards, colon, left_paren, right_paren, unknown, word, number, boards_word, words, blank, spelling, parts, known, ended, Spelled, nothing, space, symbol}
use Rattle.typed.specs.Grammar.{lines_of}
use Rattle.typed.specs.Writing.{spaced, line_text}
use Rattle.spelled.proofs.Numbers.{decimal_digit}
use Rattle.spelled.proofs.Words.{each_first, each_rest}
use Rattle.spelled.proofs.Symbols.{ended_apart}

-- ---- the bytes of a line

-- the bytes of a line, without the line feed
pub line_bytes : List Symbol → List ℕ
line_bytes [] = []
line_bytes (s ∷ ss) = spelling s ++ flat_map spaced ss

line_fed : (ss : List Symbol) → line_text ss ≡ line_bytes ss ++ (10 ∷ [])
unfolding line_bytes line_text
line_fed [] = refl
line_fed (s ∷ ss) = rw append_assoc

-- where more symbols come, or none, a symbol stands apart from them
spaced_ended : (ss : List Symbol) → T (ended (flat_map spaced ss))
unfolding flat_map spaced parts
spaced_ended [] = tt
spaced_ended (s ∷ ss) = tt

spaced_spelled : (ss : List Symbol) → T (each_of known ss) → Spelled (flat_map spaced ss) ss
unfolding flat_map spaced
spaced_spelled [] t = nothing
spaced_spelled (s ∷ ss) t =
    space (symbol s (each_first known s ss t) (ended_apart s (flat_map spaced ss) (spaced_ended ss)) (spaced_spelled ss (each_rest known s ss t)))

-- a line of known symbols spells them
pub line_spelled : (ss : List Symbol) → T (each_of known ss) → Spelled (line_bytes ss) ss
unfolding line_bytes
line_spelled [] t = nothing
line_spelled (s ∷ ss) t =
    symbol s (each_first known s ss t) (ended_apart s (flat_map spaced ss) (spaced_ended ss)) (spaced_spelled ss (each_rest known s ss t))

-- ---- the lines of a text

-- the byte is no line feed
goes_on : ℕ → Bool
goes_on b = not (eqb b 10)

spelling_goes_on : (s : Symbol) → T (known s) → All (λ b. T (goes_on b)) (spelling s)
unfolding goes_on spelling known words
spelling_goes_on boards t = each_of_out goes_on boards_word tt
spelling_goes_on colon t = each_of_out goes_on (58 ∷ []) tt
spelling_goes_on left_paren t = each_of_out goes_on (40 ∷ []) tt
spelling_goes_on right_paren t = each_of_out goes_on (41 ∷ []) tt
spelling_goes_on unknown t = absurd t
spelling_goes_on (word k) t = each_of_out goes_on (get_or words k []) (each_at 8 (λ k. each_of goes_on (get_or words k [])) tt k (ltb→lt k 8 t))
spelling_goes_on (number n) t =
    each_of_out goes_on (decimal n)
    (each_of_places goes_on (decimal n) (λ i h. differ_T (λ (e : get_or (decimal n) i 0 ≡ 10). let d = decimal_digit n i h in omega arith)))

-- known symbols have no line feed
line_goes_on : (ss : List Symbol) → T (each_of known ss) → All (λ b. T (goes_on b)) (line_bytes ss)
unfolding line_bytes spaced goes_on
line_goes_on [] t = all_none (λ b. T (goes_on b))
line_goes_on (s ∷ ss) t =
    all_append (λ b. T (goes_on b)) (spelling s) (spelling_goes_on s (each_first known s ss t))
    (all_over (λ b. T (goes_on b)) spaced ss (λ r m.
    all_append (λ b. T (goes_on b)) (blank ∷ []) (each_of_out goes_on (blank ∷ []) tt)
    (spelling_goes_on r (each_of_out known ss (each_rest known s ss t) r m))))

-- bytes up to a line feed are a line
lines_of_fed : (bs rest : List ℕ) → All (λ b. T (goes_on b)) bs → lines_of (bs ++ (10 ∷ rest)) ≡ bs ∷ lines_of rest
unfolding lines_of goes_on
lines_of_fed [] rest h = refl
lines_of_fed (b ∷ bs) rest h =
    let e : eqb b 10 ≡ false = not-true (eqb b 10) (T_true (h b (Memᴰ.head refl))) in
    rw (e, lines_of, lines_of_fed bs rest (λ c m. h c (Memᴰ.tail m)))

-- the lines of a text are those that were written
pub text_lines : (lines : List (List Symbol)) → All (λ ss. T (each_of known ss)) lines → lines_of (flat_map line_text lines) ≡ map line_bytes lines
unfolding lines_of flat_map
text_lines [] h = refl
text_lines (ss ∷ lines) h =
    rw (line_fed ss, append_assoc, lines_of_fed (line_bytes ss) (flat_map line_text lines) (line_goes_on ss (h ss (Memᴰ.head refl))))
    (ap (λ (ls : List (List ℕ)). line_bytes ss ∷ ls) (text_lines lines (λ rs m. h rs (Memᴰ.tail m))))
