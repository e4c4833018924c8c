-- A line spells the symbols that are found in it, where all of them are known, and spells no others. Assumes nothing.
use mathlib.Core.Path.{◌≡◌, refl, sym, ap, ◌∙◌}
use mathlib.Core.List.{List, [], ◌∷◌, ◌++◌}
use Prim.Native.Nat.{ℕ, zero, suc, ◌≤◌}
use native.Mathlib.Nat.{not-suc-le-zero, le_refl}
use native.Mathlib.Omega.{arith}
use lib.Dec.{T}
use lib.ListN.{length}
use Rattle.rules.specs.Relations.{each_of}
use Rattle.typed.specs.Symbols.{Symbol, spelling, blank, known, Spelled, nothing, space, symbol, Front, blanks, front, front_of, symbols_in, symbols}
use Rattle.spelled.proofs.Words.{each_first, each_rest, each_both}
use Rattle.spelled.proofs.Symbols.{Begins, front_of_begins, front_of_spelling, begins_shorter, after, symbols_step}

-- a line spells only known symbols
pub spelled_known : {bs : List ℕ} {ss : List Symbol} → Spelled bs ss → T (each_of known ss)
spelled_known nothing = tt
spelled_known (space d) = spelled_known d
spelled_known (symbol {ss = ss} s t u d) = each_both known s ss t (spelled_known d)

-- the symbols that a line spells are those that are found in it
pub spelled_symbols : {bs : List ℕ} {ss : List Symbol} → Spelled bs ss → symbols bs ≡ ss
unfolding symbols symbols_in front_of
spelled_symbols nothing = refl
spelled_symbols (space {bs = bs} d) = symbols_step (blank ∷ bs) ∙ sym (symbols_step bs) ∙ spelled_symbols d
spelled_symbols (symbol {bs = bs} s t u d) =
    symbols_step (spelling s ++ bs) ∙ ap after (front_of_spelling s bs t u) ∙ ap (λ (ss : List Symbol). s ∷ ss) (spelled_symbols d)

-- a line that begins with a symbol spells it, and what the bytes left spell
begins_none : {bs : List ℕ} → Begins bs blanks → Spelled bs []
begins_none Begins.nothing = nothing
begins_none (Begins.space b) = space (begins_none b)

begins_symbol : {bs rest : List ℕ} {s : Symbol} {ss : List Symbol} → Begins bs (front s rest) → T (known s) → Spelled rest ss → Spelled bs (s ∷ ss)
unfolding known
begins_symbol (Begins.space b) t d = space (begins_symbol b t d)
begins_symbol (Begins.spelt s rest t u) k d = symbol s t u d
begins_symbol (Begins.strange r rest h) k d = absurd k

found_spelled : (n : ℕ) (bs : List ℕ) → length bs ≤ n → T (each_of known (symbols_in n bs)) → Spelled bs (symbols_in n bs)
unfolding symbols_in
found_spelled zero [] h t = nothing
found_spelled zero (b ∷ bs) h t = absurd (not-suc-le-zero h)
found_spelled (suc n) bs h t = go (front_of bs) (front_of_begins bs) (found_spelled n) t
  where
    go : (f : Front) → Begins bs f → ((rest : List ℕ) → length rest ≤ n → T (each_of known (symbols_in n rest)) → Spelled rest (symbols_in n rest))
        → T (each_of known (elim f [ blanks ↦ [] | front s rest ↦ s ∷ symbols_in n rest ]))
        → Spelled bs (elim f [ blanks ↦ [] | front s rest ↦ s ∷ symbols_in n rest ])
    go blanks b i t = begins_none b
    go (front s rest) b i t =
        let ss = symbols_in n rest in
        begins_symbol b (each_first known s ss t) (i rest (omega (arith, begins_shorter b)) (each_rest known s ss t))

-- a line spells the symbols that are found in it, if all of them are known
pub symbols_spelled : (bs : List ℕ) → T (each_of known (symbols bs)) → Spelled bs (symbols bs)
unfolding symbols
symbols_spelled bs t = found_spelled (length bs) bs (le_refl (length bs)) t
