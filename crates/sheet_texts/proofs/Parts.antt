-- The parts of a good description and of its text, as code lends and puts them. Assumes nothing.
use mathlib.Core.Path.{◌≡◌}
use mathlib.Core.List.{List, [], ◌∷◌, ◌++◌}
use Prim.Native.Nat.{ℕ, ◌≤◌}
use native.Mathlib.Omega.{arith}
use mir.Syntax.{w16}
use mir.Val.{Fits}
use lib.ListN.{length, get_or}
use Rattle.rules.proofs.Parts.{tail}
use Rattle.puts.specs.declared.Writer.{Writer}
use Rattle.puts.specs.Texts.{HasRoom, Put}
use Rattle.typed.specs.Symbols.{boards, number}
use Rattle.typed.specs.Writing.{relation_typing, kind_typing, line_text, text_of}
use Rattle.sheet_texts.specs.Sheets.{Good, most_text, PutsSheet}
use Rattle.sheet_texts.specs.Lines.{IsRelation, IsKind, HasLines, lines_text}
use Rattle.sheet_texts.proofs.Going.{lent}
use Rattle.sheet_texts.proofs.Laid.{Laid, words_typable, good_laid}
use Rattle.sheet_texts.proofs.Few.{sheet_text, laid_few}

-- the first line; the r relation lines; the k kind lines, from the word f on
abbrev pub first_text : ℕ → List ℕ
first_text v = line_text (boards ∷ number v ∷ [])

module _ (ws : List ℕ) where
  abbrev pub relations_text : ℕ → List ℕ
  relations_text r = lines_text relation_typing r (lent 6 ws)

  abbrev pub kinds_text : ℕ → ℕ → List ℕ
  kinds_text k f = lines_text kind_typing k (lent f ws)

  pub record Parts (v r k f : ℕ) : Type 0 where
    pub within : f ≤ length ws
    pub relations : HasLines IsRelation r (lent 6 ws)
    pub kinds : HasLines IsKind k (lent f ws)
    pub text : text_of ws ≡ first_text v ++ (relations_text r ++ kinds_text k f)

  module _ (l : Laid ws) where
    -- they are so where v, r, k and f are the words of the header
    pub laid_parts : {v r k f : ℕ} → v ≡ get_or ws 0 0 → r ≡ get_or ws 1 0 → k ≡ get_or ws 2 0 → f ≡ get_or ws 4 0 → Parts v r k f
    laid_parts {v} {r} {k} {f} a b c d =
        record {
          within = omega (arith, l.within);
          relations = rw (tail 6 ws, b) l.relations;
          kinds = rw (tail f ws, c, d) l.kinds;
          text = rw (tail 6 ws, tail f ws, a, b, c, d) (sheet_text ws);
        }

    -- there is room for the text
    pub laid_room : (w : Writer) → w.at ≡ 0 → most_text ≤ length w.text.now → HasRoom w (text_of ws)
    laid_room w e h = record { room = omega (arith, e, h, laid_few ws l) }

    -- a writer that begins at the front of t, and goes on as v after the text, puts it there
    pub laid_put : (w v : Writer) {t u : List ℕ} {n : ℕ} → w.text.now ≡ t → w.at ≡ 0 → Put w (text_of ws) v → u ≡ v.text.now → n ≡ v.at → PutsSheet ws t u n
    laid_put w v d e p kept told = record { text = rw (kept, p.text, d, e); length_told = omega (arith, told, p.next, e); few = laid_few ws l }

-- the words of a good description, of 16 bits each, are laid out so
pub good_words_laid : (ws : List ℕ) → Good ws → ((i : ℕ) → Fits w16 (get_or ws i 0)) → Laid ws
good_words_laid ws good small = good_laid ws good.sheet (words_typable ws (λ i. omega (arith, small i))) good.reads
