-- What a typed sheet makes is what it writes: a text writes a description exactly if it makes it, and writes one at most. Assumes nothing.
use mathlib.Core.Path.{◌≡◌, refl, subst}
use mathlib.Core.List.{List}
use Prim.Native.Nat.{ℕ, suc}
use Rattle.typed.specs.Grammar.{LinesTyped, none, relation_next, kind_next, SheetTyped}
use Rattle.typed.specs.Sheets.{lines, lines_from, made, typed}
use Rattle.meanings.proofs.Outcomes.{relation_line_lem, kind_line_lem, first_line, Follow, all, follow, Outcome, writes, outcome}

-- ---- the lines after the first

-- well-formed lines make their words
pub lines_made : {ls rs ks : List (List ℕ)} → LinesTyped ls rs ks → (n : ℕ) → lines_from n ls ≡ lines rs ks
unfolding lines_from
lines_made none n = refl
lines_made (relation_next s r d) n = rw (relation_line_lem s r, lines_made d (suc n))
lines_made (kind_next s k d) n = rw (kind_line_lem s k, lines_made d (suc n))

-- and only they do
pub made_lines : (n : ℕ) (ls rs ks : List (List ℕ)) → lines_from n ls ≡ lines rs ks → LinesTyped ls rs ks
made_lines n ls rs ks e = go (subst (Follow n ls) e (follow n ls))
  where
    go : {rs ks : List (List ℕ)} → Follow n ls (lines rs ks) → LinesTyped ls rs ks
    go (all d) = d

-- ---- the text

-- a text makes the description that it writes
pub typed_made : {text ws : List ℕ} → SheetTyped text ws → typed text ≡ made ws
unfolding typed
typed_made s = rw (s.lines, first_line s.opens, lines_made s.follow 2, s.makes)

-- and writes the description that it makes
pub made_typed : (text ws : List ℕ) → typed text ≡ made ws → SheetTyped text ws
made_typed text ws e = go (subst (Outcome text) e (outcome text))
  where
    go : {ws : List ℕ} → Outcome text (made ws) → SheetTyped text ws
    go (writes s) = s

-- so it writes one at most
pub one_meaning : {text ws us : List ℕ} → SheetTyped text ws → SheetTyped text us → ws ≡ us
one_meaning s t = cc (typed_made s, typed_made t)
