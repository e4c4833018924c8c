-- The bytes of the ways of a kind line, one after the other. Assumes nothing.
use mathlib.Core.Path.{◌≡◌, ap, ◌∙◌}
use mathlib.Core.List.{List, [], ◌∷◌, ◌++◌, map, map-append, flat_map, append-nil}
use Prim.Native.Nat.{ℕ, suc, ◌+◌, ◌<◌}
use native.Mathlib.Numerals.{add-one}
use lib.ListN.{length, get_or, take, drop}
use lib.Seq.{take-suc, split_at}
use Rattle.typed.specs.Symbols.{number}
use Rattle.typed.specs.Writing.{spaced}
use Rattle.sheet_texts.specs.Lines.{ways_text}
use Rattle.sheet_texts.proofs.Bytes.{over_append}

ways_append : (xs ys : List ℕ) → ways_text (xs ++ ys) ≡ ways_text xs ++ ways_text ys
ways_append xs ys = ap (flat_map spaced) (map-append number xs ys) ∙ over_append spaced (map number xs) (map number ys)

module _ (ys : List ℕ) (i : ℕ) (h : i < length ys) where
  -- the bytes of a way, of those before it and of those after it
  pub ways_split : ways_text ys ≡ ways_text (take i ys) ++ (spaced (number (get_or ys i 0)) ++ ways_text (drop (suc i) ys))
  unfolding flat_map
  ways_split = ap ways_text (split_at ys i 0 h) ∙ ways_append (take i ys) (get_or ys i 0 ∷ drop (suc i) ys)

  -- of a way and those before it
  pub ways_more : ways_text (take (i + 1) ys) ≡ ways_text (take i ys) ++ spaced (number (get_or ys i 0))
  unfolding flat_map
  ways_more = rw (add-one i, take-suc ys i 0 h, ways_append (take i ys) (get_or ys i 0 ∷ []), append-nil (spaced (number (get_or ys i 0))))
