-- The place of the word that binds loosest, of those passed. Assumes nothing.
use mathlib.Core.Path.{◌≡◌, refl, sym, ap, ◌∙◌}
use mathlib.Core.Bool.{Bool, true, false}
use mathlib.Core.List.{List, [], ◌∷◌}
use Prim.Native.Nat.{ℕ, suc, ◌+◌, ◌≤◌, ◌<◌}
use native.Mathlib.Nat.{not-suc-le-zero}
use native.Mathlib.Numerals.{add-one}
use lib.ListN.{length, get_or, drop, drop_of_length-le}
use lib.Seq.{drop-cons}
use Rattle.typed.specs.Scanning.{Item, outranks, chief_from, chief}

-- where no word stands
abbrev pub nothing : Item
nothing = record { code = 0; depth = 0 }

-- the place of the word that binds loosest, of the one at a place and those from i on
abbrev pub chief_of : List Item → ℕ → ℕ → ℕ
chief_of xs at i = chief_from at (get_or xs at nothing) i (drop i xs)

pub chief_first : (xs : List Item) → 1 ≤ length xs → chief xs ≡ chief_of xs 0 0
unfolding chief_from
chief_first [] h = absurd (not-suc-le-zero h)
chief_first (x ∷ xs) h = go (outranks x x)
  where
    go : (b : Bool) → chief_from 0 x 1 xs ≡ elim b [ true ↦ chief_from 0 x 1 xs | false ↦ chief_from 0 x 1 xs ]
    go true = refl
    go false = refl

module _ (xs : List Item) (at i : ℕ) where
  module _ (h : i < length xs) where
    by_rank : Bool → ℕ
    by_rank b = elim b [
      | true ↦ chief_from i (get_or xs i nothing) (suc i) (drop (suc i) xs)
      | false ↦ chief_from at (get_or xs at nothing) (suc i) (drop (suc i) xs)
    ]

    next : chief_of xs at i ≡ by_rank (outranks (get_or xs i nothing) (get_or xs at nothing))
    unfolding chief_from by_rank
    next = ap (chief_from at (get_or xs at nothing) i) (drop-cons xs i nothing h)

    pub chief_moves : outranks (get_or xs i nothing) (get_or xs at nothing) ≡ true → chief_of xs at i ≡ chief_of xs i (i + 1)
    unfolding by_rank
    chief_moves e = next ∙ ap by_rank e ∙ ap (chief_of xs i) (sym (add-one i))

    pub chief_stays : outranks (get_or xs i nothing) (get_or xs at nothing) ≡ false → chief_of xs at i ≡ chief_of xs at (i + 1)
    unfolding by_rank
    chief_stays e = next ∙ ap by_rank e ∙ ap (chief_of xs at) (sym (add-one i))

  pub chief_last : length xs ≤ i → chief_of xs at i ≡ at
  unfolding chief_from
  chief_last m = rw (drop_of_length-le xs m)
