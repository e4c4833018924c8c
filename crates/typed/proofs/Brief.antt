-- The words of a line where they may be too many, by whether they are. Assumes nothing.
use mathlib.Core.Path.{◌≡◌}
use mathlib.Core.List.{List, [], ◌∷◌}
use Prim.Native.Nat.{ℕ, suc, ◌≤◌, ◌<◌}
use borrow.Author.Tests.{le-leb, lt-leb}
use lib.ListN.{get_or}
use Rattle.typed.specs.Brief.{brief}

module _ (m : ℕ) (w : List ℕ) where
  -- not too many: they stay
  pub brief_whole : get_or w 2 0 ≤ m → brief m w ≡ w
  unfolding brief
  brief_whole l = rw (brief, le-leb (get_or w 2 0) m l)

  -- too many: the first two, and that they are
  pub brief_cut : m < get_or w 2 0 → brief m w ≡ get_or w 0 0 ∷ get_or w 1 0 ∷ suc m ∷ []
  unfolding brief
  brief_cut l = rw (brief, lt-leb (get_or w 2 0) m l)
