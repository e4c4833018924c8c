-- What listing the ways of a kind line answers. Assumes nothing.
use Rattle.std.specs.Prelude.{◌≡◌, Option, None, IsSomeAnd}
use Rattle.typed.specs.Sheets.{Ways, no_ways, ways}
use Rattle.kind_texts.specs.declared.Ways.{Ways as Kept}
use Rattle.kind_texts.specs.Listing.{Holds}

-- what the ways came to
abbrev pub Came : Ways → Option Kept → Type 0
Came no_ways r = r ≡ None
Came (ways ys) r = IsSomeAnd r (λ w. Holds ys w.kept w.count)
