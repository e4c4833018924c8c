-- A page: the bytes that are printed, and zeros up to its size. Assumes nothing.
use Rattle.std.specs.Prelude.{List, ◌++◌, ℕ, ◌-◌, length, replicate}
use Rattle.listing.specs.declared.Page.{Page}

abbrev pub page_bytes : ℕ
page_bytes = 1024

-- the page that has these bytes
abbrev pub page : List ℕ → Page
page xs = record { text = xs ++ replicate (page_bytes - length xs) 0; used = length xs }
