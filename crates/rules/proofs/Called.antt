-- What each call comes to where it is refused before it begins, and where description and table are good. Assumes nothing.
use mathlib.Core.Path.{◌≡◌, ap}
use mathlib.Core.Bool.{Bool, true, false}
use mathlib.Core.List.{List}
use Prim.Native.Nat.{ℕ, ◌*◌}
use lib.ListN.{length}
use Rattle.rules.specs.Descriptions.{Sheet, Reading, good, refused, read}
use Rattle.rules.specs.Tables.{Table, filled}
use Rattle.rules.specs.Closed.{strikes}
use Rattle.rules.specs.Closing.{closing}
use Rattle.rules.specs.Search.{search, cap}
use Rattle.rules.specs.Calls.{Outcome, refuse, succeed, has_cells, well_formed, admitted, given, close_into, opening, close, answer, searching, arranged, check}
use Rattle.rules.proofs.Calls.{table_well_formed, cells_has_cells, given_good}

module _ (lent : List ℕ) where
  -- closing into the lent table, by whether the largest closed table has an empty cell
  abbrev pub by_cells : Sheet → List ℕ → Bool → Outcome (List ℕ)
  by_cells s t b = elim b [ true ↦ refuse 7 0 lent | false ↦ succeed (strikes t (closing s t)) (closing s t) ]

  -- the check, by whether the table is an arrangement
  abbrev pub by_test : Bool → Outcome (List ℕ)
  by_test b = elim b [ true ↦ succeed 0 lent | false ↦ refuse 10 0 lent ]

module _ (t : List ℕ) where
  -- each call, under a good description
  abbrev opens : Sheet → Outcome (List ℕ)
  opens s = close_into t s (filled s.boards)

  abbrev closes : Sheet → Outcome (List ℕ)
  closes s = close_into t s t

  abbrev searches : List ℕ → ℕ → Sheet → Outcome (List ℕ)
  searches ord b s = answer t (cap b (search (closing s) ord s.boards t))

  abbrev checks : Sheet → Outcome (List ℕ)
  checks s = by_test t (arranged s t)

  module _ (ws : List ℕ) where
    given_told : (asks : ℕ → List ℕ → Bool) {n k : ℕ} (f : Sheet → Outcome (List ℕ)) → admitted asks ws t ≡ refused n k
        → given (admitted asks ws t) t f ≡ refuse n k t
    given_told asks f e = ap (λ (r : Reading Sheet). given r t f) e

    pub opening_refused : {n k : ℕ} → admitted has_cells ws t ≡ refused n k → opening ws t ≡ refuse n k t
    unfolding opening
    opening_refused e = given_told has_cells opens e

    pub close_refused : {n k : ℕ} → admitted well_formed ws t ≡ refused n k → close ws t ≡ refuse n k t
    unfolding close
    close_refused e = given_told well_formed closes e

    pub search_refused : (ord : List ℕ) (b : ℕ) {n k : ℕ} → admitted well_formed ws t ≡ refused n k → searching ord ws t b ≡ refuse n k t
    unfolding searching
    search_refused ord b e = given_told well_formed (searches ord b) e

    pub check_refused : {n k : ℕ} → admitted well_formed ws t ≡ refused n k → check ws t ≡ refuse n k t
    unfolding check
    check_refused e = given_told well_formed checks e

    module _ (s : Sheet) (means : read ws ≡ good s) where
      pub opening_good : length t ≡ s.boards * s.boards → opening ws t ≡ close_into t s (filled s.boards)
      unfolding opening
      opening_good cells = given_good has_cells ws t t opens s means (cells_has_cells s.boards t cells)

      module _ (table : Table s.boards t) where
        pub close_good : close ws t ≡ close_into t s t
        unfolding close
        close_good = given_good well_formed ws t t closes s means (table_well_formed s.boards t table)

        pub search_good : (ord : List ℕ) (b : ℕ) → searching ord ws t b ≡ answer t (cap b (search (closing s) ord s.boards t))
        unfolding searching
        search_good ord b = given_good well_formed ws t t (searches ord b) s means (table_well_formed s.boards t table)

        pub check_good : check ws t ≡ by_test t (arranged s t)
        unfolding check
        check_good = given_good well_formed ws t t checks s means (table_well_formed s.boards t table)
