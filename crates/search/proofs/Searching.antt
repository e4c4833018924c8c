-- What the search call answers and leaves, by the first closing and by how the tries end. Assumes nothing.
use mathlib.Core.Path.{◌≡◌, sym, ap, ◌∙◌, subst}
use mathlib.Core.List.{List}
use Prim.Native.Nat.{ℕ, ◌≤◌, ◌<◌}
use native.Mathlib.Omega.{arith}
use lib.Dec.{T}
use lib.Pow.{pow_pos}
use lib.ListN.{length, get_or, replicate, length-replicate}
use Rattle.rules.specs.Relations.{relations, set_limit}
use Rattle.rules.specs.Descriptions.{most_pairs, most_boards, Sheet, good, read}
use Rattle.rules.specs.Tables.{Table, emptied}
use Rattle.rules.specs.Closed.{Largest}
use Rattle.rules.specs.Closing.{closing}
use Rattle.rules.specs.Search.{End, found, none, choose, places, search, Capped, ended, ran_out, cap}
use Rattle.rules.specs.Calls.{refuse, succeed, answer, searching}
use Rattle.rules.proofs.Members.{zeros}
use Rattle.rules.proofs.Largest.{closing_largest, largest_unique}
use Rattle.rules.proofs.Search.{cap_in}
use Rattle.rules.proofs.Called.{search_good}
use Rattle.passes.specs.Passes.{Filled}
use Rattle.answers.specs.Answers.{answered, outcome}
use Rattle.headers.specs.declared.Header.{Header}
use Rattle.std.specs.Prelude.{Result, Ok, Err}
use Rattle.moves.specs.declared.Emptied.{Emptied}
use Rattle.closing.specs.Closes.{Admitted, closes, ClosesUnder}
use Rattle.closing.proofs.Calling.{admitted_closes}
use Rattle.choosing.specs.declared.Ended.{Ended}
use Rattle.choosing.specs.declared.Ended.TheVariants.{Arranged, Nowhere, RanOut}
use Rattle.choosing.specs.Choices.{PairSets}
use Rattle.choosing.specs.Standings.{Whole}
use Rattle.closing.specs.Closes.{Under}
use Rattle.choosing.specs.Tries.{ends}
use Rattle.search.specs.Rooms.{concluded}
use Rattle.choosing.proofs.Walking.{pairs_most}
use Rattle.choosing.proofs.Resuming.{proceed_none, proceed_on}

module _ (ord ws t : List ℕ) (b : ℕ) (s : Sheet) (means : read ws ≡ good s) (table : Table s.boards t) where
  -- a contradiction means none, with 0 tries
  search_clash : T (emptied (closing s t)) → refuse 8 0 t ≡ searching ord ws t b
  unfolding search
  search_clash e =
      sym
      (search_good t ws s means table ord b
      ∙ ap (λ (x : End). answer t (cap b x)) (proceed_none (λ u. choose (closing s) ord (places s.boards) u) (closing s t) e)
      ∙ ap (answer t) (cap_in b (none 0) (omega arith)))

  -- otherwise what the tries from the closed table on come to
  module _ (first : List ℕ) (largest : Largest s t first) (filled : Filled first) where
    on : search (closing s) ord s.boards t ≡ choose (closing s) ord (places s.boards) first
    unfolding search
    on =
        let e : closing s t ≡ first = largest_unique (closing_largest s t table) largest in
        proceed_on (λ u. choose (closing s) ord (places s.boards) u) (closing s t) (subst Filled (sym e) filled)
        ∙ ap (choose (closing s) ord (places s.boards)) e

    search_ended : (w : List ℕ) (r : Ended) → ends (choose (closing s) ord (places s.boards) first) b w r → concluded t b w r ≡ searching ord ws t b
    search_ended w r e = by r e
      where
        whole : (c : Capped) → cap b (choose (closing s) ord (places s.boards) first) ≡ c → answer t c ≡ searching ord ws t b
        whole c e = sym (search_good t ws s means table ord b ∙ ap (λ (x : End). answer t (cap b x)) on ∙ ap (answer t) e)

        by : (r : Ended) → ends (choose (closing s) ord (places s.boards) first) b w r → concluded t b w r ≡ searching ord ws t b
        by (Arranged n) e = whole (ended (found n w)) e
        by (Nowhere n) e = whole (ended (none n)) e
        by RanOut e = whole (ran_out b) e

-- ---- the same of a table that was admitted, whose copy u was closed to first

pub first_whole : (s : Sheet) (u first : List ℕ) {r : Result ℕ Emptied} {n : ℕ} → r ≡ Ok n → closes s u first r → Whole s first
first_whole s u first e closed =
    let k = subst (closes s u first) e closed in record { table = k.largest.table; closed = k.largest.closed; filled = k.filled }

module _ {h : Header} {ws t u : List ℕ} (admitted : Admitted h ws t) (copy : u ≡ t) (first : List ℕ) (r : Result ℕ Emptied) (closed : ClosesUnder ws u first r) where
  module _ (ord : List ℕ) (b : ℕ) where
    pub search_emptied : {d : Emptied} → r ≡ Err d → outcome (answered 8 0) t ≡ searching ord ws t b
    search_emptied e =
        let d = admitted_closes admitted copy first r closed in
        search_clash ord ws t b d.0 d.1 d.2 (subst (closes d.0 t first) e d.3)

    pub search_struck : {n : ℕ} → r ≡ Ok n → (w : List ℕ) (e : Ended) → Under ws (λ s. ends (choose (closing s) ord (places s.boards) first) b w e)
        → concluded t b w e ≡ searching ord ws t b
    search_struck f w e how =
        let d = admitted_closes admitted copy first r closed in
        let k = subst (closes d.0 t first) f d.3 in
        search_ended ord ws t b d.0 d.1 d.2 first k.largest k.filled w e (how d.0 d.1)

-- ---- the answer, by how the tries ended

module _ (t : List ℕ) (b : ℕ) (w : List ℕ) {e : Ended} where
  pub concludes_arranged : {x : List ℕ} {n : ℕ} → e ≡ Arranged n → x ≡ w → outcome (answered 0 n) x ≡ concluded t b w e
  concludes_arranged {x} {n} f g = ap (succeed n) g ∙ ap (concluded t b w) (sym f)

  pub concludes_nowhere : {n : ℕ} → e ≡ Nowhere n → outcome (answered 8 n) t ≡ concluded t b w e
  concludes_nowhere f = ap (concluded t b w) (sym f)

  pub concludes_ran_out : e ≡ RanOut → outcome (answered 9 b) t ≡ concluded t b w e
  concludes_ran_out f = ap (concluded t b w) (sym f)

-- ---- room for the choices

pub room_sets : {v : ℕ} {r : List ℕ} → v ≤ most_boards → r ≡ replicate most_pairs 0 → PairSets v r
room_sets {v} {r} h e =
    record {
      room = omega (arith, pairs_most v h, ap length e ∙ length-replicate {A = ℕ} most_pairs 0);
      small = λ m. subst (λ (x : ℕ). x < set_limit) (sym (ap (λ (l : List ℕ). get_or l m 0) e ∙ zeros most_pairs m)) (pow_pos relations);
    }
