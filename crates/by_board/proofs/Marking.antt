-- The places in which a board is a way, told beside the lines that have it there. Assumes nothing.
use mathlib.Core.Path.{◌≡◌, refl, sym, ap, ◌∙◌, subst}
use mathlib.Core.Bool.{Bool, true, false, not, ◌||◌, or-true, or-false}
use mathlib.Core.Logic.{⊎_elim, ◌⊎◌}
use mathlib.Core.List.{List}
use Prim.Native.Nat.{ℕ, ◌+◌, ◌*◌, ◌^◌, ◌≤◌, ◌<◌}
use native.Mathlib.Omega.{arith}
use borrow.Author.Tests.{ne_eqb, eqb-true, eqb-false}
use lib.Dec.{T, eqb, eqb_refl}
use lib.ListN.{length, get_or, set, length-set}
use lib.Seq.{get_or-set_same, get_or-set_other}
use Rattle.rules.specs.Relations.{has}
use Rattle.rules.specs.Descriptions.{most_boards, most_ways}
use Rattle.rules.proofs.Tests.{or_T_right}
use Rattle.bits.specs.Sets.{added, added_at}
use Rattle.bits.proofs.Laws.{has_zero, has_added, added_small}
use Rattle.by_board.specs.Found.{spots_at, places_at, starts_at, index_words, Indexed}

-- ---- a word that is written

-- what holds of a place still holds once another is written
pub put_other : (P : ℕ → Type 0) (xs : List ℕ) (k x j : ℕ) → (j ≡ k → ⊥) → P (get_or xs j 0) → P (get_or (set xs k x) j 0)
put_other P xs k x j d p = subst P (sym (get_or-set_other xs k j x 0 d)) p

-- and of each place, by whether it is the one that is written
pub put_cases : (P : ℕ → Type 0) (xs : List ℕ) (k x j : ℕ) → k < length xs → (j ≡ k → P x) → ((j ≡ k → ⊥) → P (get_or xs j 0)) → P (get_or (set xs k x) j 0)
put_cases P xs k x j h f g = go (eqb j k) refl
  where
    go : (b : Bool) → eqb j k ≡ b → P (get_or (set xs k x) j 0)
    go true e =
        let s : j ≡ k = eqb-true j k e in
        subst P (sym (ap (λ (i : ℕ). get_or (set xs k x) i 0) s ∙ get_or-set_same xs k x 0 h)) (f s)
    go false e = let d = eqb-false j k e in put_other P xs k x j d (g d)

-- ---- the places of a board

-- the words tell, for each board, in which places some line has it
pub record Placed (xs : List ℕ) : Type 0 where
  pub few : (b : ℕ) → b < most_boards → get_or xs (places_at + b) 0 < 2 ^ most_ways
  pub places : (b i : ℕ) → b < most_boards → i < most_ways → has (get_or xs (places_at + b) 0) i ≡ not (eqb (get_or xs (spots_at + most_ways * b + i) 0) 0)

pub indexed_placed : {count : ℕ} {ws xs : List ℕ} → Indexed count ws xs → Placed xs
indexed_placed t = record { few = t.few; places = t.places }

-- no word has anything
pub placed_none : {xs : List ℕ} → ((k : ℕ) → get_or xs k 0 ≡ 0) → Placed xs
placed_none {xs} zero =
    record {
      few = λ b h. rw (zero (places_at + b)) (omega arith);
      places = λ b i h l. rw (zero (places_at + b), zero (spots_at + most_ways * b + i)) (has_zero i);
    }

-- a set with one number more is not empty
some_added : (x n : ℕ) → added x n ≡ 0 → ⊥
some_added x n e =
    subst T (sym (has_added x n n) ∙ ap (λ (y : ℕ). has y n) e ∙ has_zero n) (or_T_right (has x n) (eqb n n) (eqb_refl n))

module _ {xs : List ℕ} (p : Placed xs) where
  -- a word of another kind is written
  pub placed_apart : (k x : ℕ) → (k < spots_at) ⊎ (starts_at ≤ k) → Placed (set xs k x)
  placed_apart k x o =
      record {
        few = λ b h. rw (get_or-set_other xs k (places_at + b) x 0 (away b h)) (p.few b h);
        places = λ b i h l.
            rw (get_or-set_other xs k (places_at + b) x 0 (away b h), get_or-set_other xs k (spots_at + most_ways * b + i) x 0 (off b i h l)) (p.places b i h l);
      }
    where
      away : (b : ℕ) → b < most_boards → places_at + b ≡ k → ⊥
      away b h e = ⊎_elim (λ l. let z : ⊥ = omega arith in z) (λ l. let z : ⊥ = omega arith in z) o

      off : (b i : ℕ) → b < most_boards → i < most_ways → spots_at + most_ways * b + i ≡ k → ⊥
      off b i h l e = ⊎_elim (λ m. let z : ⊥ = omega arith in z) (λ m. let z : ⊥ = omega arith in z) o

  -- a line, n, and the place are told for a board
  pub placed_way : (n y i : ℕ) → y < most_boards → i < most_ways → length xs ≡ index_words
      → Placed (added_at (added_at xs (spots_at + most_ways * y + i) n) (places_at + y) i)
  placed_way n y i l m w =
      record {
        few = λ b h.
            put_cases (λ (z : ℕ). z < 2 ^ most_ways) zs (places_at + y) more (places_at + b) room
            (λ e. subst (λ (z : ℕ). added z i < 2 ^ most_ways) (sym same) (added_small most_ways (get_or xs (places_at + y) 0) i (p.few y l) m))
            (λ d. rw (unspotted b h) (p.few b h));
        places = λ b j h o. each b j h o (eqb b y) (eqb i j) refl refl;
      }
    where
      k : ℕ
      k = spots_at + most_ways * y + i

      zs : List ℕ
      zs = added_at xs k n

      more : ℕ
      more = added (get_or zs (places_at + y) 0) i

      room : places_at + y < length zs
      room = rw (length-set xs k (added (get_or xs k 0) n)) (omega arith)

      -- the sets of places are not yet written
      unspotted : (b : ℕ) → b < most_boards → get_or zs (places_at + b) 0 ≡ get_or xs (places_at + b) 0
      unspotted b h = get_or-set_other xs k (places_at + b) (added (get_or xs k 0) n) 0 (λ e. omega arith)

      same : get_or zs (places_at + y) 0 ≡ get_or xs (places_at + y) 0
      same = unspotted y l

      -- nor are the sets of lines of another board or place
      unplaced : (b j : ℕ) → b < most_boards → j < most_ways → get_or (set zs (places_at + y) more) (spots_at + most_ways * b + j) 0 ≡ get_or zs (spots_at + most_ways * b + j) 0
      unplaced b j h o = get_or-set_other zs (places_at + y) (spots_at + most_ways * b + j) more 0 (λ e. omega arith)

      other : (b j : ℕ) → b < most_boards → j < most_ways → ((b ≡ y) × (i ≡ j) → ⊥)
          → get_or (set zs (places_at + y) more) (spots_at + most_ways * b + j) 0 ≡ get_or xs (spots_at + most_ways * b + j) 0
      other b j h o d =
          unplaced b j h o ∙ get_or-set_other xs k (spots_at + most_ways * b + j) (added (get_or xs k 0) n) 0 (λ e. d (omega arith, omega arith))

      -- the board's own set of places
      here : (b j : ℕ) → b ≡ y → has (get_or (set zs (places_at + y) more) (places_at + b) 0) j ≡ (has (get_or xs (places_at + b) 0) j || eqb i j)
      here b j s =
          ap (λ (z : ℕ). has z j)
          (ap (λ (z : ℕ). get_or (set zs (places_at + y) more) (places_at + z) 0) s ∙ get_or-set_same zs (places_at + y) more 0 room ∙ ap (λ (z : ℕ). added z i) same
          ∙ ap (λ (z : ℕ). added (get_or xs (places_at + z) 0) i) (sym s))
          ∙ has_added (get_or xs (places_at + b) 0) i j

      each : (b j : ℕ) → b < most_boards → j < most_ways → (c d : Bool) → eqb b y ≡ c → eqb i j ≡ d
          → has (get_or (set zs (places_at + y) more) (places_at + b) 0) j ≡ not (eqb (get_or (set zs (places_at + y) more) (spots_at + most_ways * b + j) 0) 0)
      each b j h o true true e f =
          let s : b ≡ y = eqb-true b y e in
          let t : spots_at + most_ways * b + j ≡ k = let u : i ≡ j = eqb-true i j f in omega arith in
          here b j s ∙ ap (λ (c : Bool). has (get_or xs (places_at + b) 0) j || c) f ∙ or-true (has (get_or xs (places_at + b) 0) j)
          ∙ sym (ap (λ (z : ℕ). not (eqb z 0)) (unplaced b j h o ∙ ap (λ (z : ℕ). get_or zs z 0) t ∙ get_or-set_same xs k (added (get_or xs k 0) n) 0 (omega arith))
          ∙ ap not (ne_eqb (added (get_or xs k 0) n) 0 (some_added (get_or xs k 0) n)))
      each b j h o true false e f =
          here b j (eqb-true b y e) ∙ ap (λ (c : Bool). has (get_or xs (places_at + b) 0) j || c) f ∙ or-false (has (get_or xs (places_at + b) 0) j)
          ∙ p.places b j h o ∙ sym (ap (λ (z : ℕ). not (eqb z 0)) (other b j h o (λ d. eqb-false i j f d.1)))
      each b j h o false d e f =
          let away : b ≡ y → ⊥ = eqb-false b y e in
          ap (λ (z : ℕ). has z j) (get_or-set_other zs (places_at + y) (places_at + b) more 0 (λ g. away (omega arith)) ∙ unspotted b h)
          ∙ p.places b j h o ∙ sym (ap (λ (z : ℕ). not (eqb z 0)) (other b j h o (λ g. away g.0)))
