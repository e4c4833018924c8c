-- What a try, and tries from the first table on, need and come to under the description that the words mean. Assumes nothing.
use mathlib.Core.Path.{◌≡◌, sym, ◌∙◌, subst}
use mathlib.Core.Bool.{true, false}
use mathlib.Core.List.{List}
use Prim.Native.Nat.{ℕ, ◌+◌, ◌≤◌, ◌<◌}
use native.Mathlib.Omega.{arith}
use lib.ListN.{length, get_or}
use lib.Dec.{T}
use Rattle.std.specs.Prelude.{Option, MatchOption, Result, Ok, Err, is_ok}
use Rattle.rules.specs.Descriptions.{most_boards, Sheet}
use Rattle.rules.specs.Tables.{Table, emptied}
use Rattle.rules.specs.Closing.{closing}
use Rattle.rules.proofs.Tests.{clash}
use Rattle.rules.proofs.Descriptions.{read_well_formed}
use Rattle.passes.specs.Passes.{Ready}
use Rattle.orders.specs.Orders.{pick}
use Rattle.moves.specs.declared.Emptied.{Emptied}
use Rattle.moves.specs.Moves.{Marks, Mutual, Struck}
use Rattle.headers.specs.declared.Header.{Header}
use Rattle.sheet.proofs.Described.{Described, described, described_one}
use Rattle.closing.specs.Closes.{Under, Listing, ClosesListed, closes_listed}
use Rattle.choosing.specs.declared.pairs.Pair.{Pair}
use Rattle.choosing.specs.declared.Next.{Next}
use Rattle.choosing.specs.declared.Next.TheVariants.{Try, Found, Spent}
use Rattle.choosing.specs.Pairs.{IsPair}
use Rattle.choosing.specs.Choices.{PairSets, NextOpen}
use Rattle.choosing.specs.Standings.{onward, backward, Whole, Due}
use Rattle.choosing.specs.Tries.{Failed, retreats, relists, Trying, Tried, Choosing}
use Rattle.choosing.proofs.Rebuilding.{read_pick}
use Rattle.choosing.proofs.Turning.{onward_is, backward_is}
use Rattle.choosing.proofs.Midway.{Midway, midway_start}
use Rattle.choosing.proofs.Attempts.{first_relists, try_pair, try_within, try_sets, try_place, try_room, try_first, try_standing, try_fit, try_listing, on_ready, goes_on, goes_back}

-- what a closing by the list has come to, by whether it met no empty cell
closed_ok : (s : Sheet) (t w n : List ℕ) (r : Result (Unit {0}) Emptied) → is_ok r ≡ true → closes_listed s t w n r → ClosesListed s t w n
closed_ok s t w n (Ok _) e c = c
closed_ok s t w n (Err _) e c = clash (cc)

closed_err : (s : Sheet) (t w n : List ℕ) (r : Result (Unit {0}) Emptied) → is_ok r ≡ false → closes_listed s t w n r → T (emptied (closing s t))
closed_err s t w n (Ok _) e c = clash (cc)
closed_err s t w n (Err _) e c = c

module _ {h : Header} {ws xs ord first : List ℕ} {at : Pair} {cs u l : List ℕ} (t : Trying h ws xs ord first at cs u l) where
  abbrev meant : (s : Sheet) × Described ws h s
  meant = described ws h t.told.header

  abbrev s : Sheet
  s = meant.0

  boards : h.boards ≡ s.boards
  boards = meant.1.boards

  few : h.boards ≤ most_boards
  few = meant.1.few

  try : Due s ord first cs u at
  try = t.due s meant.1.means

  listing : Listing s l u
  listing = t.listing s meant.1.means

  pub trying_place : at.index < length cs
  trying_place = try_place s t.order first boards few cs u at try

  pub trying_sets : PairSets h.boards cs
  trying_sets = try_sets s t.order first boards few cs u at try

  pub trying_pair : (h.boards ≤ most_boards) × IsPair h.boards at × (at.q < h.boards)
  trying_pair = (few, try_pair s t.order first boards few cs u at try, try_within s t.order first boards few cs u at try)

  pub trying_failed : {w k : List ℕ} → length w ≡ length u → length k ≡ length l → Failed h.boards ord first at cs w k
  trying_failed f g =
      record {
        fit = try_first s t.order first boards few cs u at try;
        order = t.order;
        pair = trying_pair.1;
        within = trying_pair.2;
        sets = trying_sets;
        cells = f ∙ try_room s t.order first boards few cs u at try;
        list = g ∙ listing.list.words;
        standing = try_standing s t.order first boards few cs u at try;
      }

  -- the choice, as it was read and picked
  module _ {y x : ℕ} (read : y ≡ get_or cs at.index y) (is : x ≡ pick ord y) where
    picks : x ≡ pick ord (get_or cs at.index 0)
    picks = read_pick ord cs at.index trying_place read is

    pub trying_fit : Mutual h.boards u × Marks h.boards l × (at.p < h.boards) × (at.q < h.boards)
    trying_fit = try_fit s t.order first boards few cs u at try picks listing

    module _ {w k : List ℕ} {told : Result (Unit {0}) Emptied} (r : Struck h.boards at.p at.q x u l w k told) where
      pub trying_listing : Under ws (λ s. Listing s k w)
      trying_listing s' e =
          subst (λ (z : Sheet). Listing z k w) (described_one meant.1 e) (try_listing s t.order first boards few cs u at try picks listing r)

      module _ (z m : List ℕ) (closed : Result (Unit {0}) Emptied) (c : Under ws (λ s. closes_listed s w z m closed)) where
        module _ (ok : is_ok closed ≡ true) where
          good : ClosesListed s w z m
          good = closed_ok s w z m closed ok (c s meant.1.means)

          pub trying_ready : Ready h.boards z
          trying_ready = on_ready s t.order first boards few cs u at try picks listing r z m good

          pub trying_on : {from : ℕ} → from ≡ at.index + 1 → (ds : List ℕ) (to : Option Pair) → NextOpen h.boards z cs from ds to
              → (next : Next) → MatchOption to (next ≡ Found) (λ p. next ≡ Try p) → Under ws (λ s. Tried s ord first at cs ds z next × relists s z m next)
          trying_on {from} f ds to o next g s' e =
              subst (λ (n : Next). Tried s' ord first at cs ds z n × relists s' z m n) (sym (onward_is to next g))
              (subst (λ (x : Sheet). Tried x ord first at cs ds z (onward to) × relists x z m (onward to)) (described_one meant.1 e)
              (goes_on s t.order first boards few cs u at try picks listing r z m good from f ds to o))

        pub trying_back : is_ok closed ≡ false → (ds w' m' : List ℕ) (to : Option Pair) → retreats h.boards ord first at cs ds w' m' to
            → (next : Next) → MatchOption to (next ≡ Spent) (λ p. next ≡ Try p) → Under ws (λ s. Tried s ord first at cs ds w' next × relists s w' m' next)
        trying_back lost ds w' m' to b next g s' e =
            subst (λ (n : Next). Tried s' ord first at cs ds w' n × relists s' w' m' n) (sym (backward_is to next g))
            (subst (λ (x : Sheet). Tried x ord first at cs ds w' (backward to) × relists x w' m' (backward to)) (described_one meant.1 e)
            (goes_back s t.order first boards few cs u at try picks listing r (closed_err s w z m closed lost (c s meant.1.means)) ds w' m' to b))

-- ---- from the first table on

module _ {h : Header} {ws xs ord first cs u l : List ℕ} (t : Choosing h ws xs ord first cs u l) where
  abbrev told : (s : Sheet) × Described ws h s
  told = described ws h t.told.header

  whole : Whole told.0 first
  whole = t.whole told.0 told.1.means

  pub choosing_some : 0 < h.boards
  choosing_some = let e : h.boards ≡ told.0.boards = told.1.boards in omega (arith, (read_well_formed ws told.0 told.1.means).boards.0)

  pub choosing_ready : Ready h.boards u
  choosing_ready =
      record { boards = told.1.few; table = subst (Table h.boards) (sym t.cells) (subst (λ (n : ℕ). Table n first) (sym told.1.boards) whole.table) }

  pub choosing_midway : (i : ℕ) → i ≡ 0 → (ds : List ℕ) (to : Option Pair) → NextOpen h.boards u cs i ds to → (next : Next) → MatchOption to (next ≡ Found) (λ p. next ≡ Try p)
      → Under ws (λ s. Midway s ord first 0 ds u next × relists s u l next)
  choosing_midway i z ds to o next g s' e =
      subst (λ (x : Sheet). Midway x ord first 0 ds u next × relists x u l next) (described_one told.1 e) (
        midway_start told.0 t.order first told.1.boards whole t.cells i z cs ds to o (onward_is to next g),
        first_relists told.0 told.1.boards told.1.few whole t.cells t.list next,
      )
