-- Lines told one after the other: by panel, by each way in turn, and where they begin. Assumes nothing.
use mathlib.Core.Path.{◌≡◌, refl, sym, ap, ◌∙◌, subst}
use mathlib.Core.Bool.{Bool, true, false, ◌&&◌, ◌||◌, and-false, or-true, or-false}
use mathlib.Core.Logic.{◌⊎◌, inl, inr}
use mathlib.Core.List.{List}
use Prim.Native.Nat.{ℕ, ◌+◌, ◌*◌, ◌≤◌, ◌<◌}
use native.Mathlib.Omega.{arith}
use borrow.Author.Tests.{lt-ltb, le-ltb, eq-eqb, ne_eqb, ltb-true, ltb-false, eqb-true, eqb-false}
use lib.Dec.{ltb, eqb}
use lib.ListN.{length, get_or, set, replicate, length-set, length-replicate}
use Rattle.rules.specs.Relations.{has}
use Rattle.rules.specs.Descriptions.{most_boards, most_kinds, most_ways}
use Rattle.rules.specs.Arrangements.{way, width}
use Rattle.rules.proofs.Members.{zeros}
use Rattle.rules.proofs.Tests.{order_cases}
use Rattle.bits.specs.Sets.{added, added_at}
use Rattle.bits.proofs.Laws.{has_zero, has_added}
use Rattle.by_board.specs.Found.{start_of, numbered, spots_at, places_at, starts_at, index_words, Indexed}
use Rattle.by_board.proofs.Marking.{put_other, put_cases, Placed, placed_none, placed_apart}

-- ---- one set

-- the set x has those of the first `count` lines at which f passes
pub record Tells (f : ℕ → Bool) (count x : ℕ) : Type 0 where
  pub line : (m : ℕ) → has x m ≡ (ltb m count && f m)

tells_none : (f : ℕ → Bool) → Tells f 0 0
tells_none f = record { line = λ m. has_zero m ∙ sym (ap (λ (b : Bool). b && f m) (le-ltb m 0 (omega arith))) }

-- one line more, at which f passes or not
module _ {f : ℕ → Bool} {n x : ℕ} (t : Tells f n x) where
  -- nothing changes for the other lines
  others : (m : ℕ) → (n ≡ m → ⊥) → has x m ≡ (ltb m (n + 1) && f m)
  others m d = t.line m ∙ ap (λ (b : Bool). b && f m) (go (ltb m n) refl)
    where
      go : (b : Bool) → ltb m n ≡ b → ltb m n ≡ ltb m (n + 1)
      go true e = e ∙ sym (lt-ltb m (n + 1) (omega (arith, ltb-true m n e)))
      go false e = e ∙ sym (le-ltb m (n + 1) (let l = ltb-false m n e in omega arith))

  tells_added : f n ≡ true → Tells f (n + 1) (added x n)
  tells_added e = record { line = λ m. has_added x n m ∙ go m (eqb n m) refl }
    where
      go : (m : ℕ) (b : Bool) → eqb n m ≡ b → (has x m || b) ≡ (ltb m (n + 1) && f m)
      go m true d =
          let s : n ≡ m = eqb-true n m d in
          rw (or-true, lt-ltb m (n + 1) (omega arith)) (sym (ap f (sym s) ∙ e))
      go m false d = or-false (has x m) ∙ others m (eqb-false n m d)

  tells_kept : f n ≡ false → Tells f (n + 1) x
  tells_kept e = record { line = λ m. go m (eqb n m) refl }
    where
      go : (m : ℕ) (b : Bool) → eqb n m ≡ b → has x m ≡ (ltb m (n + 1) && f m)
      go m true d =
          let s : n ≡ m = eqb-true n m d in
          rw (lt-ltb m (n + 1) (omega arith)) (t.line m ∙ ap (λ (b : Bool). b && f m) (le-ltb m n (omega arith)) ∙ sym (ap f (sym s) ∙ e))
      go m false d = others m (eqb-false n m d)

-- ---- the words of an index

-- line m has panel b, and has board b as its way in place i
abbrev panel_of : List ℕ → ℕ → ℕ → Bool
panel_of ws b m = eqb (numbered ws m).p b

abbrev spot_of : List ℕ → ℕ → ℕ → ℕ → Bool
spot_of ws b i m = ltb i (width (numbered ws m)) && eqb (way (numbered ws m) i) b

-- so many lines are told by panel, so many by each place among their ways, and for so many it is told where they begin
pub record Telling (ws xs : List ℕ) (panels : ℕ) (spots : ℕ → ℕ) (starts : ℕ) : Type 0 where
  pub words : length xs ≡ index_words
  pub by_panel : (b : ℕ) → b < most_boards → Tells (panel_of ws b) panels (get_or xs b 0)
  pub by_way : (b i : ℕ) → b < most_boards → i < most_ways → Tells (spot_of ws b i) (spots i) (get_or xs (spots_at + most_ways * b + i) 0)
  pub begins : (n : ℕ) → n < starts → get_or xs (starts_at + n) 0 ≡ start_of ws n
  pub beyond : (n : ℕ) → starts ≤ n → get_or xs (starts_at + n) 0 ≡ 0

-- no line is told
pub indexed_none : (ws : List ℕ) {xs : List ℕ} → xs ≡ replicate index_words 0 → Indexed 0 ws xs
indexed_none ws {xs} e =
    record {
      words = ap length e ∙ length-replicate {A = ℕ} index_words 0;
      panels = λ b n h. subst (λ (x : ℕ). has x n ≡ (ltb n 0 && panel_of ws b n)) (sym (zero b)) ((tells_none (panel_of ws b)).line n);
      spots = λ b i n h l.
          subst (λ (x : ℕ). has x n ≡ (ltb n 0 && spot_of ws b i n)) (sym (zero (spots_at + most_ways * b + i))) ((tells_none (spot_of ws b i)).line n);
      few = (placed_none {xs = xs} zero).few;
      places = (placed_none {xs = xs} zero).places;
      starts = λ n h. let z : ⊥ = omega arith in absurd z;
      beyond = λ n h. zero (starts_at + n);
    }
  where
    zero : (k : ℕ) → get_or xs k 0 ≡ 0
    zero k = ap (λ (ys : List ℕ). get_or ys k 0) e ∙ zeros index_words k

pub indexed_telling : {ws xs : List ℕ} {n : ℕ} → Indexed n ws xs → Telling ws xs n (λ i. n) n
indexed_telling t =
    record {
      words = t.words;
      by_panel = λ b h. record { line = λ m. t.panels b m h };
      by_way = λ b i h l. record { line = λ m. t.spots b i m h l };
      begins = t.starts;
      beyond = t.beyond;
    }

telling_indexed : {ws xs : List ℕ} {n : ℕ} → Telling ws xs n (λ i. n) n → Placed xs → Indexed n ws xs
telling_indexed t p =
    record {
      words = t.words;
      panels = λ b m h. (t.by_panel b h).line m;
      spots = λ b i m h l. (t.by_way b i h l).line m;
      few = p.few;
      places = p.places;
      starts = t.begins;
      beyond = t.beyond;
    }

-- ---- one line more

-- a word of places is written
pub tell_place : {ws xs : List ℕ} {c : ℕ} {q : ℕ → ℕ} {s : ℕ} → Telling ws xs c q s → (y x : ℕ) → y < most_boards → Telling ws (set xs (places_at + y) x) c q s
tell_place {ws} {xs} t y x l =
    let k = places_at + y in
    record {
      words = length-set xs k x ∙ t.words;
      by_panel = λ b h. put_other (Tells (panel_of ws b) _) xs k x b (λ d. omega arith) (t.by_panel b h);
      by_way = λ b i h m. put_other (Tells (spot_of ws b i) _) xs k x (spots_at + most_ways * b + i) (λ d. omega arith) (t.by_way b i h m);
      begins = λ m h. put_other (λ (z : ℕ). z ≡ start_of ws m) xs k x (starts_at + m) (λ d. omega arith) (t.begins m h);
      beyond = λ m h. put_other (λ (z : ℕ). z ≡ 0) xs k x (starts_at + m) (λ d. omega arith) (t.beyond m h);
    }

module _ {ws xs : List ℕ} {n : ℕ} where
  -- it is told by panel
  pub tell_panel : {q : ℕ → ℕ} {s : ℕ} → Telling ws xs n q s → (p : ℕ) → p < most_boards → (numbered ws n).p ≡ p
      → Telling ws (added_at xs p n) (n + 1) q s
  tell_panel t p l e =
      let w = t.words in
      let x = added (get_or xs p 0) n in
      record {
        words = length-set xs p x ∙ w;
        by_panel = λ b h.
            put_cases (Tells (panel_of ws b) (n + 1)) xs p x b (omega arith)
            (λ d. subst (λ (k : ℕ). Tells (panel_of ws b) (n + 1) (added (get_or xs k 0) n)) d (tells_added (t.by_panel b h) (eq-eqb (numbered ws n).p b (e ∙ sym d))))
            (λ d. tells_kept (t.by_panel b h) (ne_eqb (numbered ws n).p b (λ f. d (sym f ∙ e))));
        by_way = λ b i h m.
            put_other (Tells (spot_of ws b i) _) xs p x (spots_at + most_ways * b + i) (λ d. omega arith) (t.by_way b i h m);
        begins = λ m h. put_other (λ (y : ℕ). y ≡ start_of ws m) xs p x (starts_at + m) (λ d. omega arith) (t.begins m h);
        beyond = λ m h. put_other (λ (y : ℕ). y ≡ 0) xs p x (starts_at + m) (λ d. omega arith) (t.beyond m h);
      }

-- how many are told by place j: n, and in the places before i line n too
unfoldable pub upto : ℕ → ℕ → ℕ → ℕ
upto n i j = elim (ltb j i) [ true ↦ n + 1 | false ↦ n ]

module _ (n i j : ℕ) where
  upto_passed : j < i → upto n i j ≡ n + 1
  unfolding upto
  upto_passed h = rw (lt-ltb j i h, upto)

  upto_left : i ≤ j → upto n i j ≡ n
  unfolding upto
  upto_left h = rw (le-ltb j i h, upto)

module _ {ws xs : List ℕ} (n : ℕ) {s : ℕ} where
  -- none of its ways is told yet
  pub ways_none : Telling ws xs (n + 1) (λ j. n) s → Telling ws xs (n + 1) (upto n 0) s
  ways_none t =
      record {
        words = t.words;
        by_panel = t.by_panel;
        by_way = λ b j h l. subst (λ (c : ℕ). Tells (spot_of ws b j) c (get_or xs (spots_at + most_ways * b + j) 0)) (sym (upto_left n 0 j (omega arith))) (t.by_way b j h l);
        begins = t.begins;
        beyond = t.beyond;
      }

  -- its way in place i is told
  pub tell_way : (i : ℕ) → Telling ws xs (n + 1) (upto n i) s → (y : ℕ) → y < most_boards → i < most_ways → i < width (numbered ws n) → way (numbered ws n) i ≡ y
      → let k = spots_at + most_ways * y + i in Telling ws (added_at xs k n) (n + 1) (upto n (i + 1)) s
  tell_way i t y l few in-line e =
      let w = t.words in
      let k = spots_at + most_ways * y + i in
      let x = added (get_or xs k 0) n in
      record {
        words = length-set xs k x ∙ w;
        by_panel = λ b h. put_other (Tells (panel_of ws b) (n + 1)) xs k x b (λ d. omega arith) (t.by_panel b h);
        by_way = λ b j h m.
            put_cases (Tells (spot_of ws b j) (upto n (i + 1) j)) xs k x (spots_at + most_ways * b + j) (omega arith)
            (λ d. here b j (t.by_way b j h m) d m) (λ d. elsewhere b j (t.by_way b j h m) d (order_cases j i));
        begins = λ m h. put_other (λ (z : ℕ). z ≡ start_of ws m) xs k x (starts_at + m) (λ d. omega arith) (t.begins m h);
        beyond = λ m h. put_other (λ (z : ℕ). z ≡ 0) xs k x (starts_at + m) (λ d. omega arith) (t.beyond m h);
      }
    where
      -- in the place that is written, and in another
      here : (b j : ℕ) → Tells (spot_of ws b j) (upto n i j) (get_or xs (spots_at + most_ways * b + j) 0) → spots_at + most_ways * b + j ≡ spots_at + most_ways * y + i
          → j < most_ways → Tells (spot_of ws b j) (upto n (i + 1) j) (added (get_or xs (spots_at + most_ways * y + i) 0) n)
      here b j u d m =
          let f : j ≡ i = omega arith in
          let g : y ≡ b = omega arith in
          let passes : spot_of ws b j n ≡ true =
          ap (λ (z : ℕ). spot_of ws b z n) f ∙ ap (λ (c : Bool). c && eqb (way (numbered ws n) i) b) (lt-ltb i (width (numbered ws n)) in-line)
          ∙ eq-eqb (way (numbered ws n) i) b (e ∙ g) in
          rw (upto_passed n (i + 1) j (omega arith), ← d) (tells_added (rw (upto_left n i j (omega arith)) at u) passes)

      elsewhere : (b j : ℕ) {x : ℕ} → Tells (spot_of ws b j) (upto n i j) x → (spots_at + most_ways * b + j ≡ spots_at + most_ways * y + i → ⊥)
          → (j < i) ⊎ ((i < j) ⊎ (j ≡ i)) → Tells (spot_of ws b j) (upto n (i + 1) j) x
      elsewhere b j u d (inl l) = rw (upto_passed n (i + 1) j (omega arith)) (rw (upto_passed n i j l) at u)
      elsewhere b j u d (inr (inl l)) = rw (upto_left n (i + 1) j (omega arith)) (rw (upto_left n i j (omega arith)) at u)
      elsewhere b j u d (inr (inr f)) =
          let fails : spot_of ws b j n ≡ false =
          ap (λ (c : Bool). ltb j (width (numbered ws n)) && c)
          (ne_eqb (way (numbered ws n) j) b (λ g. d (let q : b ≡ y = sym g ∙ ap (way (numbered ws n)) f ∙ e in omega arith))) ∙ and-false (ltb j (width (numbered ws n))) in
          rw (upto_passed n (i + 1) j (omega arith)) (tells_kept (rw (upto_left n i j (omega arith)) at u) fails)

  -- all of its ways are
  pub ways_all : (i : ℕ) → Telling ws xs (n + 1) (upto n i) s → width (numbered ws n) ≤ i → Telling ws xs (n + 1) (λ j. n + 1) s
  ways_all i t h =
      record {
        words = t.words;
        by_panel = t.by_panel;
        by_way = λ b j l m. go b j (t.by_way b j l m) (ltb j i) refl;
        begins = t.begins;
        beyond = t.beyond;
      }
    where
      go : (b j : ℕ) {x : ℕ} → Tells (spot_of ws b j) (upto n i j) x → (c : Bool) → ltb j i ≡ c → Tells (spot_of ws b j) (n + 1) x
      go b j {x} u true e = subst (λ (c : ℕ). Tells (spot_of ws b j) c x) (upto_passed n i j (ltb-true j i e)) u
      go b j {x} u false e =
          let l : i ≤ j = ltb-false j i e in
          tells_kept (subst (λ (c : ℕ). Tells (spot_of ws b j) c x) (upto_left n i j l) u)
          (ap (λ (c : Bool). c && eqb (way (numbered ws n) j) b) (le-ltb j (width (numbered ws n)) (omega arith)))

-- and it is told where it begins
pub tell_start : {ws xs : List ℕ} {n at : ℕ} → Telling ws xs (n + 1) (λ j. n + 1) n → Placed xs → n < most_kinds → at ≡ start_of ws n
    → Indexed (n + 1) ws (set xs (starts_at + n) at)
tell_start {ws} {xs} {n} {at} t p l e =
    let w = t.words in
    let k = starts_at + n in
    telling_indexed
    (record {
      words = length-set xs k at ∙ w;
      by_panel = λ b h. put_other (Tells (panel_of ws b) (n + 1)) xs k at b (λ d. omega arith) (t.by_panel b h);
      by_way = λ b j h m. put_other (Tells (spot_of ws b j) (n + 1)) xs k at (spots_at + most_ways * b + j) (λ d. omega arith) (t.by_way b j h m);
      begins = λ m h.
          put_cases (λ (z : ℕ). z ≡ start_of ws m) xs k at (starts_at + m) (omega arith) (λ d. let f : n ≡ m = omega arith in e ∙ ap (start_of ws) f)
          (λ d. t.begins m (omega arith));
      beyond = λ m h. put_other (λ (z : ℕ). z ≡ 0) xs k at (starts_at + m) (λ d. omega arith) (t.beyond m (omega arith));
    })
    (placed_apart p k at (inr (omega arith)))
