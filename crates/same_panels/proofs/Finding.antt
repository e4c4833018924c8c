-- Rule 7 of the kind lines that read a cell: the places that two boards share, and what need not be visited. Assumes nothing.
use mathlib.Core.Path.{◌≡◌, sym, ap, ◌∙◌, subst}
use mathlib.Core.Bool.{Bool, false, not, ◌&&◌}
use Rattle.std.specs.Prelude.{Result, Ok}
use mathlib.Core.Logic.{⊎_elim}
use mathlib.Core.List.{List, Memᴰ}
use Prim.Native.Nat.{ℕ, ◌^◌, ◌<◌}
use lib.Bits.{bit_and}
use Rattle.std.proofs.lemmas.Bool.{eqb-false}
use lib.Dec.{T, T_not, eqb}
use Rattle.rules.specs.Relations.{same, E, has, meet, set_to, complement}
use Rattle.rules.specs.Descriptions.{most_boards, most_ways, KindLine}
use Rattle.rules.specs.Tables.{cell}
use Rattle.rules.specs.Arrangements.{way, width}
use Rattle.rules.specs.Closing.{agree, rules7}
use Rattle.rules.proofs.Tests.{and_T, T-decide}
use Rattle.rules.proofs.Digits.{has_single, has_set_to, set_to_small}
use Rattle.rules.proofs.Sets.{shared_has}
use Rattle.rules.proofs.Rules.{unless_in, unless_out, agree_alike, said7''}
use Rattle.relations.proofs.Bits.{set_to_and}
use Rattle.kinds.specs.Sections.{Kinds}
use Rattle.by_board.specs.Found.{with_panel, places_of, Listed}
use Rattle.by_board.proofs.Asking.{place_told, panel_found, way_found}
use Rattle.moves.specs.Watches.{Is, apart, matches, matches'}
use Rattle.moves.specs.declared.Emptied.{Emptied}
use Rattle.moves.specs.Moves.{Mutual, Tended, Matched, MatchedFor}
use Rattle.moves.specs.Visits.{Site, Keeping, Visited}
use Rattle.moves.proofs.Moving.{moved_none, tended_moved}
use Rattle.moves.proofs.Reading.{matches_honest, matches'_honest}
use Rattle.moves.proofs.Passing.{board_few, went_so}
use Rattle.same_panels.specs.Visits.{Each, InPlace, ByWays, Parted}
use Rattle.same_panels.proofs.Matching.{only_same}

-- ---- the places of two boards

-- the places that two boards share
abbrev pub shared : List ℕ → ℕ → ℕ → ℕ
shared xs a b = bit_and (places_of xs a) (places_of xs b)

module _ {v count : ℕ} {ws xs : List ℕ} (listed : Listed v count ws xs) {a b : ℕ} (ha : a < most_boards) (hb : b < most_boards) where
  abbrev in_both : ℕ → Bool
  in_both i = has (places_of xs a) i && has (places_of xs b) i

  both_set : set_to most_ways in_both ≡ shared xs a b
  both_set = set_to_and most_ways (places_of xs a) (places_of xs b) (listed.told.few a ha)

  pub shared_small : shared xs a b < 2 ^ most_ways
  shared_small = subst (λ (x : ℕ). x < 2 ^ most_ways) both_set (set_to_small most_ways in_both)

  -- a place that is not shared is that of no two lines
  pub by_ways : {m t : List ℕ} → ((i : ℕ) → T (has (shared xs a b) i) → InPlace v ws xs a b i m t) → ByWays v ws xs a b m t
  by_ways f i h n p o q =
      f i
      (subst (λ (x : ℕ). T (has x i)) both_set
      (subst T (sym (has_set_to most_ways in_both i h))
      (and_T (has (places_of xs a) i) (has (places_of xs b) i) (place_told listed ha h n p) (place_told listed hb h o q)))) n p o q

-- ---- what need not be visited

module _ (v : ℕ) (m t : List ℕ) (k l : KindLine) where
  -- two panels by their ways: where the lines are known to be apart, and where the ways may be the same
  parted_tended : Tended v m t (apart v k l) → T (not (agree k l)) → (i : ℕ) → Tended v m t (matches v k l i)
  parted_tended parted d i o =
      unless_in (agree k l && has (cell v t (way k i) (way l i)) same) (cell v t k.p l.p) (complement E)
      (λ e. unless_out (agree k l) (cell v t k.p l.p) (complement E) (parted (λ a b r. absurd r)) d)

  panels_tended : Tended v m t (apart v k l) → (i : ℕ) → T (has (cell v t (way k i) (way l i)) same) → Tended v m t (matches v k l i)
  panels_tended parted i h = ⊎_elim agreed (λ d. parted_tended parted d i) (T-decide (agree k l))
    where
      agreed : T (agree k l) → Tended v m t (matches v k l i)
      agreed a o =
          unless_in (agree k l && has (cell v t (way k i) (way l i)) same) (cell v t k.p l.p) (complement E)
          (λ d.
          absurd
          (T_not (agree k l && has (cell v t (way k i) (way l i)) same) d (and_T (agree k l) (has (cell v t (way k i) (way l i)) same) a h)))

  -- two ways by their panels, where these need not be the same
  ways_tended : Mutual v t → k.p < v → l.p < v → (cell v t k.p l.p ≡ E → ⊥) → (i : ℕ) → Tended v m t (matches' v k l i)
  ways_tended u hp hq n i o = said7'' v t k l i (λ s. absurd (n (only_same v k l u hp hq s)))

-- ---- a visit for the pair (a, b)

-- of two lines by their numbers
numbered_matched : {v : ℕ} {k l k' l' : KindLine} {m t : List ℕ} → k ≡ k' → l ≡ l' → Matched v k l m t → Matched v k' l' m t
numbered_matched {v} {k} {l} {k'} {l'} {m} {t} e f h = subst (λ (k : KindLine). Matched v k l' m t) e (subst (λ (l : KindLine). Matched v k l m t) f h)

module _ {v count : ℕ} {ws xs t m : List ℕ} (site : Site v count ws xs t m) {a b : ℕ} (ha : a < v) (hb : b < v) (parted : Parted v count ws m t) where
  -- where the two may be the same, what reads them as ways strikes nothing
  may_panels : (ks : List KindLine) → Kinds v count ws ks → T (has (cell v t a b) same)
      → (k : KindLine) → Memᴰ k ks → (l : KindLine) → Memᴰ l ks → (i : ℕ) → Is (way k i) (way l i) a b → Tended v m t (matches v k l i)
  may_panels ks fill h k hk l hl i (ea, eb) =
      panels_tended v m t k l (parted ks fill k hk l hl) i
      (subst (λ (p : ℕ). T (has (cell v t p (way l i)) same)) ea (subst (λ (q : ℕ). T (has (cell v t a q) same)) eb h))

  -- where they need not be, what reads them as panels strikes nothing
  need_ways : (cell v t a b ≡ E → ⊥) → (k l : KindLine) (i : ℕ) → Is k.p l.p a b → Tended v m t (matches' v k l i)
  need_ways n k l i (ea, eb) =
      ways_tended v m t k l site.table (subst (λ (p : ℕ). p < v) ea ha) (subst (λ (q : ℕ). q < v) eb hb)
      (λ e. n (ap (λ (p : ℕ). cell v t p b) ea ∙ ap (λ (q : ℕ). cell v t k.p q) eb ∙ e)) i

  -- they may be the same or not: nothing is to be done
  pub visit_open : T (has (cell v t a b) same) → (cell v t a b ≡ E → ⊥) → Visited (Keeping rules7 v) v count ws (λ ks. MatchedFor v ks a b) t m t m (Ok tt)
  visit_open h n ks fill = (
    moved_none site.table site.list,
    record { panels = λ k hk l hl i w. may_panels ks fill h k hk l hl i; ways = λ k hk l hl a i w. need_ways n k l i },
  )

  -- by the tests that are made of their cell
  pub visit_may : {x y : ℕ} {is lacks : Bool} → x ≡ cell v t a b → is ≡ eqb x E → is ≡ false → y ≡ meet x E → lacks ≡ eqb y 0 → lacks ≡ false
      → Visited (Keeping rules7 v) v count ws (λ ks. MatchedFor v ks a b) t m t m (Ok tt)
  visit_may {x} {y} read told d met told' e =
      visit_open (shared_has same (cell v t a b) (λ n. eqb-false y 0 (sym told' ∙ e) (met ∙ ap (λ (x : ℕ). meet x E) read ∙ n)))
      (λ n. eqb-false x E (sym told ∙ d) (read ∙ n))

  module _ (w n : List ℕ) (r : Result (Unit {0}) Emptied) where
    -- they must be the same: what reads them as panels is visited
    pub visit_panels : cell v t a b ≡ E → Visited (Keeping rules7 v) v count ws (λ ks. Each v ws (with_panel xs a) (with_panel xs b)) t m w n r
        → Visited (Keeping rules7 v) v count ws (λ ks. MatchedFor v ks a b) t m w n r
    visit_panels e h ks fill =
        went_so (Keeping rules7 v ks) v (Each v ws (with_panel xs a) (with_panel xs b)) (MatchedFor v ks a b) t m w n r
        (λ moved each.
        record {
          panels =
              λ k hk l hl i _ r.
              tended_moved moved (matches v k l i) (matches_honest v k l i)
              (may_panels ks fill (subst (λ (x : ℕ). T (has x same)) (sym e) (has_single same)) k hk l hl i r);
          ways = λ k hk l hl d i h r. (two each k hk l hl r).ways d i h;
        })
        (h ks fill)
      where
        two : Each v ws (with_panel xs a) (with_panel xs b) n w → (k : KindLine) → Memᴰ k ks → (l : KindLine) → Memᴰ l ks → Is k.p l.p a b
            → Matched v k l n w
        two each k hk l hl (ea, eb) =
            let (p, first, kp) = panel_found site.listed ks fill k hk (board_few site.table ha) ea in
            let (q, second, lq) = panel_found site.listed ks fill l hl (board_few site.table hb) eb in
            numbered_matched kp lq (each p first q second)

    -- they are not the same: what reads them as ways is visited
    pub visit_ways : (cell v t a b ≡ E → ⊥) → Visited (Keeping rules7 v) v count ws (λ ks. ByWays v ws xs a b) t m w n r
        → Visited (Keeping rules7 v) v count ws (λ ks. MatchedFor v ks a b) t m w n r
    visit_ways e h ks fill =
        went_so (Keeping rules7 v ks) v (ByWays v ws xs a b) (MatchedFor v ks a b) t m w n r
        (λ moved each.
        record {
          panels =
              λ k hk l hl i h r.
              ⊎_elim (λ d. (two each k hk l hl d i h r).panels i h)
              (λ d. tended_moved moved (matches v k l i) (matches_honest v k l i) (parted_tended v m t k l (parted ks fill k hk l hl) d i)) (T-decide (agree k l));
          ways = λ k hk l hl d i h r. tended_moved moved (matches' v k l i) (matches'_honest v k l i) (need_ways e k l i r);
        })
        (h ks fill)
      where
        two : ByWays v ws xs a b n w → (k : KindLine) → Memᴰ k ks → (l : KindLine) → Memᴰ l ks → T (agree k l) → (i : ℕ) → i < width k
            → Is (way k i) (way l i) a b → Matched v k l n w
        two each k hk l hl d i h (ea, eb) =
            let (few, p, first, kp) = way_found site.listed ks fill k hk (board_few site.table ha) i h ea in
            let (few', q, second, lq) = way_found site.listed ks fill l hl (board_few site.table hb) i (subst (λ (x : ℕ). i < x) (agree_alike k l d).1 h) eb in
            numbered_matched kp lq (each i few p first q second)
