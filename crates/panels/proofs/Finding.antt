-- Rule 6 of the kind lines that read the cell of two boards: which of them need no visit, and that the others are found by board. Assumes nothing.
use mathlib.Core.Path.{◌≡◌, sym, subst}
use mathlib.Core.Bool.{false}
use Rattle.std.specs.Prelude.{Result, Ok}
use mathlib.Core.Logic.{⊎_elim}
use mathlib.Core.List.{List, Memᴰ}
use Prim.Native.Nat.{ℕ, ◌+◌, ◌*◌, ◌<◌}
use lib.Dec.{T, eqb}
use Rattle.std.proofs.lemmas.Bool.{eqb-false}
use Rattle.rules.specs.Relations.{same, above, A, has, ◌lies_within◌}
use Rattle.rules.specs.Descriptions.{KindLine}
use Rattle.rules.specs.Tables.{cell}
use Rattle.rules.specs.Arrangements.{way, width}
use Rattle.rules.specs.Closing.{reaches, rules6}
use Rattle.rules.proofs.Tests.{or_T_right}
use Rattle.rules.proofs.Digits.{has_single}
use Rattle.rules.proofs.Rules.{relations_pos, misses_not, said6, said6'}
use Rattle.passes.proofs.Passes.{filled_one, ready_place}
use Rattle.kinds.specs.Sections.{Kinds}
use Rattle.by_board.specs.Found.{with_panel}
use Rattle.by_board.proofs.Asking.{panel_found, way_found}
use Rattle.moves.specs.Watches.{feeds, feeds'}
use Rattle.moves.specs.declared.Emptied.{Emptied}
use Rattle.moves.specs.Moves.{Mutual, Moved, Tended, Went, Fed, FedFor}
use Rattle.moves.specs.Visits.{Site, Keeping, Visited}
use Rattle.moves.proofs.Moving.{moved_none, tended_moved}
use Rattle.moves.proofs.Reading.{feeds_honest, feeds'_honest}
use Rattle.moves.proofs.Passing.{board_few, went_so}
use Rattle.panels.specs.Visits.{FedEach, FedWays}

-- ---- rules that strike nothing, by one cell that they read

module _ (v : ℕ) (t m : List ℕ) {a b : ℕ} where
  -- a way that may be at or above b
  reach_panel : T (reaches (cell v t a b)) → (k : KindLine) (i : ℕ) → i < width k → a ≡ way k i → Tended v m t (feeds v k b)
  reach_panel r k i h e o =
      said6 v t k b
      (λ f. absurd (misses_not (cell v t (way k i) b) (f i h) (subst (λ (x : ℕ). T (reaches (cell v t x b))) e r)))

  reach_way : T (reaches (cell v t a b)) → (k : KindLine) (i j : ℕ) → j < width k → (i ≡ j → ⊥) → a ≡ way k j → Tended v m t (feeds' v k i b)
  reach_way r k i j h d e o =
      said6' v t k b i
      (λ s f. absurd (misses_not (cell v t (way k j) b) (f j h d) (subst (λ (x : ℕ). T (reaches (cell v t x b))) e r)))

  -- a panel that need not be above b
  more_way : Mutual v t → a < v → b < v → (cell v t a b ≡ A → ⊥) → (k : KindLine) (i : ℕ) → a ≡ k.p → Tended v m t (feeds' v k i b)
  more_way fit ha hb n k i e o =
      said6' v t k b i
      (λ s f.
      absurd
      (n
      (filled_one above t (v * a + b) relations_pos fit.ready.table fit.filled (ready_place fit.ready ha hb)
      (subst (λ (x : ℕ). cell v t x b lies_within A) (sym e) s))))

-- A, and nothing else, is at or above
reaches_above : T (reaches A)
unfolding reaches
reaches_above = or_T_right (has A same) (has A above) (has_single above)

-- ---- the kind lines that read the cell of a and b

module _ {v count : ℕ} {ws xs t m : List ℕ} (site : Site v count ws xs t m) {a b : ℕ} (ha : a < v) (hb : b < v) where
  -- those with the panel a, where it must be above b
  for_panel : (ks : List KindLine) → Kinds v count ws ks → cell v t a b ≡ A → {C : List ℕ → Type 0} {w n : List ℕ} → Moved C v t m w n
      → FedEach v ws (with_panel xs a) b n w → FedFor v ks a b n w
  for_panel ks fill e {C} {w} {n} g f =
      record {
        panel = λ k l r. tended_moved g (feeds v k b) (feeds_honest v k b) (reach_panel v t m reach k r.0 r.1 r.2.0);
        ways = λ k l i h.
            ⊎_elim (λ r. here k l i h r.0)
            (λ r. tended_moved g (feeds' v k i b) (feeds'_honest v k i b) (reach_way v t m reach k i r.0 r.1 r.2.0 r.2.1.0));
      }
    where
      reach : T (reaches (cell v t a b))
      reach = subst (λ (x : ℕ). T (reaches x)) (sym e) reaches_above

      here : (k : KindLine) → Memᴰ k ks → (i : ℕ) → i < width k → a ≡ k.p → Tended v n w (feeds' v k i b)
      here k l i h d =
          let (j, o, q) = panel_found site.listed ks fill k l (board_few site.table ha) d in
          (subst (λ (k : KindLine). Fed v k b n w) q (f j o)).ways i h

  -- as each of the kind lines that fill the words is visited
  pub went_panel : (ks : List KindLine) → Kinds v count ws ks → cell v t a b ≡ 2 → (lines : ℕ) → lines ≡ with_panel xs a → (w n : List ℕ) (r : Result (Unit {0}) Emptied)
      → Went (Keeping rules6 v ks) v (FedEach v ws lines b) t m w n r → Went (Keeping rules6 v ks) v (FedFor v ks a b) t m w n r
  went_panel ks fill e lines d w n r g =
      went_so (Keeping rules6 v ks) v (FedEach v ws lines b) (FedFor v ks a b) t m w n r
      (λ moved f. for_panel ks fill e moved (subst (λ (x : ℕ). FedEach v ws x b n w) d f)) g

  -- none, where a may be at or above b and something else
  pub visit_none : T (reaches (cell v t a b)) → eqb (cell v t a b) 2 ≡ false → Visited (Keeping rules6 v) v count ws (λ ks. FedFor v ks a b) t m t m (Ok tt)
  visit_none reach e ks fill = (
    moved_none site.table site.list,
    record {
      panel = λ k l r. reach_panel v t m reach k r.0 r.1 r.2.0;
      ways = λ k l i h.
          ⊎_elim (λ r. more_way v t m site.table ha hb (eqb-false _ _ e) k i r.0) (λ r. reach_way v t m reach k i r.0 r.1 r.2.0 r.2.1.0);
    },
  )

  -- those with the way a, where it is neither at nor above b
  for_ways : (ks : List KindLine) → Kinds v count ws ks → (cell v t a b ≡ A → ⊥) → {C : List ℕ → Type 0} {w n : List ℕ} → Moved C v t m w n
      → FedWays v ws xs a b n w → FedFor v ks a b n w
  for_ways ks fill e {C} {w} {n} g f =
      record {
        panel = λ k l r. (here k l r.0 r.1 r.2.0).panel;
        ways = λ k l i h.
            ⊎_elim (λ r. tended_moved g (feeds' v k i b) (feeds'_honest v k i b) (more_way v t m site.table ha hb e k i r.0))
            (λ r. (here k l r.0 r.1 r.2.1.0).ways i h);
      }
    where
      here : (k : KindLine) → Memᴰ k ks → (i : ℕ) → i < width k → a ≡ way k i → Fed v k b n w
      here k l i h d =
          let (s, j, o, q) = way_found site.listed ks fill k l (board_few site.table ha) i h d in
          subst (λ (k : KindLine). Fed v k b n w) q (f i s j o)

  pub went_ways : (ks : List KindLine) → Kinds v count ws ks → eqb (cell v t a b) 2 ≡ false → (w n : List ℕ) (r : Result (Unit {0}) Emptied)
      → Went (Keeping rules6 v ks) v (FedWays v ws xs a b) t m w n r → Went (Keeping rules6 v ks) v (FedFor v ks a b) t m w n r
  went_ways ks fill e w n r g =
      went_so (Keeping rules6 v ks) v (FedWays v ws xs a b) (FedFor v ks a b) t m w n r (λ moved f. for_ways ks fill (eqb-false _ _ e) moved f) g
