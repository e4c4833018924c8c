-- At a first closing every pair of which something is known is on the list. What no such pair is read by strikes nothing: a full cell strikes nothing, and
-- neither does a board beside itself. Assumes nothing.
use mathlib.Core.Path.{◌≡◌, refl, sym, ap, ◌∙◌, subst}
use mathlib.Core.Bool.{not, ◌&&◌}
use mathlib.Core.Logic.{⊎_elim, inl, inr}
use mathlib.Core.List.{List, Memᴰ}
use Prim.Native.Nat.{ℕ, zero, suc, ◌^◌, ◌<◌}
use native.Mathlib.Omega.{arith}
use lib.Dec.{T, eqb, eqb→eq, T_not}
use Rattle.rules.specs.Relations.{each_below, relations, same, above, E, A, has, set_to, set_of, full, set_limit, complement, ◌lies_within◌, singles, composed, compose}
use Rattle.rules.specs.Descriptions.{KindLine, OneArity}
use Rattle.rules.specs.Tables.{cell}
use Rattle.rules.specs.Arrangements.{way, width}
use Rattle.rules.specs.Closing.{reaches, agree}
use Rattle.rules.proofs.Tests.{T-decide, T-differ, and_T, or_T_left, each_at}
use Rattle.rules.proofs.Digits.{has_single}
use Rattle.rules.proofs.Sets.{lies_eq, lies_trans, lies_full, single_lies, some_member}
use Rattle.rules.proofs.Composition.{compose_mono, compose_E_left}
use Rattle.rules.proofs.Rules.{relations_pos, same_small, misses_not, unless_in, alike_agree, said6, said6', said7''}
use Rattle.moves.specs.Watches.{through, feeds, feeds', matches, matches'}
use Rattle.moves.specs.Moves.{Off, Mutual, Moved, Tended, Fed, Matched, Owed}
use Rattle.moves.proofs.Striking.{cell_some}
use Rattle.moves.proofs.Moving.{tended_moved}
use Rattle.moves.proofs.Reading.{through_honest, feeds_honest, feeds'_honest, matches_honest, matches'_honest}
use Rattle.panels.specs.Visits.{FedWithout}
use Rattle.same_panels.specs.Visits.{AtFirst}

every_single : T (each_below relations (λ r. eqb (compose full (2 ^ r)) full))
unfolding relations has set_to set_of full singles composed compose
every_single = tt

same_reaches : (x : ℕ) → T (has x same) → T (reaches x)
unfolding reaches
same_reaches x h = or_T_left (has x same) (has x above) h

not_above : T (not (has A same))
unfolding has
not_above = tt

not_same_above : T (not (has E above))
unfolding has
not_same_above = tt

-- all relations composed with a relation are all of them, whatever the relation
full_single : (r : ℕ) → r < relations → compose full (2 ^ r) ≡ full
full_single r h = eqb→eq (compose full (2 ^ r)) full (each_at relations (λ r. eqb (compose full (2 ^ r)) full) every_single r h)

-- and so with any set but the empty one
full_composed : (y : ℕ) → y < set_limit → (y ≡ 0 → ⊥) → full lies_within compose full y
full_composed y h some =
    let m = some_member h some in
    subst (λ (x : ℕ). x lies_within compose full y) (full_single m.0 m.1) (compose_mono (lies_eq refl) (single_lies m.0 y m.2))

-- every pair that is not on the list is full
abbrev pub Unknown : ℕ → List ℕ → List ℕ → Type 0
Unknown v m t = (p q : ℕ) → (p ≡ q → ⊥) → Off v m p q → cell v t p q ≡ full

module _ {v : ℕ} {m t : List ℕ} (u : Mutual v t) (f : Unknown v m t) where
  -- a pair that is not on the list may be the same
  off_same : {p q : ℕ} → Off v m p q → T (has (cell v t p q) same)
  off_same {p} {q} o = ⊎_elim one other (T-decide (eqb p q))
    where
      one : T (eqb p q) → T (has (cell v t p q) same)
      one e = subst (λ (x : ℕ). T (has x same)) (sym (u.selves p o.first) ∙ ap (λ (y : ℕ). cell v t p y) (eqb→eq p q e)) (has_single same)

      other : T (not (eqb p q)) → T (has (cell v t p q) same)
      other d = subst (λ (x : ℕ). T (has x same)) (sym (f p q (T-differ d) o)) ((lies_full E).member same same_small (has_single same))

  through_first : (p q r : ℕ) → Tended v m t (through v p q r)
  through_first p q r o = ⊎_elim one other (T-decide (eqb p q))
    where
      left : Off v m p q
      left = o p q (inl (refl, refl))

      right : Off v m q r
      right = o q r (inr (refl, refl))

      one : T (eqb p q) → cell v t p r lies_within compose (cell v t p q) (cell v t q r)
      one e =
          let same : p ≡ q = eqb→eq p q e in
          subst (λ (x : ℕ). cell v t p r lies_within compose (cell v t p x) (cell v t x r)) same
          (lies_eq (sym (ap (λ (x : ℕ). compose x (cell v t p r)) (u.selves p left.first) ∙ compose_E_left (cell v t p r) (u.ready.table.small _))))

      other : T (not (eqb p q)) → cell v t p r lies_within compose (cell v t p q) (cell v t q r)
      other d =
          subst (λ (x : ℕ). cell v t p r lies_within compose x (cell v t q r)) (sym (f p q (T-differ d) left))
          (lies_trans (lies_full (cell v t p r)) (full_composed (cell v t q r) (u.ready.table.small _) (cell_some u right.first right.second)))

  module _ (k : KindLine) (z : ℕ) where
    feeds_first : 0 < width k → Tended v m t (feeds v k z)
    feeds_first h o = said6 v t k z (λ miss. absurd (misses_not (cell v t (way k 0) z) (miss 0 h) (same_reaches (cell v t (way k 0) z) (off_same (o (way k 0) z (0, h, (refl, refl)))))))

    feeds'_first : (i : ℕ) → Tended v m t (feeds' v k i z)
    feeds'_first i o = said6' v t k z i (λ a miss. absurd (T_not (has A same) not_above (a.member same same_small (off_same (o k.p z (inl (refl, refl)))))))

  module _ (k l : KindLine) (i : ℕ) where
    matches_first : T (agree k l) → Tended v m t (matches v k l i)
    matches_first a o =
        unless_in (agree k l && has (cell v t (way k i) (way l i)) same) (cell v t k.p l.p) (complement E)
        (λ d. absurd (T_not (agree k l && has (cell v t (way k i) (way l i)) same) d (and_T (agree k l) (has (cell v t (way k i) (way l i)) same) a (off_same (o (way k i) (way l i) (refl, refl))))))

    matches'_first : (k.p ≡ l.p → ⊥) → Tended v m t (matches' v k l i)
    matches'_first d o =
        said7'' v t k l i
        (λ a.
        absurd
        (T_not (has E above) not_same_above
        (a.member above relations_pos (subst (λ (x : ℕ). T (has x above)) (sym (f k.p l.p d (o k.p l.p (refl, refl)))) ((lies_full A).member above relations_pos (has_single above))))))

-- once what no pair would bring up is visited, rule 6 of lines without ways and rule 7 of two lines of different codes or on one panel, what is owed is owed by
-- the list
pub owed_first : {C : List ℕ → Type 0} {v : ℕ} {ks : List KindLine} {t m w n : List ℕ} → Mutual v t → Unknown v m t → Moved C v t m w n → OneArity ks
    → FedWithout v ks n w → AtFirst v ks n w → Owed v ks n w
owed_first {C} {v} {ks} {t} {m} {w} {n} u f g arity without unlisted =
    record {
      three = λ p q r hp hq hr. tended_moved g (through v p q r) (through_honest v p q r) (through_first u f p q r);
      six = λ k a z h. ⊎_elim (λ e. without k a (eqb→eq (width k) 0 e) z h) (λ d. fed k z (some (width k) (T-differ d))) (T-decide (eqb (width k) 0));
      seven =
          λ k a l b.
          ⊎_elim
          (λ e. ⊎_elim (λ p. (unlisted k a l b).panels (eqb→eq k.p l.p p)) (λ d. matched k l (alike k a l b (eqb→eq k.code l.code e)) (T-differ d)) (T-decide (eqb k.p l.p)))
          (λ d. (unlisted k a l b).codes (T-differ d)) (T-decide (eqb k.code l.code));
    }
  where
    some : (x : ℕ) → (x ≡ 0 → ⊥) → 0 < x
    some zero d = absurd (d refl)
    some (suc x) d = omega arith

    alike : (k : KindLine) → Memᴰ k ks → (l : KindLine) → Memᴰ l ks → k.code ≡ l.code → T (agree k l)
    alike k a l b e = alike_agree k l (e, arity k l a b e)

    fed : (k : KindLine) (z : ℕ) → 0 < width k → Fed v k z n w
    fed k z h =
        record {
          panel = tended_moved g (feeds v k z) (feeds_honest v k z) (feeds_first u f k z h);
          ways = λ i l. tended_moved g (feeds' v k i z) (feeds'_honest v k i z) (feeds'_first u f k z i);
        }

    matched : (k l : KindLine) → T (agree k l) → (k.p ≡ l.p → ⊥) → Matched v k l n w
    matched k l a d =
        record {
          codes = λ o. unless_in (agree k l) (cell v w k.p l.p) (complement E) (λ z. absurd (T_not (agree k l) z a));
          panels = λ i h. tended_moved g (matches v k l i) (matches_honest v k l i) (matches_first u f k l i a);
          ways = λ e i h. tended_moved g (matches' v k l i) (matches'_honest v k l i) (matches'_first u f k l i d);
        }
