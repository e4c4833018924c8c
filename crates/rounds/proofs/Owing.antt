-- A table in which a rule that strikes something reads a pair on the list: how it stays so, and what it comes to when the list is empty. Assumes nothing.
use mathlib.Core.Path.{sym, subst}
use mathlib.Core.Bool.{Bool, not, ◌&&◌}
use mathlib.Core.Logic.{⊎_elim}
use mathlib.Core.List.{List, Memᴰ}
use Prim.Native.Nat.{ℕ, ◌<◌}
use lib.Dec.{T, not_T, T_not}
use Rattle.rules.specs.Relations.{same, E, has, Lacks, complement, ◌lies_within◌}
use Rattle.rules.specs.Descriptions.{KindLine}
use Rattle.rules.specs.Tables.{cell}
use Rattle.rules.specs.Arrangements.{way, width}
use Rattle.rules.specs.Closing.{unless, agree, bound6, bound7, Idle, lies, rule6, rule7, rules2, rules3, rules6, rules7}
use Rattle.rules.proofs.Tests.{T-decide, and_T, T-and_right, each_at}
use Rattle.rules.proofs.Members.{All, all_one, one_all, all_append, append_left, append_right, all_over, over_all}
use Rattle.rules.proofs.Rules.{all_only, only_all, all_boards, boards_all, all_ways, ways_all, same_small, unless_in, unless_out, lies_lacks, lacks_lies, alike_agree, agree_alike, lacks7, said7}
use Rattle.passes.specs.Passes.{Idles}
use Rattle.moves.specs.Watches.{Is, through}
use Rattle.moves.specs.Moves.{Off, Mirrored, Moved, Fed, Matched, Owed}
use Rattle.moves.proofs.Moving.{tended_moved}
use Rattle.moves.proofs.Passing.{mirrored_idle}
use Rattle.moves.proofs.Reading.{through_honest}
use Rattle.panels.proofs.Visiting.{fed_moved}
use Rattle.same_panels.proofs.Visiting.{matched_moved}
use Rattle.rounds.specs.Rounds.{rules_again}

module _ {C : List ℕ → Type 0} {v : ℕ} {t m w n : List ℕ} (g : Moved C v t m w n) where
  -- it stays so
  pub owed_moved : {ks : List KindLine} → Owed v ks m t → Owed v ks n w
  owed_moved o =
      record {
        three = λ p q r hp hq hr. tended_moved g (through v p q r) (through_honest v p q r) (o.three p q r hp hq hr);
        six = λ k a z h. fed_moved g (o.six k a z h);
        seven = λ k a l b. matched_moved g (o.seven k a l b);
      }

-- ---- the parts of rule 7 and its bound

module _ (v : ℕ) (t : List ℕ) (k l : KindLine) where
  abbrev panels : ℕ
  panels = cell v t k.p l.p

  abbrev pair : ℕ → ℕ
  pair i = cell v t (way k i) (way l i)

  whole : panels lies_within unless (agree k l) (complement E) → ((i : ℕ) → i < width k → panels lies_within unless (agree k l && has (pair i) same) (complement E))
      → panels lies_within bound7 v t k l
  whole f g =
      said7 v t k l (λ d. lacks (agree k l) (λ a. d (agree_alike k l a)) f)
      (λ a i h m. lacks (agree k l && has (pair i) same) (λ b. T_not (has (pair i) same) m (T-and_right (agree k l) (has (pair i) same) b)) (g i h))
    where
      lacks : (b : Bool) → (T b → ⊥) → panels lies_within unless b (complement E) → Lacks panels same
      lacks b d f = lies_lacks panels same same_small (unless_out b panels (complement E) f (not_T b d))

  parts : panels lies_within bound7 v t k l
      → (panels lies_within unless (agree k l) (complement E)) × ((i : ℕ) → i < width k → panels lies_within unless (agree k l && has (pair i) same) (complement E))
  parts f = (
    unless_in (agree k l) panels (complement E) (λ d. lacks_lies panels same (lacks7 v t k l f (λ a e. T_not (agree k l) d (alike_agree k l a)))),
    (λ i h.
        unless_in (agree k l && has (pair i) same) panels (complement E)
        (λ d.
        lacks_lies panels same
        (lacks7 v t k l f (λ a e. T_not (agree k l && has (pair i) same) d (and_T (agree k l) (has (pair i) same) (alike_agree k l a) (each_at (width k) (λ i. has (pair i) same) e i h)))))),
  )

-- ---- what is owed, and the rules

module _ {v : ℕ} {ks : List KindLine} {m t : List ℕ} where
  -- where nothing that can be read is on the list, no rule strikes anything
  pub owed_idle : Owed v ks m t → ((p q : ℕ) → p < v → q < v → Off v m p q) → Mirrored v t → ((k : KindLine) → Memᴰ k ks → (k.p < v) × ((i : ℕ) → i < width k → way k i < v))
      → Idles v (rules_again v ks) t
  unfolding rules3 rules6 rules7
  owed_idle o off mirrored boards =
      all_append (Idle v t) (rules2 v) (mirrored_idle mirrored)
      (all_append (Idle v t) (rules6 v ks) (all_over (Idle v t) _ ks (λ k a. all_boards (Idle v t) v _ (λ z h. six k a z h)))
      (all_append (Idle v t) (rules7 v ks) (all_over (Idle v t) _ ks (λ k a. all_over (Idle v t) _ ks (λ l b. seven k a l b)))
      (all_boards (Idle v t) v _ (λ p hp. all_boards (Idle v t) v _ (λ q hq. all_boards (Idle v t) v _ (λ r hr. all_one (Idle v t) (three p q r hp hq hr)))))))
    where
      is_off : {p q a b : ℕ} → p < v → q < v → Is p q a b → Off v m a b
      is_off {p} {q} {a} {b} hp hq e = subst (λ (c : ℕ). Off v m c b) (sym e.0) (subst (λ (c : ℕ). Off v m p c) (sym e.1) (off p q hp hq))

      way_off : (k : KindLine) (z : ℕ) → z < v → ((i : ℕ) → i < width k → way k i < v) → {a b : ℕ} (i : ℕ) → i < width k → Is (way k i) z a b → Off v m a b
      way_off k z h hw i l e = is_off (hw i l) h e

      three : (p q r : ℕ) → p < v → q < v → r < v → Idle v t (through v p q r).rule
      three p q r hp hq hr =
          o.three p q r hp hq hr (λ a b e. ⊎_elim (is_off hp hq) (is_off hq hr) e)

      six : (k : KindLine) → Memᴰ k ks → (z : ℕ) → z < v → All (Idle v t) (rule6 v k z)
      six k a z h =
          let f = o.six k a z h in
          let (hp, hw) = boards k a in
          all_append (Idle v t) (lies k.p z (λ t. bound6 v t k z)) (all_one (Idle v t) (f.panel (λ a b e. way_off k z h hw e.0 e.1 e.2)))
          (all_ways (Idle v t) k _ (λ i l.
          all_one (Idle v t) (f.ways i l (λ a b e. ⊎_elim (λ e. is_off hp h e) (λ e. way_off k z h hw e.0 e.1 e.2.1) e))))

      seven : (k : KindLine) → Memᴰ k ks → (l : KindLine) → Memᴰ l ks → All (Idle v t) (rule7 v k l)
      seven k a l b =
          let f = o.seven k a l b in
          let (hp, hw) = boards k a in
          let (kp, kw) = boards l b in
          all_append (Idle v t) (lies k.p l.p (λ t. bound7 v t k l))
          (all_one (Idle v t)
          (whole v t k l (f.codes (λ a b e. absurd e))
          (λ i h. beside k l f hw kw i h)))
          (all_only (Idle v t) (agree k l) _ (λ e. all_ways (Idle v t) k _ (λ i h. all_one (Idle v t) (f.ways e i h (λ a b r. is_off hp kp r)))))
        where
          beside : (k l : KindLine) → Matched v k l m t → ((i : ℕ) → i < width k → way k i < v) → ((i : ℕ) → i < width l → way l i < v) → (i : ℕ) → i < width k
              → cell v t k.p l.p lies_within unless (agree k l && has (cell v t (way k i) (way l i)) same) (complement E)
          beside k l f hw kw i h = ⊎_elim alike apart' (T-decide (agree k l))
            where
              alike : T (agree k l) → cell v t k.p l.p lies_within unless (agree k l && has (cell v t (way k i) (way l i)) same) (complement E)
              alike e = f.panels i h (λ a b r. is_off (hw i h) (kw i (subst (λ (n : ℕ). i < n) (agree_alike k l e).1 h)) r)

              apart' : T (not (agree k l)) → cell v t k.p l.p lies_within unless (agree k l && has (cell v t (way k i) (way l i)) same) (complement E)
              apart' d =
                  unless_in (agree k l && has (cell v t (way k i) (way l i)) same) (cell v t k.p l.p) (complement E)
                  (λ z. unless_out (agree k l) (cell v t k.p l.p) (complement E) (f.codes (λ a b e. absurd e)) d)

  -- a table in which no rule strikes anything owes nothing
  pub idle_owed : Idles v (rules_again v ks) t → Owed v ks m t
  unfolding rules2 rules3 rules6 rules7
  idle_owed d =
      let d6 = append_right (Idle v t) (rules2 v) _ d in
      let d7 = append_right (Idle v t) (rules6 v ks) _ d6 in
      let d3 = append_right (Idle v t) (rules7 v ks) (rules3 v) d7 in
      record {
        three = λ p q r hp hq hr f. one_all (Idle v t) (boards_all (Idle v t) v _ (boards_all (Idle v t) v _ (boards_all (Idle v t) v _ d3 p hp) q hq) r hr);
        six = λ k a z h. fed k z (boards_all (Idle v t) v _ (over_all (Idle v t) _ ks (append_left (Idle v t) (rules6 v ks) _ d6) k a) z h);
        seven = λ k a l b. matched k l (over_all (Idle v t) _ ks (over_all (Idle v t) _ ks (append_left (Idle v t) (rules7 v ks) (rules3 v) d7) k a) l b);
      }
    where
      fed : (k : KindLine) (z : ℕ) → All (Idle v t) (rule6 v k z) → Fed v k z m t
      fed k z e =
          record {
            panel = λ f. one_all (Idle v t) (append_left (Idle v t) (lies k.p z (λ t. bound6 v t k z)) _ e);
            ways = λ i h f. one_all (Idle v t) (ways_all (Idle v t) k _ (append_right (Idle v t) (lies k.p z (λ t. bound6 v t k z)) _ e) i h);
          }

      matched : (k l : KindLine) → All (Idle v t) (rule7 v k l) → Matched v k l m t
      matched k l e =
          let both = parts v t k l (one_all (Idle v t) (append_left (Idle v t) (lies k.p l.p (λ t. bound7 v t k l)) _ e)) in
          record {
            codes = λ f. both.0;
            panels = λ i h f. both.1 i h;
            ways =
                λ a i h f.
                one_all (Idle v t)
                (ways_all (Idle v t) k _ (only_all (Idle v t) (agree k l) _ (append_right (Idle v t) (lies k.p l.p (λ t. bound7 v t k l)) _ e) a) i h);
          }
