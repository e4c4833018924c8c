-- A pair is taken off the list, and what reads it is visited: then what is owed is owed by the list that is left. Assumes nothing.
use mathlib.Core.Path.{◌≡◌, refl, sym, ap, ap₂, ◌∙◌, subst}
use mathlib.Core.Bool.{Bool, true, false, not, ◌&&◌}
use mathlib.Core.Logic.{⊎_elim, inl, inr}
use mathlib.Core.List.{List, Memᴰ}
use Prim.Native.Nat.{ℕ, suc, ◌+◌, ◌*◌, ◌^◌, ◌<◌}
use native.Mathlib.Omega.{arith}
use lib.Dec.{T, eqb}
use lib.ListN.{length, get_or, set, length-set}
use Rattle.rules.specs.Relations.{relations, same, E, has, set_to, set_of, opposite, complement, ◌lies_within◌, converse, compose}
use Rattle.rules.specs.Descriptions.{most_boards, KindLine}
use Rattle.rules.specs.Tables.{cell}
use Rattle.rules.specs.Arrangements.{way, width}
use Rattle.rules.specs.Closing.{unless, agree}
use Rattle.rules.proofs.Tests.{T-decide, T-ext, differ_T, and_T}
use Rattle.rules.proofs.Sets.{has_set_of, lies_eq, lies_trans, lies_full}
use Rattle.rules.proofs.Composition.{converse_mono, converse_compose}
use Rattle.rules.proofs.Rules.{same_small, unless_in, unless_out, agree_alike, alike_agree, says7'', said7''}
use Rattle.rules.proofs.Strikes.{set_each}
use Rattle.bits.specs.Sets.{removed}
use Rattle.bits.proofs.Laws.{has_removed, removed_small, ones_removed}
use Rattle.moves.specs.Watches.{Watch, Honest, Is, through, feeds, feeds', apart, matches, matches'}
use Rattle.moves.specs.Moves.{Marks, Off, marks, Mutual, Moved, Tended, Seen, FedFor, MatchedFor, Owed}
use Rattle.moves.proofs.Moving.{turned_E, off_mirror, off_both, off_neither, marks_set}
use Rattle.moves.proofs.Reading.{Told, through_honest, through_told, feeds_honest, feeds_told, feeds'_honest, feeds'_told, apart_honest, matches_honest, matches_told, matches'_honest, matches'_told}
use Rattle.sweeps.specs.Sweeps.{ThroughEach}

-- ---- the list without the pair

module _ (v p q : ℕ) (m : List ℕ) (l : Marks v m) (hp : p < most_boards) (on : T (has (get_or m p 0) q)) where
  abbrev pub popped : List ℕ
  popped = set m p (removed (get_or m p 0) q)

  inside_words : p < length m
  inside_words = subst (λ (n : ℕ). p < n) (sym l.words) hp

  pub popped_list : Marks v popped
  popped_list =
      record { words = length-set m p (removed (get_or m p 0) q) ∙ l.words; small = set_each (λ j x. x < 2 ^ v) m p (removed (get_or m p 0) q) l.small (removed_small v (get_or m p 0) q (l.small p)) }

  -- one mark less
  pub popped_fewer : suc (marks popped) ≡ marks m
  popped_fewer = omega (arith, marks_set m p (removed (get_or m p 0) q) inside_words, ones_removed (get_or m p 0) q on)

  -- what another pair had it still has
  popped_has : (a b : ℕ) → (Is p q a b → ⊥) → T (has (get_or m a 0) b) → T (has (get_or popped a 0) b)
  popped_has a b =
      set_each (λ j x. (Is p q j b → ⊥) → T (has (get_or m j 0) b) → T (has x b)) m p (removed (get_or m p 0) q) (λ j d e. e)
      (λ d e.
      subst T (sym (has_removed (get_or m p 0) q b on))
      (and_T (has (get_or m p 0) b) (not (eqb q b)) e (differ_T (λ f. d (refl, sym f))))) a

  pub popped_off : {a b : ℕ} → (Is p q a b → ⊥) → (Is q p a b → ⊥) → Off v popped a b → Off v m a b
  popped_off {a} {b} d e o =
      let (f, g) = off_both o in
      off_neither o.first o.second (λ h. f (popped_has a b d h)) (λ h. g (popped_has b a (λ r. e (r.1, r.0)) h))

-- ---- one rule

module _ {C : List ℕ → Type 0} {v p q : ℕ} {m t w n : List ℕ} (l : Marks v m) (hp : p < most_boards) (on : T (has (get_or m p 0) q))
    (g : Moved C v t (popped v p q m l hp on) w n) where
  tended_popped : (x : Watch) → Honest v x → Told (x.Reads p q) → Told (x.Reads q p) → Seen v p q n w x → Seen v q p n w x → Tended v m t x → Tended v n w x
  tended_popped x h told told' seen seen' f = ⊎_elim seen (λ d. ⊎_elim seen' (λ d'. other d d') told') told
    where
      other : (x.Reads p q → ⊥) → (x.Reads q p → ⊥) → Tended v n w x
      other d d' o =
          lies_trans (g.inside.each (v * x.rule.row + x.rule.column))
          (subst (λ (y : ℕ). cell v t x.rule.row x.rule.column lies_within y) (h t w (λ a b r. sym (g.off a b (o a b r)).1))
          (f (λ a b r.
          popped_off v p q m l hp on (λ e. d (subst (λ (c : ℕ). x.Reads c q) e.0 (subst (λ (c : ℕ). x.Reads a c) e.1 r)))
          (λ e. d' (subst (λ (c : ℕ). x.Reads c p) e.0 (subst (λ (c : ℕ). x.Reads a c) e.1 r))) (g.off a b (o a b r)).0)))

-- ---- rules seen from the other side

-- what a set may keep seen from the other side
turned_unless : (b : Bool) (x m : ℕ) → converse m lies_within m → x lies_within unless b m → converse x lies_within unless b m
turned_unless true x m f h = lies_full (converse x)
turned_unless false x m f h = lies_trans (converse_mono h) f

turned_apart : converse (complement E) lies_within complement E
unfolding relations has set_to set_of opposite converse complement
turned_apart = lies_eq refl

turned_same : (x : ℕ) → has (converse x) same ≡ has x same
unfolding opposite converse
turned_same x = has_set_of (λ r. has x (opposite r)) same same_small

agree_turned : (k l : KindLine) → T (agree k l) → T (agree l k)
agree_turned k l a = let (e, f) = agree_alike k l a in alike_agree l k (sym e, sym f)

module _ {v : ℕ} {n w : List ℕ} (u : Mutual v w) where
  is_back : {p q x y : ℕ} → Off v n q p → Is p q x y → Off v n x y
  is_back {p} {q} {x} {y} o e = subst (λ (z : ℕ). Off v n z y) (sym e.0) (subst (λ (z : ℕ). Off v n p z) (sym e.1) (off_mirror o))

  through_turned : {a b c : ℕ} → a < v → b < v → c < v → Tended v n w (through v c b a) → Tended v n w (through v a b c)
  through_turned {a} {b} {c} ha hb hc f o =
      let back = f (λ x y r. ⊎_elim (λ e. read_back (inr (refl, refl)) e) (λ e. read_back (inl (refl, refl)) e) r) in
      subst (λ (x : ℕ). x lies_within compose (cell v w a b) (cell v w b c)) (sym (u.mirrored c a hc ha))
      (subst (λ (x : ℕ). converse (cell v w c a) lies_within x)
      (converse_compose (cell v w c b) (cell v w b a) (u.ready.table.small _) (u.ready.table.small _) ∙ ap₂ compose (sym (u.mirrored b a hb ha)) (sym (u.mirrored c b hc hb)))
      (converse_mono back))
    where
      read_back : {p q x y : ℕ} → (through v a b c).Reads q p → Is p q x y → Off v n x y
      read_back {p} {q} {x} {y} r e = is_back (o q p r) e

  module _ (k l : KindLine) (i : ℕ) (kp : k.p < v) (lp : l.p < v) (kw : way k i < v) (lw : way l i < v) where
    matches_turned : T (agree k l) → Tended v n w (matches v l k i) → Tended v n w (matches v k l i)
    matches_turned a f o =
        let back = f (λ x y r. is_back (o (way k i) (way l i) (refl, refl)) r) in
        subst (λ (x : ℕ). x lies_within unless (agree k l && has (cell v w (way k i) (way l i)) same) (complement E)) (sym (u.mirrored l.p k.p lp kp))
        (turned_unless (agree k l && has (cell v w (way k i) (way l i)) same) (cell v w l.p k.p) (complement E) turned_apart
        (subst (λ (b : Bool). cell v w l.p k.p lies_within unless b (complement E)) same_test back))
      where
        same_test : (agree l k && has (cell v w (way l i) (way k i)) same) ≡ (agree k l && has (cell v w (way k i) (way l i)) same)
        same_test =
            ap₂ ◌&&◌ (T-ext (agree l k) (agree k l) (λ e. a) (λ e. agree_turned k l a))
            (ap (λ (x : ℕ). has x same) (u.mirrored (way k i) (way l i) kw lw) ∙ turned_same (cell v w (way k i) (way l i)))

    matches'_turned : Tended v n w (matches' v l k i) → Tended v n w (matches' v k l i)
    matches'_turned f o =
        said7'' v w k l i
        (λ h.
        subst (λ (x : ℕ). x lies_within E) (sym (u.mirrored (way l i) (way k i) lw kw))
        (lies_trans
        (converse_mono
        (says7'' v w l k i (f (λ x y r. is_back (o k.p l.p (refl, refl)) r))
        (subst (λ (x : ℕ). x lies_within E) (sym (u.mirrored k.p l.p kp lp)) (lies_trans (converse_mono h) (lies_eq turned_E))))) (lies_eq turned_E)))

-- ---- what is owed

-- the boards of kind lines are boards
abbrev pub OnBoards : ℕ → List KindLine → Type 0
OnBoards v ks = (k : KindLine) → Memᴰ k ks → (k.p < v) × ((i : ℕ) → i < width k → way k i < v)

module _ {C : List ℕ → Type 0} {v p q : ℕ} {ks : List KindLine} {m t w n : List ℕ} (l : Marks v m) (hp : p < most_boards) (on : T (has (get_or m p 0) q))
    (g : Moved C v t (popped v p q m l hp on) w n) (p-below : p < v) (q-below : q < v) (boards : OnBoards v ks) where
  pub owed_popped : Owed v ks m t → ThroughEach v p q n w → ThroughEach v q p n w → FedFor v ks p q n w → FedFor v ks q p n w → MatchedFor v ks p q n w → Owed v ks n w
  owed_popped o pq qp f6 f6' f7 =
      record {
        three = λ a b c ha hb hc. tended_popped l hp on g (through v a b c) (through_honest v a b c) (through_told v a b c p q) (through_told v a b c q p) (three ha hb hc pq qp) (three ha hb hc qp pq) (o.three a b c ha hb hc);
        six =
            λ k a z h.
            record {
              panel = tended_popped l hp on g (feeds v k z) (feeds_honest v k z) (feeds_told v k z p q) (feeds_told v k z q p) (panel f6 k a) (panel f6' k a) (o.six k a z h).panel;
              ways = λ i b. tended_popped l hp on g (feeds' v k i z) (feeds'_honest v k i z) (feeds'_told v k i z p q) (feeds'_told v k i z q p) (ways f6 k a i b) (ways f6' k a i b) ((o.six k a z h).ways i b);
            };
        seven =
            λ k a j b.
            record {
              codes = codes k a j b;
              panels = λ i h. tended_popped l hp on g (matches v k j i) (matches_honest v k j i) (matches_told v k j i p q) (matches_told v k j i q p) (f7.panels k a j b i h) (panels k a j b i h) ((o.seven k a j b).panels i h);
              ways = λ e i h. tended_popped l hp on g (matches' v k j i) (matches'_honest v k j i) (matches'_told v k j i p q) (matches'_told v k j i q p) (f7.ways k a j b e i h) (joins k a j b e i h) ((o.seven k a j b).ways e i h);
            };
      }
    where
      three : {a b c d e : ℕ} → a < v → b < v → c < v → ThroughEach v d e n w → ThroughEach v e d n w → Seen v d e n w (through v a b c)
      three {a} {b} {c} {d} {e} ha hb hc de ed r = ⊎_elim first second r
        where
          first : Is a b d e → Tended v n w (through v a b c)
          first i = subst (λ (x : ℕ). Tended v n w (through v x b c)) i.0 (subst (λ (y : ℕ). Tended v n w (through v d y c)) i.1 (de c hc))

          second : Is b c d e → Tended v n w (through v a b c)
          second i = through_turned g.fit ha hb hc (subst (λ (x : ℕ). Tended v n w (through v c x a)) i.0 (subst (λ (y : ℕ). Tended v n w (through v y d a)) i.1 (ed a ha)))

      panel : {d e z : ℕ} → FedFor v ks d e n w → (k : KindLine) → Memᴰ k ks → Seen v d e n w (feeds v k z)
      panel {d} {e} {z} f k a r =
          let same : e ≡ z = r.2.1 in
          subst (λ (y : ℕ). Tended v n w (feeds v k y)) same (f.panel k a (subst (λ (y : ℕ). (feeds v k y).Reads d e) (sym same) r))

      ways : {d e z : ℕ} → FedFor v ks d e n w → (k : KindLine) → Memᴰ k ks → (i : ℕ) → i < width k → Seen v d e n w (feeds' v k i z)
      ways {d} {e} {z} f k a i b r =
          let same : e ≡ z = ⊎_elim (λ x. x.1) (λ x. x.2.1.1) r in
          subst (λ (y : ℕ). Tended v n w (feeds' v k i y)) same (f.ways k a i b (subst (λ (y : ℕ). (feeds' v k i y).Reads d e) (sym same) r))

      codes : (k : KindLine) → Memᴰ k ks → (j : KindLine) → Memᴰ j ks → Tended v n w (apart v k j)
      codes k a j b = tended_popped l hp on g (apart v k j) (apart_honest v k j) (inr (λ z. z)) (inr (λ z. z)) (λ z. absurd z) (λ z. absurd z) (o.seven k a j b).codes

      panels : (k : KindLine) → Memᴰ k ks → (j : KindLine) → Memᴰ j ks → (i : ℕ) → i < width k → Seen v q p n w (matches v k j i)
      panels k a j b i h r = ⊎_elim alike differ (T-decide (agree k j))
        where
          alike : T (agree k j) → Tended v n w (matches v k j i)
          alike e =
              let h' : i < width j = subst (λ (x : ℕ). i < x) (agree_alike k j e).1 h in
              matches_turned g.fit k j i (boards k a).0 (boards j b).0 ((boards k a).1 i h) ((boards j b).1 i h') e (f7.panels j b k a i h' (r.1, r.0))

          differ : T (not (agree k j)) → Tended v n w (matches v k j i)
          differ d x =
              unless_in (agree k j && has (cell v w (way k i) (way j i)) same) (cell v w k.p j.p) (complement E)
              (λ z. unless_out (agree k j) (cell v w k.p j.p) (complement E) (codes k a j b (λ a b e. absurd e)) d)

      joins : (k : KindLine) → Memᴰ k ks → (j : KindLine) → Memᴰ j ks → T (agree k j) → (i : ℕ) → i < width k → Seen v q p n w (matches' v k j i)
      joins k a j b e i h r =
          let h' : i < width j = subst (λ (x : ℕ). i < x) (agree_alike k j e).1 h in
          matches'_turned g.fit k j i (boards k a).0 (boards j b).0 ((boards k a).1 i h) ((boards j b).1 i h') (f7.ways j b k a (agree_turned k j e) i h' (r.1, r.0))
