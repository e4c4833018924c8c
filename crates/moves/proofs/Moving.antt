-- What a strike from both sides does to a table and to the list, whatever is to be kept; and moves one after the other. Assumes nothing.
use mathlib.Core.Path.{◌≡◌, refl, sym, ap, ◌∙◌, subst}
use mathlib.Core.Bool.{Bool, true, false, not}
use mathlib.Core.Logic.{⊎_elim}
use mathlib.Core.List.{List, [], ◌∷◌}
use Prim.Native.Nat.{ℕ, zero, suc, ◌+◌, ◌*◌, ◌^◌, ◌≤◌, ◌<◌}
use native.Mathlib.Nat.{mul-le-mul_left, mul-suc, not-suc-le-zero, le_of_suc-le-suc}
use native.Mathlib.Omega.{arith}
use borrow.Author.Tests.{eq-eqb}
use lib.Dec.{T, eqb, eqb→eq, eqb_refl, not_T, T_not}
use lib.Count.{ones}
use lib.ListN.{length, get_or, set, length-set}
use lib.Seq.{get_or-set_same, get_or-set_other}
use Rattle.rules.specs.Relations.{same, E, has, set_limit, opposite, ◌lies_within◌, converse}
use Rattle.rules.specs.Descriptions.{most_boards}
use Rattle.rules.specs.Tables.{cell, Table, Inside, emptied, total}
use Rattle.rules.proofs.Tests.{order_cases, T-decide, T-differ, T-or, or_T_left, or_T_right}
use Rattle.rules.proofs.Sets.{lies_refl, lies_eq, lies_trans, lies_one, meet_small, meet_left, meet_right, meet_largest}
use Rattle.rules.proofs.Rules.{same_small}
use Rattle.rules.proofs.Composition.{converse_small, converse_mono, converse_converse, converse_single, converse_zero}
use Rattle.rules.proofs.Inside.{inside_refl, inside_trans, total_tight, emptied_in, emptied_out}
use Rattle.rules.proofs.Strikes.{set_each}
use Rattle.passes.specs.Passes.{Filled}
use Rattle.bits.specs.Sets.{added, added_at}
use Rattle.bits.proofs.Laws.{has_added, added_small, ones_added}
use Rattle.moves.specs.Watches.{Watch, Honest}
use Rattle.std.specs.Prelude.{Ok, Err}
use Rattle.moves.specs.declared.Emptied.{Emptied}
use Rattle.moves.specs.Moves.{Marks, listed, Off, marks, Mirrored, Mutual, written_both, noted, kept_of, Struck, Moved, Tended, Lost}
use Rattle.moves.proofs.Striking.{written_here, written_there, written_back, put_some, put_lost}

-- two pairs of boards with one place are one pair
pub place_one : (v p q a b : ℕ) → q < v → b < v → v * p + q ≡ v * a + b → (p ≡ a) × (q ≡ b)
place_one v p q a b hq hb e = ⊎_elim (λ l. absurd (less p q a b hq l e)) (⊎_elim (λ l. absurd (less a b p q hb l (sym e))) one) (order_cases p a)
  where
    less : (p q a b : ℕ) → q < v → p < a → v * p + q ≡ v * a + b → ⊥
    less p q a b hq l e = let z : ⊥ = omega (arith, mul-le-mul_left v l, mul-suc v p) in z

    one : p ≡ a → (p ≡ a) × (q ≡ b)
    one f = let g : v * p ≡ v * a = ap (λ (x : ℕ). v * x) f in (f, omega arith)

-- E seen from the other side
pub turned_E : converse E ≡ E
unfolding opposite
turned_E = converse_single same same_small

-- the marks of a list with one word written
pub marks_set : (m : List ℕ) (p x : ℕ) → p < length m → marks (set m p x) + ones (get_or m p 0) ≡ marks m + ones x
unfolding marks
marks_set [] p x h = absurd (not-suc-le-zero h)
marks_set (y ∷ ys) zero x h = omega arith
marks_set (y ∷ ys) (suc p) x h = omega (arith, marks_set ys p x (le_of_suc-le-suc h))

-- ---- one strike

module _ (v p q b : ℕ) (t : List ℕ) where
  abbrev kept : ℕ
  kept = kept_of v t p q b

  abbrev struck : List ℕ
  struck = written_both v t p q kept

  abbrev half : List ℕ
  half = set t (v * p + q) kept

  long : length struck ≡ length t
  long = length-set half (v * q + p) (converse kept) ∙ length-set t (v * p + q) kept

  -- what holds of each cell, and of what is written, holds of each cell afterwards
  both_each : (P : ℕ → ℕ → Type 0) → ((j : ℕ) → P j (get_or t j 0)) → P (v * p + q) kept → P (v * q + p) (converse kept) → (j : ℕ) → P j (get_or struck j 0)
  both_each P f g h = set_each P half (v * q + p) (converse kept) (set_each P t (v * p + q) kept f g) h

  -- a cell that is neither of the two
  pub both_other : (k : ℕ) → (k ≡ v * p + q → ⊥) → (k ≡ v * q + p → ⊥) → get_or struck k 0 ≡ get_or t k 0
  both_other k f g = get_or-set_other half (v * q + p) k (converse kept) 0 g ∙ get_or-set_other t (v * p + q) k kept 0 f

  pub both_inside : converse kept lies_within cell v t q p → Inside struck t
  both_inside f =
      record { cells = long; each = both_each (λ j x. x lies_within get_or t j 0) (λ j. lies_refl (get_or t j 0)) (meet_left (cell v t p q) b) f }

  pub both_table : Table v t → Table v struck
  both_table r =
      record {
        cells = long ∙ r.cells;
        small = both_each (λ j x. x < set_limit) r.small (meet_small (cell v t p q) b) (converse_small kept);
      }

  pub both_keeps : (x : List ℕ) → cell v x p q lies_within kept → cell v x q p lies_within converse (cell v x p q) → Inside x t → Inside x struck
  both_keeps x f g i =
      record { cells = i.cells ∙ sym long; each = both_each (λ j y. get_or x j 0 lies_within y) i.each f (lies_trans g (converse_mono f)) }

  module _ (u : Mutual v t) (hp : p < v) (hq : q < v) where
    mutual_inside : Inside struck t
    mutual_inside =
        both_inside (subst (λ (x : ℕ). converse kept lies_within x) (sym (u.mirrored p q hp hq)) (converse_mono (meet_left (cell v t p q) b)))

    -- where nothing changes
    both_same : kept ≡ cell v t p q → struck ≡ t
    both_same c = written_back v p q t (sym c) (u.mirrored p q hp hq ∙ ap converse (sym c))

    -- the cell still has a relation
    module _ (some : kept ≡ 0 → ⊥) where
      turned_some : converse kept ≡ 0 → ⊥
      turned_some e = some (sym (converse_converse kept (meet_small (cell v t p q) b)) ∙ ap converse e ∙ converse_zero)

      -- a board beside itself keeps E
      itself : p ≡ q → kept ≡ E
      itself e =
          lies_one same (meet_small (cell v t p q) b) same_small
          (lies_trans (meet_left (cell v t p q) b) (lies_eq (ap (λ (y : ℕ). cell v t p y) (sym e) ∙ u.selves p hp))) some

      there : cell v struck q p ≡ converse kept
      there = written_there kept u.ready hp hq

      here : cell v struck p q ≡ kept
      here = ⊎_elim one other (T-decide (eqb (v * p + q) (v * q + p)))
        where
          one : T (eqb (v * p + q) (v * q + p)) → cell v struck p q ≡ kept
          one d =
              let e = eqb→eq (v * p + q) (v * q + p) d in
              let same : p ≡ q = (place_one v p q q p hq hp e).0 in
              ap (λ (k : ℕ). get_or struck k 0) e ∙ there ∙ ap converse (itself same) ∙ turned_E ∙ sym (itself same)

          other : T (not (eqb (v * p + q) (v * q + p))) → cell v struck p q ≡ kept
          other d = written_here kept u.ready hp hq (T-differ d)

      both_mirrored : Mirrored v struck
      both_mirrored a b' ha hb =
          ⊎_elim first (λ d. ⊎_elim second (other d) (T-decide (eqb (v * a + b') (v * q + p)))) (T-decide (eqb (v * a + b') (v * p + q)))
        where
          first : T (eqb (v * a + b') (v * p + q)) → cell v struck b' a ≡ converse (cell v struck a b')
          first d =
              let (e, f) = place_one v a b' p q hb hq (eqb→eq (v * a + b') (v * p + q) d) in
              subst (λ (y : ℕ). cell v struck y a ≡ converse (cell v struck a y)) (sym f)
              (subst (λ (y : ℕ). cell v struck q y ≡ converse (cell v struck y q)) (sym e) (there ∙ ap converse (sym here)))

          second : T (eqb (v * a + b') (v * q + p)) → cell v struck b' a ≡ converse (cell v struck a b')
          second d =
              let (e, f) = place_one v a b' q p hb hp (eqb→eq (v * a + b') (v * q + p) d) in
              subst (λ (y : ℕ). cell v struck y a ≡ converse (cell v struck a y)) (sym f)
              (subst (λ (y : ℕ). cell v struck p y ≡ converse (cell v struck y p)) (sym e)
              (here ∙ sym (converse_converse kept (meet_small (cell v t p q) b)) ∙ ap converse (sym there)))

          other : T (not (eqb (v * a + b') (v * p + q))) → T (not (eqb (v * a + b') (v * q + p))) → cell v struck b' a ≡ converse (cell v struck a b')
          other d d' =
              both_other (v * b' + a) (λ e. let (f, g) = place_one v b' a p q ha hq e in T_not (eqb (v * a + b') (v * q + p)) d' (back g f))
              (λ e. let (f, g) = place_one v b' a q p ha hp e in T_not (eqb (v * a + b') (v * p + q)) d (back g f))
              ∙ u.mirrored a b' ha hb ∙ ap converse (sym (both_other (v * a + b') (T-differ d) (T-differ d')))
            where
              back : {c d : ℕ} → a ≡ c → b' ≡ d → T (eqb (v * a + b') (v * c + d))
              back {c} {d} f g = subst (λ (k : ℕ). T (eqb (v * a + b') (v * k + d))) f (subst (λ (k : ℕ). T (eqb (v * a + b') (v * a + k))) g (eqb_refl (v * a + b')))

      both_filled : Filled struck
      both_filled = not_T (emptied struck) (λ e. from (emptied_out struck e))
        where
          each : (j : ℕ) → j < length t → get_or struck j 0 ≡ 0 → ⊥
          each = both_each (λ j x. j < length t → x ≡ 0 → ⊥) (λ j h e. T_not (emptied t) u.filled (emptied_in t j h e)) (λ h. some) (λ h. turned_some)

          from : (k : ℕ) × (k < length struck) × (get_or struck k 0 ≡ 0) → ⊥
          from m = each m.0 (subst (λ (n : ℕ). m.0 < n) long m.1) m.2

      both_selves : (a : ℕ) → a < v → cell v struck a a ≡ E
      both_selves a ha = ⊎_elim one (λ d. ⊎_elim two (other d) (T-decide (eqb (v * a + a) (v * q + p)))) (T-decide (eqb (v * a + a) (v * p + q)))
        where
          one : T (eqb (v * a + a) (v * p + q)) → cell v struck a a ≡ E
          one d =
              let e = eqb→eq (v * a + a) (v * p + q) d in
              let (f, g) = place_one v a a p q ha hq e in
              ap (λ (k : ℕ). get_or struck k 0) e ∙ here ∙ itself (sym f ∙ g)

          two : T (eqb (v * a + a) (v * q + p)) → cell v struck a a ≡ E
          two d =
              let e = eqb→eq (v * a + a) (v * q + p) d in
              let (f, g) = place_one v a a q p ha hp e in
              let same : p ≡ q = sym g ∙ f in
              ap (λ (k : ℕ). get_or struck k 0) (e ∙ ap (λ (y : ℕ). v * y + p) (sym same) ∙ ap (λ (y : ℕ). v * p + y) same) ∙ here ∙ itself same

          other : T (not (eqb (v * a + a) (v * p + q))) → T (not (eqb (v * a + a) (v * q + p))) → cell v struck a a ≡ E
          other d d' = both_other (v * a + a) (T-differ d) (T-differ d') ∙ u.selves a ha

      both_mutual : Mutual v struck
      both_mutual =
          record { ready = record { boards = u.ready.boards; table = both_table u.ready.table }; mirrored = both_mirrored; selves = both_selves; filled = both_filled }

-- ---- pairs on the list

pub off_mirror : {v : ℕ} {m : List ℕ} {p q : ℕ} → Off v m p q → Off v m q p
off_mirror {v} {m} {p} {q} o =
    record {
      first = o.second;
      second = o.first;
      unlisted =
          not_T (listed m q p)
          (λ e.
          T_not (listed m p q) o.unlisted
          (⊎_elim (or_T_right (has (get_or m p 0) q) (has (get_or m q 0) p)) (or_T_left (has (get_or m p 0) q) (has (get_or m q 0) p)) (T-or (has (get_or m q 0) p) (has (get_or m p 0) q) e)));
    }

pub off_both : {v : ℕ} {m : List ℕ} {p q : ℕ} → Off v m p q → (T (has (get_or m p 0) q) → ⊥) × (T (has (get_or m q 0) p) → ⊥)
off_both {v} {m} {p} {q} o =
    (λ e. T_not (listed m p q) o.unlisted (or_T_left (has (get_or m p 0) q) (has (get_or m q 0) p) e), λ e. T_not (listed m p q) o.unlisted (or_T_right (has (get_or m p 0) q) (has (get_or m q 0) p) e))

pub off_neither : {v : ℕ} {m : List ℕ} {p q : ℕ} → p < v → q < v → (T (has (get_or m p 0) q) → ⊥) → (T (has (get_or m q 0) p) → ⊥) → Off v m p q
off_neither {v} {m} {p} {q} hp hq f g =
    record { first = hp; second = hq; unlisted = not_T (listed m p q) (λ e. ⊎_elim f g (T-or (has (get_or m p 0) q) (has (get_or m q 0) p) e)) }

module _ (v p q : ℕ) (m : List ℕ) (l : Marks v m) (hv : v ≤ most_boards) (hp : p < v) (hq : q < v) where
  abbrev more : List ℕ
  more = added_at m p q

  inside_words : p < length m
  inside_words = let e : length m ≡ most_boards = l.words in omega arith

  pub noted_list : Marks v more
  noted_list =
      record { words = length-set m p (added (get_or m p 0) q) ∙ l.words; small = set_each (λ j x. x < 2 ^ v) m p (added (get_or m p 0) q) l.small (added_small v (get_or m p 0) q (l.small p) hq) }

  -- what a word had it still has
  noted_has : (a c : ℕ) → T (has (get_or m a 0) c) → T (has (get_or more a 0) c)
  noted_has a c =
      set_each (λ j x. T (has (get_or m j 0) c) → T (has x c)) m p (added (get_or m p 0) q) (λ j e. e)
      (λ e. subst T (sym (has_added (get_or m p 0) q c)) (or_T_left (has (get_or m p 0) c) (eqb q c) e)) a

  pub noted_here : T (has (get_or more p 0) q)
  noted_here =
      subst (λ (x : ℕ). T (has x q)) (sym (get_or-set_same m p (added (get_or m p 0) q) 0 inside_words))
      (subst T (sym (has_added (get_or m p 0) q q)) (or_T_right (has (get_or m p 0) q) (eqb q q) (eqb_refl q)))

  pub noted_off : {a c : ℕ} → Off v more a c → Off v m a c × (v * a + c ≡ v * p + q → ⊥) × (v * a + c ≡ v * q + p → ⊥)
  noted_off {a} {c} o =
      let (f, g) = off_both o in (
        off_neither o.first o.second (λ e. f (noted_has a c e)) (λ e. g (noted_has c a e)),
        (λ e. let (x, y) = place_one v a c p q o.second hq e in f (subst (λ (k : ℕ). T (has (get_or more k 0) c)) (sym x) (subst (λ (k : ℕ). T (has (get_or more p 0) k)) (sym y) noted_here))),
        (λ e. let (x, y) = place_one v a c q p o.second hp e in g (subst (λ (k : ℕ). T (has (get_or more k 0) a)) (sym y) (subst (λ (k : ℕ). T (has (get_or more p 0) k)) (sym x) noted_here))),
      )

  noted_few : marks more ≤ suc (marks m)
  noted_few = omega (arith, marks_set m p (added (get_or m p 0) q) inside_words, ones_added (get_or m p 0) q)

-- ---- moves

module _ {C : List ℕ → Type 0} {v : ℕ} where
  -- nothing is done
  pub moved_none : {t m : List ℕ} → Mutual v t → Marks v m → Moved C v t m t m
  moved_none {t} u l = record { fit = u; inside = inside_refl t; keeps = λ x c i. i; list = l; off = λ p q o. (o, refl); fewer = omega arith }

  -- one after the other
  pub moved_then : {t m u k w n : List ℕ} → Moved C v t m u k → Moved C v u k w n → Moved C v t m w n
  moved_then {t} {m} {u} {k} {w} {n} f g =
      record {
        fit = g.fit;
        inside = inside_trans g.inside f.inside;
        keeps = λ x c i. g.keeps x c (f.keeps x c i);
        list = g.list;
        off = λ p q o. let (d, e) = g.off p q o in let (d', e') = f.off p q d in (d', e ∙ e');
        fewer = let a : 2 * total u + marks k ≤ 2 * total t + marks m = f.fewer in let b : 2 * total w + marks n ≤ 2 * total u + marks k = g.fewer in omega arith;
      }

  pub lost_then : {t m u k : List ℕ} → Moved C v t m u k → Lost C v u → Lost C v t
  lost_then f g x h c i = g x h c (f.keeps x c i)

  -- A strike at (p, q) by the set b, if every table that is to be kept lies within b there and is turned.
  module _ {p q b : ℕ} {t m w n : List ℕ} (u : Mutual v t) (l : Marks v m) (hp : p < v) (hq : q < v)
      (c : (x : List ℕ) → C x → (cell v x p q lies_within b) × (cell v x q p lies_within converse (cell v x p q))) where
    pub strike_moved : Struck v p q b t m w n (Ok tt) → Moved C v t m w n
    strike_moved s = go (eqb (kept_of v t p q b) (cell v t p q)) refl
      where
        some : kept_of v t p q b ≡ 0 → ⊥
        some = put_some s

        go : (z : Bool) → eqb (kept_of v t p q b) (cell v t p q) ≡ z → Moved C v t m w n
        go true e =
            let f : kept_of v t p q b ≡ cell v t p q = eqb→eq (kept_of v t p q b) (cell v t p q) (subst T (sym e) tt) in
            let same : t ≡ w = sym (s.cells ∙ both_same v p q b t u hp hq f) in
            let kept : m ≡ n = sym (s.list ∙ ap (λ (z : Bool). noted z m p q) e) in
            subst (λ (y : List ℕ). Moved C v t m y n) same (subst (λ (k : List ℕ). Moved C v t m t k) kept (moved_none u l))
        go false e =
            subst (λ (y : List ℕ). Moved C v t m y n) (sym s.cells) (subst (λ (k : List ℕ). Moved C v t m (struck v p q b t) k) (sym (s.list ∙ ap (λ (z : Bool). noted z m p q) e)) changed)
          where
            less : total (struck v p q b t) < total t
            less = ⊎_elim (λ x. x) (⊎_elim (λ x. absurd (unchanged (omega arith))) (λ x. absurd (unchanged (omega arith)))) (order_cases (total (struck v p q b t)) (total t))
              where
                unchanged : total t ≤ total (struck v p q b t) → ⊥
                unchanged k =
                    let same = total_tight (both_table v p q b t u.ready.table) u.ready.table (mutual_inside v p q b t u hp hq) k in
                    let eq : kept_of v t p q b ≡ cell v t p q = sym (here v p q b t u hp hq some) ∙ ap (λ (y : List ℕ). cell v y p q) same in
                    subst T (sym (eq-eqb _ _ eq) ∙ e) tt

            changed : Moved C v t m (struck v p q b t) (added_at m p q)
            changed =
                record {
                  fit = both_mutual v p q b t u hp hq some;
                  inside = mutual_inside v p q b t u hp hq;
                  keeps = λ x d i. both_keeps v p q b t x (meet_largest (i.each (v * p + q)) (c x d).0) (c x d).1 i;
                  list = noted_list v p q m l u.ready.boards hp hq;
                  off = λ a d o. let (f, g, h) = noted_off v p q m l u.ready.boards hp hq o in (f, both_other v p q b t (v * a + d) g h);
                  fewer = omega (arith, less, noted_few v p q m l u.ready.boards hp hq);
                }

    pub strike_lost : {d : Emptied} → Struck v p q b t m w n (Err d) → Lost C v t
    strike_lost s x h d i = put_lost s hp hq h (meet_largest (i.each (v * p + q)) (c x d).0)

    pub strike_within : Struck v p q b t m w n (Ok tt) → cell v w p q lies_within b
    strike_within s =
        subst (λ (y : List ℕ). cell v y p q lies_within b) (sym s.cells)
        (subst (λ (y : ℕ). y lies_within b) (sym (here v p q b t u hp hq (put_some s))) (meet_right (cell v t p q) b))

  -- ---- rules that are tended

  module _ {t m w n : List ℕ} (g : Moved C v t m w n) (x : Watch) (h : Honest v x) where
    unread : ((a b : ℕ) → x.Reads a b → Off v n a b) → x.rule.bound t ≡ x.rule.bound w
    unread f = h t w (λ a b r. sym (g.off a b (f a b r)).1)

    -- a rule that was tended stays so
    pub tended_moved : Tended v m t x → Tended v n w x
    tended_moved f o =
        lies_trans (g.inside.each (v * x.rule.row + x.rule.column))
        (subst (λ (y : ℕ). cell v t x.rule.row x.rule.column lies_within y) (unread o) (f (λ a b r. (g.off a b (o a b r)).0)))

    -- a rule that has struck is tended: what its bound reads has not moved, or is on the list
    pub tended_struck : cell v w x.rule.row x.rule.column lies_within x.rule.bound t → Tended v n w x
    tended_struck f o = subst (λ (y : ℕ). cell v w x.rule.row x.rule.column lies_within y) (unread o) f

  -- nothing more is to be kept
  pub moved_as : {D : List ℕ → Type 0} {t m w n : List ℕ} → ((x : List ℕ) → D x → C x) → Moved C v t m w n → Moved D v t m w n
  moved_as f g = record { fit = g.fit; inside = g.inside; keeps = λ x d i. g.keeps x (f x d) i; list = g.list; off = g.off; fewer = g.fewer }

  pub lost_as : {D : List ℕ → Type 0} {t : List ℕ} → ((x : List ℕ) → D x → C x) → Lost C v t → Lost D v t
  lost_as f g x h d i = g x h (f x d) i

  -- what is to be kept may be taken to lie inside the table
  pub moved_inside : {t m w n : List ℕ} → Moved (λ x. Inside x t × C x) v t m w n → Moved C v t m w n
  moved_inside g = record { fit = g.fit; inside = g.inside; keeps = λ x c i. g.keeps x (i, c) i; list = g.list; off = g.off; fewer = g.fewer }

  pub lost_inside : {t : List ℕ} → Lost (λ x. Inside x t × C x) v t → Lost C v t
  lost_inside g x h c i = g x h (i, c) i
