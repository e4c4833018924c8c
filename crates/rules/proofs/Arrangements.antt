-- An arrangement is exactly a closed table of single relations, so closing loses none. Assumes nothing.
use mathlib.Core.Path.{◌≡◌, sym, ap, ◌∙◌, subst}
use mathlib.Core.Bool.{Bool, not}
use mathlib.Core.Logic.{◌⊎◌, inl, inr, ⊎_elim, ◌↔◌}
use mathlib.Core.List.{List, Memᴰ}
use Prim.Native.Nat.{ℕ, ◌*◌, ◌^◌, ◌<◌}
use native.Mathlib.Omega.{arith}
use lib.Pow.{pow_pos}
use lib.Dec.{T, eqb, eqb→eq, T_not, not_T}
use lib.ListN.{length, get_or}
use Rattle.rules.specs.Relations.{some_below, relations, same, above, side, E, A, has, Lacks, join, ◌lies_within◌}
use Rattle.rules.specs.Descriptions.{KindLine, Sheet, WellFormed}
use Rattle.rules.specs.Tables.{Table, Inside, at, emptied}
use Rattle.rules.specs.Arrangements.{way, width, Alike, Arrangement}
use Rattle.rules.specs.Closed.{Misses, Closed, Largest}
use Rattle.rules.specs.Closing.{reaches, agree}
use Rattle.rules.proofs.Tests.{T-decide, T_not-not, or_T_left, or_T_right, T-or, some_in, some_out, T-differ}
use Rattle.rules.proofs.Digits.{has_single, single_has}
use Rattle.rules.proofs.Sets.{lies_eq, single_lies, join_in}
use Rattle.rules.proofs.Inside.{each_place, emptied_out}
use Rattle.rules.proofs.Rules.{relations_pos, not_misses, agree_alike, alike_agree}

-- ---- single relations

-- the set is one relation alone
abbrev pub One : ℕ → Type 0
One x = (r : ℕ) × (r < relations) × (x ≡ 2 ^ r)

-- every cell is a single relation
abbrev pub Singles : Sheet → List ℕ → Type 0
Singles s t = (p q : ℕ) → p < s.boards → q < s.boards → One (at s t p q)

pub one_has : {x : ℕ} → One x → (r : ℕ) → T (has x r) → x ≡ 2 ^ r
one_has {x} o r t = o.2 ∙ ap (λ (n : ℕ). 2 ^ n) (sym (single_has o.0 r (subst (λ (y : ℕ). T (has y r)) o.2 t)))

is_has : {x : ℕ} (r : ℕ) → x ≡ 2 ^ r → T (has x r)
is_has {x} r e = subst (λ (y : ℕ). T (has y r)) (sym e) (has_single r)

pub one_within : {x : ℕ} → One x → (r : ℕ) → x lies_within 2 ^ r → x ≡ 2 ^ r
one_within {x} o r s =
    one_has o r (subst (λ (n : ℕ). T (has x n)) (single_has r o.0 (s.member o.0 o.1 (is_has o.0 o.2))) (is_has o.0 o.2))

-- a single relation is E or A exactly if it does not miss both
one_reaches : {x : ℕ} → (x ≡ E) ⊎ (x ≡ A) → Misses x → ⊥
one_reaches {x} (inl e) m = T_not (has x same) m.0 (is_has same e)
one_reaches {x} (inr e) m = T_not (has x above) m.1 (is_has above e)

reaches_one : {x : ℕ} → One x → T (reaches x) → (x ≡ E) ⊎ (x ≡ A)
unfolding reaches
reaches_one {x} o t = ⊎_elim (λ a. inl (one_has o same a)) (λ a. inr (one_has o above a)) (T-or (has x same) (has x above) t)

within_join : {x : ℕ} → (x ≡ E) ⊎ (x ≡ A) → x lies_within join E A
within_join {x} (inl e) =
    subst (λ (y : ℕ). y lies_within join E A) (sym e)
    (single_lies same (join E A) (join_in E A same (omega (arith, relations_pos)) (or_T_left (has E same) (has A same) (has_single same))))
within_join {x} (inr e) =
    subst (λ (y : ℕ). y lies_within join E A) (sym e)
    (single_lies above (join E A) (join_in E A above relations_pos (or_T_right (has E above) (has A above) (has_single above))))

module _ {s : Sheet} (f : WellFormed s) where
  pub panel : (k : KindLine) → Memᴰ k s.kinds → k.p < s.boards
  panel k m = (f.kinds.1 k m).0

  pub fed : (k : KindLine) → Memᴰ k s.kinds → (i : ℕ) → i < width k → way k i < s.boards
  fed k m i h = (f.kinds.1 k m).2 i h

  -- ---- an arrangement is closed

  module _ {t : List ℕ} (a : Arrangement s t) where
    closed6 : (k : KindLine) → Memᴰ k s.kinds → (z : ℕ) → z < s.boards → ((i : ℕ) → i < width k → Misses (at s t (way k i) z))
        → Lacks (at s t k.p z) above
    closed6 k m z h g = not_T (has (at s t k.p z) above) (λ e. from (a.rule6 k m z h (one_has (a.single k.p z (panel k m) h) above e)))
      where
        from : (i : ℕ) × (i < width k) × ((at s t (way k i) z ≡ E) ⊎ (at s t (way k i) z ≡ A)) → ⊥
        from n = one_reaches n.2 (g n.0 n.1)

    closed6' : (k : KindLine) → Memᴰ k s.kinds → (z : ℕ) → z < s.boards → (i : ℕ) → i < width k → at s t k.p z lies_within A
        → ((j : ℕ) → j < width k → (i ≡ j → ⊥) → Misses (at s t (way k j) z)) → at s t (way k i) z lies_within join E A
    closed6' k m z h i l e g = from (a.rule6 k m z h (one_within (a.single k.p z (panel k m) h) above e))
      where
        from : (j : ℕ) × (j < width k) × ((at s t (way k j) z ≡ E) ⊎ (at s t (way k j) z ≡ A)) → at s t (way k i) z lies_within join E A
        from n =
            ⊎_elim
            (λ d. subst (λ (j : ℕ). at s t (way k j) z lies_within join E A) (sym (eqb→eq i n.0 d)) (within_join n.2))
            (λ d. absurd (one_reaches n.2 (g n.0 n.1 (T-differ d)))) (T-decide (eqb i n.0))

    module _ (k : KindLine) (m : Memᴰ k s.kinds) (l : KindLine) (n : Memᴰ l s.kinds) where
      one_board_lem : One (at s t k.p l.p)
      one_board_lem = a.single k.p l.p (panel k m) (panel l n)

      closed7 : (Alike k l → ⊥) → Lacks (at s t k.p l.p) same
      closed7 g = not_T (has (at s t k.p l.p) same) (λ e. g (a.rule7 k l m n (one_has one_board_lem same e)).0)

      closed7' : (i : ℕ) → i < width k → Lacks (at s t (way k i) (way l i)) same → Lacks (at s t k.p l.p) same
      closed7' i h g =
          not_T (has (at s t k.p l.p) same)
          (λ e. T_not (has (at s t (way k i) (way l i)) same) g (is_has same ((a.rule7 k l m n (one_has one_board_lem same e)).1 i h)))

      closed7'' : at s t k.p l.p lies_within E → (i : ℕ) → i < width k → at s t (way k i) (way l i) lies_within E
      closed7'' g i h = lies_eq ((a.rule7 k l m n (one_within one_board_lem same g)).1 i h)

    pub arrangement_closed : Closed s t
    arrangement_closed =
        record {
          rule1 = λ p h. lies_eq (a.rule1 p h);
          rule2 = a.rule2;
          rule3 = a.rule3;
          rule4 = a.rule4;
          rule5 = λ k m i h. lies_eq (a.rule5 k m i h);
          rule5' = λ k m i j h l d. lies_eq (a.rule5' k m i j h l d);
          rule6 = closed6;
          rule6' = closed6';
          rule7 = closed7;
          rule7' = λ k m l n e. closed7' k m l n;
          rule7'' = λ k m l n e. closed7'' k m l n;
        }

  -- ---- a closed table of single relations is an arrangement

  module _ {t : List ℕ} (h : Table s.boards t) (c : Closed s t) (o : Singles s t) where
    fed_by : (k : KindLine) → Memᴰ k s.kinds → (z : ℕ) → z < s.boards → at s t k.p z ≡ A
        → (i : ℕ) × (i < width k) × ((at s t (way k i) z ≡ E) ⊎ (at s t (way k i) z ≡ A))
    fed_by k m z hz e = ⊎_elim some none (T-decide (some_below (width k) reached))
      where
        reached : ℕ → Bool
        reached i = reaches (at s t (way k i) z)

        some : T (some_below (width k) (λ i. reaches (at s t (way k i) z)))
            → (i : ℕ) × (i < width k) × ((at s t (way k i) z ≡ E) ⊎ (at s t (way k i) z ≡ A))
        some b =
            let n = some_out (width k) (λ i. reaches (at s t (way k i) z)) b in
            (n.0, n.1, reaches_one (o (way k n.0) z (fed k m n.0 n.1) hz) n.2)

        none : T (not (some_below (width k) (λ i. reaches (at s t (way k i) z))))
            → (i : ℕ) × (i < width k) × ((at s t (way k i) z ≡ E) ⊎ (at s t (way k i) z ≡ A))
        none b =
            absurd
            (T_not (has (at s t k.p z) above)
            (c.rule6 k m z hz
            (λ i hi.
            not_misses (at s t (way k i) z)
            (λ g. T_not (some_below (width k) (λ i. reaches (at s t (way k i) z))) b (some_in (width k) (λ i. reaches (at s t (way k i) z)) i hi g))))
            (is_has above e))

    one_panel : (k l : KindLine) (m : Memᴰ k s.kinds) (n : Memᴰ l s.kinds) → at s t k.p l.p ≡ E
        → Alike k l × ((i : ℕ) → i < width k → at s t (way k i) (way l i) ≡ E)
    one_panel k l m n e = (alike, λ i hi. one_has (o (way k i) (way l i) (fed k m i hi) (fed l n i (subst (λ (x : ℕ). i < x) alike.1 hi))) same (pair i hi))
      where
        holds : T (has (at s t k.p l.p) same)
        holds = is_has same e

        alike : Alike k l
        alike =
            agree_alike k l
            (T_not-not (agree k l)
            (λ d. T_not (has (at s t k.p l.p) same) (c.rule7 k m l n (λ g. T_not (agree k l) d (alike_agree k l g))) holds))

        pair : (i : ℕ) → i < width k → T (has (at s t (way k i) (way l i)) same)
        pair i hi =
            T_not-not (has (at s t (way k i) (way l i)) same)
            (λ d. T_not (has (at s t k.p l.p) same) (c.rule7' k m l n alike i hi d) holds)

    pub closed_arrangement : Arrangement s t
    closed_arrangement =
        record {
          table = h;
          single = o;
          rule1 = λ p hp. one_within (o p p hp hp) same (c.rule1 p hp);
          rule2 = c.rule2;
          rule3 = c.rule3;
          rule4 = c.rule4;
          rule5 = λ k m i hi. one_within (o k.p (way k i) (panel k m) (fed k m i hi)) above (c.rule5 k m i hi);
          rule5' = λ k m i j hi hj d. one_within (o (way k i) (way k j) (fed k m i hi) (fed k m j hj)) side (c.rule5' k m i j hi hj d);
          rule6 = fed_by;
          rule7 = one_panel;
        }

-- an arrangement is exactly a closed table of single relations
pub arrangement_iff : {s : Sheet} → WellFormed s → (t : List ℕ) → Arrangement s t ↔ (Table s.boards t × Closed s t × Singles s t)
arrangement_iff f t = (λ a. (a.table, arrangement_closed f a, a.single), λ h. closed_arrangement f h.0 h.1 h.2)

-- closing loses no arrangement
pub arrangement_kept : {s : Sheet} → WellFormed s → {t u w : List ℕ} → Largest s t u → Arrangement s w → Inside w t → Inside w u
arrangement_kept f {w = w} l a i = l.largest w a.table (arrangement_closed f a) i

-- ---- the cells of an arrangement

pub arrangement_one : {s : Sheet} {u : List ℕ} → Arrangement s u → (k : ℕ) → k < s.boards * s.boards → One (get_or u k 0)
arrangement_one {s} {u} a k h = each_place (λ k. One (get_or u k 0)) a.table a.single k (subst (λ (n : ℕ). k < n) (sym a.table.cells) h)

-- none is empty
pub arrangement_whole : {s : Sheet} {u : List ℕ} → Arrangement s u → T (emptied u) → ⊥
arrangement_whole {u = u} a e = from (emptied_out u e)
  where
    from : (k : ℕ) × (k < length u) × (get_or u k 0 ≡ 0) → ⊥
    from m =
        let o = arrangement_one a m.0 (subst (λ (n : ℕ). m.0 < n) a.table.cells m.1) in
        let z : 2 ^ o.0 ≡ 0 = sym o.2 ∙ m.2 in
        omega (arith, pow_pos o.0)
