-- Rule 7 for two kind lines, by the tests that are made of them and the cells that are struck. Assumes nothing.
use mathlib.Core.Path.{◌≡◌, sym, ap, ap₂, ◌∙◌, subst}
use mathlib.Core.Bool.{Bool, true, false, ◌&&◌}
use mathlib.Core.List.{List, ◌++◌, flat_map}
use Prim.Native.Nat.{ℕ, ◌+◌, ◌*◌, ◌<◌}
use borrow.Author.Count.{below_more}
use Rattle.std.specs.Prelude.{Result, Ok, Err}
use Rattle.std.proofs.lemmas.Bool.{eqb-true, eqb-false}
use lib.Dec.{T, T_not, eqb}
use lib.ListN.{length, get_or}
use Rattle.rules.specs.Relations.{same, E, has, Lacks, meet, complement, ◌lies_within◌, converse}
use Rattle.rules.specs.Descriptions.{KindLine}
use Rattle.rules.specs.Tables.{cell, Inside, up_to}
use Rattle.rules.specs.Arrangements.{way, width, Alike}
use Rattle.rules.specs.Closing.{agree, bound7, bound7', Rule, Idle, lies, only, ways_of, rules2, rule7}
use Rattle.rules.proofs.Tests.{T_true, T_false, true_T, and_T, each_at, each_all}
use Rattle.rules.proofs.Digits.{has_single}
use Rattle.rules.proofs.Sets.{lies_trans, lies_one, unshared_lacks, shared_has}
use Rattle.rules.proofs.Members.{all_append, all_one, one_all, append_left, append_right}
use Rattle.rules.proofs.Rules.{same_small, unless_in, lacks_lies, lies_lacks, only_all, boards_all, all_ways, ways_all, alike_agree, bound7_apart, says7'', said7'', bound7_grows}
use Rattle.passes.specs.Passes.{Idles}
use Rattle.moves.specs.declared.Emptied.{Emptied}
use Rattle.moves.specs.Moves.{Marks, Mutual, Struck, Moved, Lost, Went, Matched}
use Rattle.moves.proofs.Striking.{cell_some}
use Rattle.moves.proofs.Moving.{moved_none, moved_then, lost_then, strike_moved, strike_lost, strike_within, moved_as, lost_as, moved_inside, lost_inside}
use Rattle.moves.proofs.Passing.{turned}
use Rattle.same_panels.specs.Pairs.{Facing, paired, joined, Joined}

-- ---- ways in the same place

-- the pair of ways in place i has E
abbrev pair_has : ℕ → List ℕ → List ℕ → List ℕ → ℕ → Bool
pair_has v t ws us i = has (cell v t (get_or ws i 0) (get_or us i 0)) same

abbrev pub Pairs : ℕ → List ℕ → List ℕ → List ℕ → ℕ → Type 0
Pairs v t ws us i = T (pair_has v t ws us i)

-- the rule that it lies within {E}
abbrev pair : List ℕ → List ℕ → ℕ → List Rule
pair ws us i = lies (get_or ws i 0) (get_or us i 0) (λ t. E)

pub paired_all : (v : ℕ) (t ws us : List ℕ) → ((i : ℕ) → i < length ws → Pairs v t ws us i) → true ≡ paired v t ws us
paired_all v t ws us f = sym (T_true (each_all (length ws) (pair_has v t ws us) f))

module _ {v : ℕ} {ws us : List ℕ} (facing : Facing v ws us) {i : ℕ} (within : i < length ws) where
  pub other_within : i < length us
  other_within = subst (λ (n : ℕ). i < n) facing.same within

  -- x is the cell of the two ways a and b, and z tells that it lacks E
  module _ (t : List ℕ) {a b x y : ℕ} {z : Bool} (first : a ≡ get_or ws i 0) (second : b ≡ get_or us i 0) (read : x ≡ cell v t a b) (met : y ≡ meet x E)
      (told : z ≡ eqb y 0) where
    met_cell : y ≡ meet (cell v t (get_or ws i 0) (get_or us i 0)) E
    met_cell = met ∙ ap (λ (n : ℕ). meet n E) (read ∙ ap₂ (cell v t) first second)

    pub paired_not : z ≡ true → false ≡ paired v t ws us
    paired_not e =
        sym
        (T_false
        (λ a. T_not (pair_has v t ws us i)
        (unshared_lacks same (cell v t (get_or ws i 0) (get_or us i 0)) same_small (sym met_cell ∙ eqb-true y 0 (sym told ∙ e)))
        (each_at (length ws) (pair_has v t ws us) a i within)))

    pub pairs : z ≡ false → Pairs v t ws us i
    pairs e = shared_has same (cell v t (get_or ws i 0) (get_or us i 0)) (λ n. eqb-false y 0 (sym told ∙ e) (met_cell ∙ n))

  -- a table in which these rules strike nothing survives a strike of all but same
  kept : (x : List ℕ) → Idles v (joined v ws us) x
      → (cell v x (get_or ws i 0) (get_or us i 0) lies_within E) × (cell v x (get_or us i 0) (get_or ws i 0) lies_within converse (cell v x (get_or ws i 0) (get_or us i 0)))
  kept x d = (
    one_all (Idle v x) (boards_all (Idle v x) (length ws) (pair ws us) (append_right (Idle v x) (rules2 v) (flat_map (pair ws us) (up_to (length ws))) d) i within),
    turned v x (append_left (Idle v x) (rules2 v) (flat_map (pair ws us) (up_to (length ws))) d) (get_or ws i 0) (get_or us i 0) (facing.ways i within) (facing.others i other_within),
  )

  -- the two ways are a and b; they are struck after the pairs before them
  module _ {a b : ℕ} (first : a ≡ get_or ws i 0) (second : b ≡ get_or us i 0) where
    module _ {t m u k w n : List ℕ} (before : Moved (Idles v (joined v ws us)) v t m u k) where
      struck : {r : Result (Unit {0}) Emptied} → Struck v a b E u k w n r → Struck v (get_or ws i 0) (get_or us i 0) E u k w n r
      struck {r} s =
          subst (λ (p : ℕ). Struck v p (get_or us i 0) E u k w n r) first (subst (λ (q : ℕ). Struck v a q E u k w n r) second s)

      pub joined_more : {d : Unit {0}} → Struck v a b E u k w n (Ok d) → ((j : ℕ) → j < i → cell v u (get_or ws j 0) (get_or us j 0) lies_within E)
          → Moved (Idles v (joined v ws us)) v t m w n × ((j : ℕ) → j < i + 1 → cell v w (get_or ws j 0) (get_or us j 0) lies_within E)
      joined_more s f =
          let moved = strike_moved before.fit before.list (facing.ways i within) (facing.others i other_within) kept (struck s) in (
            moved_then before moved,
            below_more _ _ (λ j l. lies_trans (moved.inside.each (v * get_or ws j 0 + get_or us j 0)) (f j l))
                (strike_within before.fit before.list (facing.ways i within) (facing.others i other_within) kept (struck s)),
          )

      pub joined_lost : {d : Emptied} → Struck v a b E u k w n (Err d) → Lost (Idles v (joined v ws us)) v t
      joined_lost s =
          lost_then before (strike_lost before.fit before.list (facing.ways i within) (facing.others i other_within) kept (struck s))

-- ---- what is then seen to

module _ (v : ℕ) (k l : KindLine) where
  module _ {t : List ℕ} (u : Mutual v t) (hp : k.p < v) (hq : l.p < v) where
    -- the cell of the two panels
    abbrev between : ℕ
    between = cell v t k.p l.p

    -- if it lies within {E} it is E
    pub only_same : between lies_within E → between ≡ E
    only_same s = lies_one same (u.ready.table.small (v * k.p + l.p)) same_small s (cell_some u hp hq)

    -- the panels are not the same
    matched_apart : {m : List ℕ} → Lacks between same → Matched v k l m t
    matched_apart n =
        let other : between lies_within complement E = lacks_lies between same n in
        record {
          codes = λ o. unless_in (agree k l) between (complement E) (λ d. other);
          panels = λ i h o. unless_in (agree k l && has (cell v t (way k i) (way l i)) same) between (complement E) (λ d. other);
          ways =
              λ a i h o.
              said7'' v t k l i (λ s. absurd (T_not (has between same) n (subst (λ (y : ℕ). T (has y same)) (sym (only_same s)) (has_single same))));
        }

    -- code and number of ways agree, and each pair of ways may be the same, and must be if the panels must
    matched_alike : {m : List ℕ} → Alike k l → ((i : ℕ) → i < width k → T (has (cell v t (way k i) (way l i)) same))
        → ((i : ℕ) → i < width k → between ≡ E → cell v t (way k i) (way l i) lies_within E) → Matched v k l m t
    matched_alike a f g =
        record {
          codes = λ o. unless_in (agree k l) between (complement E) (λ d. absurd (T_not (agree k l) d (alike_agree k l a)));
          panels =
              λ i h o.
              unless_in (agree k l && has (cell v t (way k i) (way l i)) same) between (complement E)
              (λ d.
              absurd
              (T_not (agree k l && has (cell v t (way k i) (way l i)) same) d
              (and_T (agree k l) (has (cell v t (way k i) (way l i)) same) (alike_agree k l a) (f i h))));
          ways = λ b i h o. said7'' v t k l i (λ s. g i h (only_same s));
        }

    -- each pair of ways is the same
    matched_joined : {m : List ℕ} → Alike k l → Facing v k.ways l.ways → Joined v k.ways l.ways t → Matched v k l m t
    matched_joined a facing f =
        matched_alike a
        (λ i h.
        subst (λ (y : ℕ). T (has y same))
        (sym
        (lies_one same (u.ready.table.small (v * way k i + way l i)) same_small (f i h) (cell_some u (facing.ways i h) (facing.others i (other_within facing h)))))
        (has_single same))
        (λ i h e. f i h)

  -- ---- what is kept

  -- rule 2, and rule 7 of the two
  abbrev pub both : List Rule
  both = rules2 v ++ rule7 v k l

  module _ {x : List ℕ} (d : Idles v both x) where
    idle7 : Idles v (rule7 v k l) x
    idle7 = append_right (Idle v x) (rules2 v) (rule7 v k l) d

    panels_idle : cell v x k.p l.p lies_within bound7 v x k l
    panels_idle =
        one_all (Idle v x)
        (append_left (Idle v x) (lies k.p l.p (λ t. bound7 v t k l))
        (only (agree k l) (ways_of k (λ i. lies (way k i) (way l i) (λ t. bound7' v t k l)))) idle7)

    ways_idle : T (agree k l) → (i : ℕ) → i < width k → cell v x (way k i) (way l i) lies_within bound7' v x k l
    ways_idle a i h =
        one_all (Idle v x)
        (ways_all (Idle v x) k (λ i. lies (way k i) (way l i) (λ t. bound7' v t k l))
        (only_all (Idle v x) (agree k l) (ways_of k (λ i. lies (way k i) (way l i) (λ t. bound7' v t k l)))
        (append_right (Idle v x) (lies k.p l.p (λ t. bound7 v t k l))
        (only (agree k l) (ways_of k (λ i. lies (way k i) (way l i) (λ t. bound7' v t k l)))) idle7) a) i h)

  -- ---- the ends of rule 7

  module _ {t m : List ℕ} (u : Mutual v t) (marks : Marks v m) (hp : k.p < v) (hq : l.p < v) where
    -- the panels are not the same: nothing is to be struck
    pub rule7_apart : {x y : ℕ} {z : Bool} → x ≡ cell v t k.p l.p → y ≡ meet x E → z ≡ eqb y 0 → z ≡ true
        → Moved (Idles v both) v t m t m × Matched v k l m t
    rule7_apart {y = y} read met told e = (
      moved_none u marks,
      matched_apart u hp hq
          (unshared_lacks same (cell v t k.p l.p) same_small (sym (met ∙ ap (λ (n : ℕ). meet n E) read) ∙ eqb-true y 0 (sym told ∙ e))),
    )

    -- all of that agrees, and the panels may be the same or not: nothing is to be struck
    pub rule7_open : Alike k l → {b : Bool} → b ≡ paired v t k.ways l.ways → b ≡ true → (cell v t k.p l.p ≡ E → ⊥)
        → Moved (Idles v both) v t m t m × Matched v k l m t
    rule7_open a each passed n =
        (moved_none u marks, matched_alike u hp hq a (each_at (width k) (pair_has v t k.ways l.ways) (true_T (sym each ∙ passed))) (λ i h e. absurd (n e)))

  module _ (t m w n : List ℕ) (u : Mutual v t) (marks : Marks v m) (hp : k.p < v) (hq : l.p < v) where
    -- code, number of ways or a pair of ways differs: E is struck
    pub rule7_struck : (Alike k l → paired v t k.ways l.ways ≡ true → ⊥) → (r : Result (Unit {0}) Emptied) → Struck v k.p l.p (complement E) t m w n r
        → Went (Idles v both) v (Matched v k l) t m w n r
    rule7_struck d r s = go r s
      where
        kept_apart : (x : List ℕ) → Inside x t × Idles v both x
            → (cell v x k.p l.p lies_within complement E) × (cell v x l.p k.p lies_within converse (cell v x k.p l.p))
        kept_apart x (i, idle) = (
          subst (λ (y : ℕ). cell v x k.p l.p lies_within y) (bound7_apart v t k l (λ a e. d a (T_true e))) (lies_trans (panels_idle idle) (bound7_grows v i k l)),
          turned v x (append_left (Idle v x) (rules2 v) (rule7 v k l) idle) k.p l.p hp hq,
        )

        go : (r : Result (Unit {0}) Emptied) → Struck v k.p l.p (complement E) t m w n r → Went (Idles v both) v (Matched v k l) t m w n r
        go (Ok _) s =
            let moved = strike_moved {C = λ x. Inside x t × Idles v both x} u marks hp hq kept_apart s in
            (moved_inside moved, matched_apart moved.fit hp hq (lies_lacks _ same same_small (strike_within {C = λ x. Inside x t × Idles v both x} u marks hp hq kept_apart s)))
        go (Err _) s = lost_inside (strike_lost {C = λ x. Inside x t × Idles v both x} u marks hp hq kept_apart s)

    -- the panels are the same, and so are their ways
    pub rule7_joined : Alike k l → Facing v k.ways l.ways → cell v t k.p l.p ≡ E → (r : Result (Unit {0}) Emptied)
        → Went (Idles v (joined v k.ways l.ways)) v (λ n w. Joined v k.ways l.ways w) t m w n r
        → Went (Idles v both) v (Matched v k l) t m w n r
    rule7_joined a facing e r s = go r s
      where
        kept_joined : (x : List ℕ) → Inside x t × Idles v both x → Idles v (joined v k.ways l.ways) x
        kept_joined x (i, idle) =
            all_append (Idle v x) (rules2 v) (append_left (Idle v x) (rules2 v) (rule7 v k l) idle)
            (all_ways (Idle v x) k (pair k.ways l.ways)
            (λ j h.
            all_one (Idle v x)
            (says7'' v x k l j (ways_idle idle (alike_agree k l a) j h)
            (subst (λ (b : ℕ). cell v x k.p l.p lies_within b) e (i.each (v * k.p + l.p))))))

        go : (r : Result (Unit {0}) Emptied) → Went (Idles v (joined v k.ways l.ways)) v (λ n w. Joined v k.ways l.ways w) t m w n r
            → Went (Idles v both) v (Matched v k l) t m w n r
        go (Ok _) (moved, f) = (moved_inside (moved_as kept_joined moved), matched_joined moved.fit hp hq a facing f)
        go (Err _) lost = lost_inside (lost_as kept_joined lost)
