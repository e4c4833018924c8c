-- Rule 6 for a kind line and a board, by the ends of the search for ways that reach the board. Assumes nothing.
use mathlib.Core.Path.{◌≡◌, refl, sym, subst}
use mathlib.Core.Bool.{true, false, not}
use Rattle.std.specs.Prelude.{Result, Ok, Err, Option, Some, None, is_some}
use mathlib.Core.Logic.{◌⊎◌, inl, inr, ⊎_elim}
use mathlib.Core.List.{List, ◌++◌}
use Prim.Native.Nat.{ℕ, zero, suc, ◌+◌, ◌*◌, ◌≤◌, ◌<◌}
use native.Mathlib.Omega.{arith}
use lib.Dec.{T, eqb, eqb→eq, T_not}
use lib.ListN.{length, get_or}
use Rattle.rules.specs.Relations.{relations, same, above, E, A, has, Lacks, meet, join, complement, ◌lies_within◌, converse}
use Rattle.rules.specs.Descriptions.{KindLine}
use Rattle.rules.specs.Tables.{cell, Inside}
use Rattle.rules.specs.Closed.{Misses}
use Rattle.rules.specs.Closing.{reaches, bound6, bound6', Rule, Idle, lies, ways_of, rules2, rule6}
use Rattle.rules.proofs.Tests.{true_T, or_T_left, or_T_right, T-or, T-decide, T-ext, differ_T, T-differ, order_cases}
use Rattle.rules.proofs.Digits.{has_zero, has_single}
use Rattle.rules.proofs.Sets.{lies_eq, lies_trans, meet_small, meet_left, meet_right, complement_out, some_member, shared, unshared_lacks}
use Rattle.rules.proofs.Members.{one_all, append_left, append_right}
use Rattle.rules.proofs.Rules.{ways_all, relations_pos, same_small, misses_not, not_misses, bound6_none, said6, bound6'_alone, said6', bound6_grows, bound6'_grows}
use Rattle.passes.specs.Passes.{Idles}
use Rattle.passes.proofs.Passes.{filled_one, ready_place}
use Rattle.moves.specs.Watches.{feeds, feeds'}
use Rattle.moves.specs.declared.Emptied.{Emptied}
use Rattle.moves.specs.Moves.{Marks, Mutual, Struck, Moved, Tended, Went, Fed}
use Rattle.moves.proofs.Striking.{cell_some}
use Rattle.moves.proofs.Passing.{turned}
use Rattle.moves.proofs.Moving.{moved_none, moved_inside, lost_inside, strike_moved, strike_lost, strike_within, tended_moved, tended_struck}
use Rattle.moves.proofs.Reading.{feeds_honest, feeds'_honest}
use Rattle.panels.specs.Ways.{Reaching, Reaches, FirstReaching}

-- ---- whether a set has E or A, by what it has in common with them

-- 3 is the set of E and A
same_or_above : (r : ℕ) → T (has 3 r) → (r ≡ same) ⊎ (r ≡ above)
unfolding has
same_or_above zero t = inl refl
same_or_above (suc zero) t = inr refl
same_or_above (suc (suc r)) t = absurd (subst T (has_zero r) t)

pub reaches_meet : (x : ℕ) → not (eqb (meet x 3) 0) ≡ reaches x
unfolding reaches has
reaches_meet x = T-ext (not (eqb (meet x 3) 0)) (reaches x) (λ t. to (some_member (meet_small x 3) (T-differ t))) (λ t. differ_T (from t))
  where
    to : (r : ℕ) × (r < relations) × T (has (meet x 3) r) → T (reaches x)
    to m =
        let t : T (has x m.0) = (meet_left x 3).member m.0 m.1 m.2 in
        ⊎_elim (λ e. or_T_left (has x same) (has x above) (subst (λ (r : ℕ). T (has x r)) e t))
        (λ e. or_T_right (has x same) (has x above) (subst (λ (r : ℕ). T (has x r)) e t))
        (same_or_above m.0 ((meet_right x 3).member m.0 m.1 m.2))

    from : T (reaches x) → meet x 3 ≡ 0 → ⊥
    from t e =
        ⊎_elim (λ s. shared x 3 same same_small s tt e) (λ s. shared x 3 above relations_pos s tt e)
        (T-or (has x same) (has x above) t)

-- ---- the search for a way that may be at or above the board z: one that reaches it

-- no way from the place `from` on and before i reaches z
abbrev pub Passed : ℕ → List ℕ → List ℕ → ℕ → ℕ → ℕ → Type 0
Passed v t ws z from i = (j : ℕ) → from ≤ j → j < i → Reaching v t ws z j → ⊥

-- ---- the ends of the search

-- a kind line on the panel p with its ways, and a board z
module _ (v : ℕ) (line : KindLine) (z : ℕ) where
  abbrev p : ℕ
  p = line.p

  abbrev ws : List ℕ
  ws = line.ways

  -- rule 6 for the panel, and for way i
  abbrev panel_rule : List Rule
  panel_rule = lies p z (λ t. bound6 v t line z)

  abbrev way_rule : ℕ → List Rule
  way_rule i = lies (get_or ws i 0) z (λ t. bound6' v t line i z)

  -- what is to be kept: rule 2 and rule 6 strike nothing
  abbrev Keep : List ℕ → Type 0
  Keep = Idles v (rules2 v ++ rule6 v line z)

  keep_six : (x : List ℕ) → Keep x → Idles v (rule6 v line z) x
  keep_six x c = append_right (Idle v x) (rules2 v) (rule6 v line z) c

  keep_panel : (x : List ℕ) → Keep x → cell v x p z lies_within bound6 v x line z
  keep_panel x c = one_all (Idle v x) (append_left (Idle v x) panel_rule (ways_of line way_rule) (keep_six x c))

  keep_way : (x : List ℕ) → Keep x → (i : ℕ) → i < length ws → cell v x (get_or ws i 0) z lies_within bound6' v x line i z
  keep_way x c i h = one_all (Idle v x) (ways_all (Idle v x) line way_rule (append_right (Idle v x) panel_rule (ways_of line way_rule) (keep_six x c)) i h)

  keep_turned : (x : List ℕ) → Keep x → (a : ℕ) → a < v → z < v → cell v x z a lies_within converse (cell v x a z)
  keep_turned x c a ha hz = turned v x (append_left (Idle v x) (rules2 v) (rule6 v line z) c) a z ha hz

  -- every way but way i misses z
  abbrev Alone : List ℕ → ℕ → Type 0
  Alone t i = (j : ℕ) → j < length ws → (i ≡ j → ⊥) → Misses (cell v t (get_or ws j 0) z)

  module _ {t m : List ℕ} (fit : Mutual v t) (list : Marks v m) (p-below : p < v) (z-below : z < v) where
    -- a cell that lies within {A} is A
    only_above : cell v t p z lies_within A → cell v t p z ≡ A
    only_above s = filled_one above t (v * p + z) relations_pos fit.ready.table fit.filled (ready_place fit.ready p-below z-below) s

    -- both parts of rule 6 strike nothing in the table as it is
    still : (((i : ℕ) → i < length ws → Misses (cell v t (get_or ws i 0) z)) → Lacks (cell v t p z) above)
        → ((i : ℕ) → i < length ws → cell v t p z lies_within A → Alone t i → cell v t (get_or ws i 0) z lies_within join E A)
        → Went Keep v (Fed v line z) t m t m (Ok tt)
    still f g =
        (moved_none fit list, record { panel = λ o. said6 v t line z f; ways = λ i h o. said6' v t line z i (g i h) })

    -- the cell of the panel lacks A
    pub rule6_at_lacks : meet (cell v t p z) A ≡ 0 → Went Keep v (Fed v line z) t m t m (Ok tt)
    rule6_at_lacks e =
        still (λ n. lacks)
        (λ i h s a. absurd (T_not (has (cell v t p z) above) lacks (subst (λ (x : ℕ). T (has x above)) (sym (only_above s)) (has_single above))))
      where
        lacks : Lacks (cell v t p z) above
        lacks = unshared_lacks above (cell v t p z) relations_pos e

    -- no way reaches z
    module _ (f : FirstReaching v t ws z 0 None) where
      none : bound6 v t line z ≡ complement A
      none = bound6_none v t line z (λ j h. not_misses (cell v t (get_or ws j 0) z) (f j (omega arith) h))

      none_keeps : (x : List ℕ) → Inside x t × Keep x → (cell v x p z lies_within complement A) × (cell v x z p lies_within converse (cell v x p z))
      none_keeps x c =
          (lies_trans (keep_panel x c.1) (lies_trans (bound6_grows v c.0 line z) (lies_eq none)), keep_turned x c.1 p p-below z-below)

      pub rule6_at_none : {w n : List ℕ} (r : Result (Unit {0}) Emptied) → Struck v p z (complement A) t m w n r → Went Keep v (Fed v line z) t m w n r
      rule6_at_none {w} {n} (Ok _) s = (
        moved,
        record {
          panel = tended_struck moved (feeds v line z) (feeds_honest v line z) (lies_trans left (lies_eq (sym none)));
          ways = λ j h. tended_moved moved (feeds' v line j z) (feeds'_honest v line j z) (λ o. said6' v t line z j (λ a b. absurd (besides a)));
        },
      )
        where
          moved : Moved Keep v t m w n
          moved = moved_inside (strike_moved fit list p-below z-below none_keeps s)

          left : cell v w p z lies_within complement A
          left = strike_within fit list p-below z-below none_keeps s

          -- something besides A is left
          besides : cell v t p z lies_within A → ⊥
          besides a =
              let (r, h, b) = some_member (moved.fit.ready.table.small (v * p + z)) (cell_some moved.fit p-below z-below) in
              complement_out A r h (left.member r h b) (a.member r h ((moved.inside.each (v * p + z)).member r h b))
      rule6_at_none (Err _) s = lost_inside (strike_lost fit list p-below z-below none_keeps s)

    -- way i is the first that reaches z
    module _ {i : ℕ} (f : Reaches v t ws z 0 i) where
      h : i < length ws
      h = f.within

      misses_way : Misses (cell v t (get_or ws i 0) z) → ⊥
      misses_way m = misses_not (cell v t (get_or ws i 0) z) m f.found

      -- and the cell of the panel has more than A
      pub rule6_at_more : (cell v t p z ≡ A → ⊥) → Went Keep v (Fed v line z) t m t m (Ok tt)
      rule6_at_more n = still (λ m. absurd (misses_way (m i h))) (λ k l s a. absurd (n (only_above s)))

      -- and another after it reaches it too
      pub rule6_at_two : (o : Option ℕ) → FirstReaching v t ws z (i + 1) o → is_some o ≡ true → Went Keep v (Fed v line z) t m t m (Ok tt)
      rule6_at_two None b s = absurd (true_T {b = false} s)
      rule6_at_two (Some j) b s = still (λ m. absurd (misses_way (m i h))) (λ k o s a. absurd (both k a))
        where
          both : (k : ℕ) → Alone t k → ⊥
          both k a =
              let after : i + 1 ≤ j = b.after in
              ⊎_elim
              (λ e. let d : k ≡ i = eqb→eq k i e in misses_not (cell v t (get_or ws j 0) z) (a j b.within (λ q. omega arith)) b.found)
              (λ n. misses_way (a i h (T-differ n))) (T-decide (eqb k i))

      -- and no other way does, and the cell of the panel is A
      module _ (e : cell v t p z ≡ A) (o : Option ℕ) (b : FirstReaching v t ws z (i + 1) o) (last : is_some o ≡ false) (y-below : get_or ws i 0 < v) where
        after : (k : ℕ) → i + 1 ≤ k → k < length ws → Reaching v t ws z k → ⊥
        after = go o b last
          where
            go : (o : Option ℕ) → FirstReaching v t ws z (i + 1) o → is_some o ≡ false → FirstReaching v t ws z (i + 1) None
            go None b n = b
            go (Some j) b n = absurd (true_T {b = false} (sym n))

        alone : Alone t i
        alone k k-below g =
            not_misses (cell v t (get_or ws k 0) z)
            (λ r.
            ⊎_elim (λ (c : k < i). f.before k (omega arith) c r)
            (λ c. ⊎_elim (λ (c : i < k). after k (omega arith) k-below r) (λ (c : k ≡ i). g (sym c)) c) (order_cases k i))

        only : bound6' v t line i z ≡ join E A
        only = bound6'_alone v t line z i (lies_eq e) alone

        alone_keeps : (x : List ℕ) → Inside x t × Keep x
            → (cell v x (get_or ws i 0) z lies_within join E A) × (cell v x z (get_or ws i 0) lies_within converse (cell v x (get_or ws i 0) z))
        alone_keeps x c =
            (lies_trans (keep_way x c.1 i h) (lies_trans (bound6'_grows v c.0 line i z) (lies_eq only)), keep_turned x c.1 (get_or ws i 0) y-below z-below)

        struck : {w n : List ℕ} (r : Result (Unit {0}) Emptied) → Struck v (get_or ws i 0) z (join E A) t m w n r → Went Keep v (Fed v line z) t m w n r
        struck {w} {n} (Ok _) s = (
          moved,
          record {
            panel = tended_moved moved (feeds v line z) (feeds_honest v line z) (λ o. said6 v t line z (λ q. absurd (misses_way (q i h))));
            ways = λ k q. ⊎_elim (this k) (other k) (T-decide (eqb k i));
          },
        )
          where
            moved : Moved Keep v t m w n
            moved = moved_inside (strike_moved fit list y-below z-below alone_keeps s)

            left : cell v w (get_or ws i 0) z lies_within bound6' v t line i z
            left = lies_trans (strike_within fit list y-below z-below alone_keeps s) (lies_eq (sym only))

            this : (k : ℕ) → T (eqb k i) → Tended v n w (feeds' v line k z)
            this k c =
                subst (λ (x : ℕ). Tended v n w (feeds' v line x z)) (sym (eqb→eq k i c))
                (tended_struck moved (feeds' v line i z) (feeds'_honest v line i z) left)

            other : (k : ℕ) → T (not (eqb k i)) → Tended v n w (feeds' v line k z)
            other k c =
                tended_moved moved (feeds' v line k z) (feeds'_honest v line k z)
                (λ o. said6' v t line z k (λ q a. absurd (misses_way (a i h (T-differ c)))))
        struck (Err _) s = lost_inside (strike_lost fit list y-below z-below alone_keeps s)

        pub rule6_at_alone : {y : ℕ} {w n : List ℕ} (r : Result (Unit {0}) Emptied) → y ≡ get_or ws i 0 → Struck v y z (join E A) t m w n r
            → Went Keep v (Fed v line z) t m w n r
        rule6_at_alone {w = w} {n = n} r d s = struck r (subst (λ (y : ℕ). Struck v y z (join E A) t m w n r) d s)
