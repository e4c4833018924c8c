-- A table is closed exactly if each rule of the description's list strikes nothing; and each rule's bound grows with the table, which is all
-- that the closing needs to know of it. Assumes nothing.
use mathlib.Core.Path.{◌≡◌, refl, subst}
use mathlib.Core.Bool.{Bool, true, false, not, ◌&&◌, ◌||◌}
use mathlib.Core.Logic.{⊎_elim}
use mathlib.Core.List.{List, ◌++◌, Memᴰ}
use Prim.Native.Nat.{ℕ, ◌+◌, ◌*◌, ◌^◌, ◌<◌}
use native.Mathlib.Omega.{arith}
use lib.Dec.{T, eqb, eqb→eq, eqb_refl, not_T, T_not}
use Rattle.rules.specs.Relations.{some_below, each_below, relations, same, above, E, A, S, has, Lacks, full, join, complement, ◌lies_within◌, within, converse, compose}
use Rattle.rules.specs.Descriptions.{RelationLine, KindLine, Sheet}
use Rattle.rules.specs.Tables.{cell, Table, Inside, at, up_to}
use Rattle.rules.specs.Arrangements.{way, width, Alike}
use Rattle.rules.specs.Closed.{Misses, Closed}
use Rattle.rules.specs.Closing.{unless, reaches, agree, bound6, bound6', bound7, bound7', Rule, Idle, lies, only, boards_of, ways_of, rule6, rule7, rules1, rules2, rules3, rules4, rules5, rules6, rules7, rules}
use Rattle.rules.proofs.Tests.{and_T, T-and_left, T-and_right, or_T_left, or_T_right, T-or, some_in, some_out, each_at, each_all, T-decide, T_not-not, differ_T, T-differ}
use Rattle.rules.proofs.Digits.{has_single, single_has}
use Rattle.rules.proofs.Sets.{complement_in, complement_out, lies_refl, lies_eq, lies_trans, lies_antisym, lies_full, within_lies, lies_within_lem}
use Rattle.rules.proofs.Composition.{converse_small, converse_mono, converse_converse, compose_mono}
use Rattle.rules.proofs.Members.{All, all_none, all_one, one_all, all_append, append_left, append_right, all_over, over_all, up_to_in, up_to_out}

-- ---- the list of rules, by what holds of each of them

module _ (P : Rule → Type 0) where
  pub all_only : (b : Bool) (rs : List Rule) → (T b → All P rs) → All P (only b rs)
  all_only true rs h = h tt
  all_only false rs h = all_none P

  pub only_all : (b : Bool) (rs : List Rule) → All P (only b rs) → T b → All P rs
  only_all true rs h t = h
  only_all false rs h t = absurd t

  pub all_boards : (v : ℕ) (f : ℕ → List Rule) → ((p : ℕ) → p < v → All P (f p)) → All P (boards_of v f)
  all_boards v f h = all_over P f (up_to v) (λ p m. h p (up_to_out v p m))

  pub boards_all : (v : ℕ) (f : ℕ → List Rule) → All P (boards_of v f) → (p : ℕ) → p < v → All P (f p)
  boards_all v f h p l = over_all P f (up_to v) h p (up_to_in l)

  pub all_ways : (k : KindLine) (f : ℕ → List Rule) → ((i : ℕ) → i < width k → All P (f i)) → All P (ways_of k f)
  all_ways k f h = all_over P f (up_to (width k)) (λ i m. h i (up_to_out (width k) i m))

  pub ways_all : (k : KindLine) (f : ℕ → List Rule) → All P (ways_of k f) → (i : ℕ) → i < width k → All P (f i)
  ways_all k f h i l = over_all P f (up_to (width k)) h i (up_to_in l)

  -- the rule that (p, q) lie within b
  abbrev pub At : ℕ → ℕ → (List ℕ → ℕ) → Type 0
  At p q b = P (record { row = p; column = q; bound = b })

  -- P holds of each of the seven rules' lists
  pub record Parts (s : Sheet) : Type 0 where
    pub one : All P (rules1 s.boards)
    pub two : All P (rules2 s.boards)
    pub three : All P (rules3 s.boards)
    pub four : All P (rules4 s.lines)
    pub five : All P (rules5 s.kinds)
    pub six : All P (rules6 s.boards s.kinds)
    pub seven : All P (rules7 s.boards s.kinds)

  -- P holds of each rule: the sentences of rules 1 to 7
  pub record Rules (s : Sheet) : Type 0 where
    pub r1 : (p : ℕ) → p < s.boards → At p p (λ t. E)
    pub r2 : (p q : ℕ) → p < s.boards → q < s.boards → At q p (λ t. converse (at s t p q))
    pub r3 : (p q r : ℕ) → p < s.boards → q < s.boards → r < s.boards
        → At p r (λ t. compose (at s t p q) (at s t q r))
    pub r4 : (l : RelationLine) → Memᴰ l s.lines → At l.p l.q (λ t. l.allowed)
    pub r5 : (k : KindLine) → Memᴰ k s.kinds → (i : ℕ) → i < width k → At k.p (way k i) (λ t. A)
    pub r5' : (k : KindLine) → Memᴰ k s.kinds → (i j : ℕ) → i < width k → j < width k → T (not (eqb i j))
        → At (way k i) (way k j) (λ t. S)
    pub r6 : (k : KindLine) → Memᴰ k s.kinds → (z : ℕ) → z < s.boards → At k.p z (λ t. bound6 s.boards t k z)
    pub r6' : (k : KindLine) → Memᴰ k s.kinds → (z : ℕ) → z < s.boards → (i : ℕ) → i < width k
        → At (way k i) z (λ t. bound6' s.boards t k i z)
    pub r7 : (k : KindLine) → Memᴰ k s.kinds → (l : KindLine) → Memᴰ l s.kinds
        → At k.p l.p (λ t. bound7 s.boards t k l)
    pub r7' : (k : KindLine) → Memᴰ k s.kinds → (l : KindLine) → Memᴰ l s.kinds → T (agree k l) → (i : ℕ) → i < width k
        → At (way k i) (way l i) (λ t. bound7' s.boards t k l)

  module _ (s : Sheet) where
    all5 : Rules s → (k : KindLine) → Memᴰ k s.kinds → (i : ℕ) → i < width k
        → All P (ways_of k (λ j. only (not (eqb i j)) (lies (way k i) (way k j) (λ t. S))))
    all5 h k m i l =
        all_ways k (λ j. only (not (eqb i j)) (lies (way k i) (way k j) (λ t. S)))
        (λ j n. all_only (not (eqb i j)) (lies (way k i) (way k j) (λ t. S)) (λ d. all_one P (h.r5' k m i j l n d)))

    all6 : Rules s → (k : KindLine) → Memᴰ k s.kinds → (z : ℕ) → z < s.boards
        → All P (ways_of k (λ i. lies (way k i) z (λ t. bound6' s.boards t k i z)))
    all6 h k m z n = all_ways k (λ i. lies (way k i) z (λ t. bound6' s.boards t k i z)) (λ i l. all_one P (h.r6' k m z n i l))

    all7 : Rules s → (k : KindLine) → Memᴰ k s.kinds → (l : KindLine) → Memᴰ l s.kinds
        → All P (only (agree k l) (ways_of k (λ i. lies (way k i) (way l i) (λ t. bound7' s.boards t k l))))
    all7 h k m l n =
        all_only (agree k l) (ways_of k (λ i. lies (way k i) (way l i) (λ t. bound7' s.boards t k l)))
        (λ a. all_ways k (λ i. lies (way k i) (way l i) (λ t. bound7' s.boards t k l)) (λ i b. all_one P (h.r7' k m l n a i b)))

    -- what holds of each of the seven rules' lists holds of the whole, and the other way round
    pub parts_rules : Parts s → All P (rules s)
    unfolding rules
    parts_rules h =
        all_append P (rules1 s.boards) h.one
        (all_append P (rules2 s.boards) h.two
        (all_append P (rules3 s.boards) h.three
        (all_append P (rules4 s.lines) h.four
        (all_append P (rules5 s.kinds) h.five (all_append P (rules6 s.boards s.kinds) h.six h.seven)))))

    pub rules_parts : All P (rules s) → Parts s
    unfolding rules
    rules_parts h =
        let h2 = append_right P (rules1 s.boards) _ h in
        let h3 = append_right P (rules2 s.boards) _ h2 in
        let h4 = append_right P (rules3 s.boards) _ h3 in
        let h5 = append_right P (rules4 s.lines) _ h4 in
        let h6 = append_right P (rules5 s.kinds) _ h5 in
        record {
          one = append_left P (rules1 s.boards) _ h;
          two = append_left P (rules2 s.boards) _ h2;
          three = append_left P (rules3 s.boards) _ h3;
          four = append_left P (rules4 s.lines) _ h4;
          five = append_left P (rules5 s.kinds) _ h5;
          six = append_left P (rules6 s.boards s.kinds) _ h6;
          seven = append_right P (rules6 s.boards s.kinds) _ h6;
        }

    -- what holds of each rule holds of the list
    pub all_rules : Rules s → All P (rules s)
    unfolding rules1 rules2 rules3 rules4 rules5 rules6 rules7
    all_rules h =
        parts_rules
        (record {
          one = all_boards s.boards _ (λ p l. all_one P (h.r1 p l));
          two = all_boards s.boards _ (λ p l. all_boards s.boards _ (λ q m. all_one P (h.r2 p q l m)));
          three =
              all_boards s.boards _ (λ p l. all_boards s.boards _ (λ q m. all_boards s.boards _ (λ r n. all_one P (h.r3 p q r l m n))));
          four = all_over P _ s.lines (λ l m. all_one P (h.r4 l m));
          five =
              all_over P _ s.kinds (λ k m. all_ways k _ (λ i l. all_append P (lies k.p (way k i) (λ t. A)) (all_one P (h.r5 k m i l)) (all5 h k m i l)));
          six =
              all_over P _ s.kinds (λ k m. all_boards s.boards _ (λ z n.
              all_append P (lies k.p z (λ t. bound6 s.boards t k z)) (all_one P (h.r6 k m z n)) (all6 h k m z n)));
          seven =
              all_over P _ s.kinds (λ k m. all_over P _ s.kinds (λ l n.
              all_append P (lies k.p l.p (λ t. bound7 s.boards t k l)) (all_one P (h.r7 k m l n)) (all7 h k m l n)));
        })

    -- and what holds of the list holds of each rule
    pub rules_all : All P (rules s) → Rules s
    unfolding rules1 rules2 rules3 rules4 rules5 rules6 rules7
    rules_all h =
        let parts = rules_parts h in
        record {
          r1 = λ p l. one_all P (boards_all s.boards _ parts.one p l);
          r2 = λ p q l m. one_all P (boards_all s.boards _ (boards_all s.boards _ parts.two p l) q m);
          r3 = λ p q r l m n. one_all P (boards_all s.boards _ (boards_all s.boards _ (boards_all s.boards _ parts.three p l) q m) r n);
          r4 = λ l m. one_all P (over_all P _ s.lines parts.four l m);
          r5 = λ k m i l. one_all P (append_left P (lies k.p (way k i) (λ t. A)) _ (at5 parts.five k m i l));
          r5' =
              λ k m i j l n d.
              one_all P (only_all (not (eqb i j)) _ (ways_all k _ (append_right P (lies k.p (way k i) (λ t. A)) _ (at5 parts.five k m i l)) j n) d);
          r6 = λ k m z n. one_all P (append_left P (lies k.p z (λ t. bound6 s.boards t k z)) _ (at6 parts.six k m z n));
          r6' =
              λ k m z n i l.
              one_all P (ways_all k _ (append_right P (lies k.p z (λ t. bound6 s.boards t k z)) _ (at6 parts.six k m z n)) i l);
          r7 = λ k m l n. one_all P (append_left P (lies k.p l.p (λ t. bound7 s.boards t k l)) _ (at7 parts.seven k m l n));
          r7' =
              λ k m l n a i b.
              one_all P
              (ways_all k _ (only_all (agree k l) _ (append_right P (lies k.p l.p (λ t. bound7 s.boards t k l)) _ (at7 parts.seven k m l n)) a) i b);
        }
      where
        at5 : All P (rules5 s.kinds) → (k : KindLine) → Memᴰ k s.kinds → (i : ℕ) → i < width k
            → All P (lies k.p (way k i) (λ t. A) ++ ways_of k (λ j. only (not (eqb i j)) (lies (way k i) (way k j) (λ t. S))))
        at5 h k m i l = ways_all k _ (over_all P _ s.kinds h k m) i l

        at6 : All P (rules6 s.boards s.kinds) → (k : KindLine) → Memᴰ k s.kinds → (z : ℕ) → z < s.boards → All P (rule6 s.boards k z)
        at6 h k m z n = boards_all s.boards _ (over_all P _ s.kinds h k m) z n

        at7 : All P (rules7 s.boards s.kinds) → (k : KindLine) → Memᴰ k s.kinds → (l : KindLine) → Memᴰ l s.kinds
            → All P (rule7 s.boards k l)
        at7 h k m l n = over_all P _ s.kinds (over_all P _ s.kinds h k m) l n

-- ---- what a bound says

pub relations_pos : 1 < relations
unfolding relations
relations_pos = omega arith

pub same_small : same < relations
same_small = omega (arith, relations_pos)

pub unless_in : (b : Bool) (x m : ℕ) → (T (not b) → x lies_within m) → x lies_within unless b m
unless_in true x m f = lies_full x
unless_in false x m f = f tt

-- where the test fails the set is left
pub unless_not : (b : Bool) (m : ℕ) → (T b → ⊥) → unless b m ≡ m
unless_not true m f = absurd (f tt)
unless_not false m f = refl

pub unless_out : (b : Bool) (x m : ℕ) → x lies_within unless b m → T (not b) → x lies_within m
unless_out b x m s t = subst (λ (y : ℕ). x lies_within y) (unless_not b m (T_not b t)) s

-- to lack a relation is to lie within the others
pub lacks_lies : (x r : ℕ) → Lacks x r → x lies_within complement (2 ^ r)
lacks_lies x r l =
    record
    { member = λ n h t. complement_in (2 ^ r) n h (λ u. T_not (has x r) l (subst (λ (m : ℕ). T (has x m)) (single_has r n u) t)) }

pub lies_lacks : (x r : ℕ) → r < relations → x lies_within complement (2 ^ r) → Lacks x r
lies_lacks x r h s = not_T (has x r) (λ t. complement_out (2 ^ r) r h (s.member r h t) (has_single r))

pub misses_not : (x : ℕ) → Misses x → T (reaches x) → ⊥
unfolding reaches
misses_not x m t = ⊎_elim (T_not (has x same) m.0) (T_not (has x above) m.1) (T-or (has x same) (has x above) t)

pub not_misses : (x : ℕ) → (T (reaches x) → ⊥) → Misses x
unfolding reaches
not_misses x f = (
  not_T (has x same) (λ t. f (or_T_left (has x same) (has x above) t)),
  not_T (has x above) (λ t. f (or_T_right (has x same) (has x above) t)),
)

pub alike_agree : (k l : KindLine) → Alike k l → T (agree k l)
unfolding agree
alike_agree k l a =
    and_T (eqb k.code l.code) (eqb (width k) (width l)) (subst (λ (n : ℕ). T (eqb k.code n)) a.0 (eqb_refl k.code))
    (subst (λ (n : ℕ). T (eqb (width k) n)) a.1 (eqb_refl (width k)))

pub agree_alike : (k l : KindLine) → T (agree k l) → Alike k l
unfolding agree
agree_alike k l t = (
  eqb→eq k.code l.code (T-and_left (eqb k.code l.code) (eqb (width k) (width l)) t),
  eqb→eq (width k) (width l) (T-and_right (eqb k.code l.code) (eqb (width k) (width l)) t),
)

module _ (v : ℕ) (t : List ℕ) where
  -- what a bound leaves where nothing keeps it open; and rule 6, both parts, and rule 7, all three, say what their bounds say
  module _ (k : KindLine) (z : ℕ) where
    pub bound6_none : ((i : ℕ) → i < width k → Misses (cell v t (way k i) z)) → bound6 v t k z ≡ complement A
    unfolding bound6
    bound6_none f =
        unless_not (some_below (width k) (λ i. reaches (cell v t (way k i) z))) (complement A)
        (λ a. from (some_out (width k) (λ i. reaches (cell v t (way k i) z)) a))
      where
        from : (i : ℕ) × (i < width k) × T (reaches (cell v t (way k i) z)) → ⊥
        from m = misses_not (cell v t (way k m.0) z) (f m.0 m.1) m.2

    pub says6 : cell v t k.p z lies_within bound6 v t k z → ((i : ℕ) → i < width k → Misses (cell v t (way k i) z)) → Lacks (cell v t k.p z) above
    says6 h f = lies_lacks (cell v t k.p z) above relations_pos (subst (λ (b : ℕ). cell v t k.p z lies_within b) (bound6_none f) h)

    pub said6 : (((i : ℕ) → i < width k → Misses (cell v t (way k i) z)) → Lacks (cell v t k.p z) above) → cell v t k.p z lies_within bound6 v t k z
    unfolding bound6
    said6 f =
        unless_in (some_below (width k) (λ i. reaches (cell v t (way k i) z))) (cell v t k.p z) (complement A)
        (λ n.
        lacks_lies (cell v t k.p z) above
        (f
        (λ i h.
        not_misses (cell v t (way k i) z)
        (λ a.
        T_not (some_below (width k) (λ i. reaches (cell v t (way k i) z))) n (some_in (width k) (λ i. reaches (cell v t (way k i) z)) i h a)))))

    module _ (i : ℕ) where
      abbrev escapes : Bool
      escapes = not (within (cell v t k.p z) A)

      abbrev others : Bool
      others = some_below (width k) (λ j. not (eqb i j) && reaches (cell v t (way k j) z))

      pub bound6'_alone : cell v t k.p z lies_within A → ((j : ℕ) → j < width k → (i ≡ j → ⊥) → Misses (cell v t (way k j) z)) → bound6' v t k i z ≡ join E A
      unfolding bound6'
      bound6'_alone a f = unless_not (escapes || others) (join E A) (λ o. ⊎_elim left right (T-or escapes others o))
        where
          left : T escapes → ⊥
          left e = T_not (within (cell v t k.p z) A) e (lies_within_lem a)

          right : T others → ⊥
          right o = from (some_out (width k) (λ j. not (eqb i j) && reaches (cell v t (way k j) z)) o)
            where
              from : (j : ℕ) × (j < width k) × T (not (eqb i j) && reaches (cell v t (way k j) z)) → ⊥
              from m =
                  misses_not (cell v t (way k m.0) z)
                  (f m.0 m.1 (T-differ (T-and_left (not (eqb i m.0)) (reaches (cell v t (way k m.0) z)) m.2)))
                  (T-and_right (not (eqb i m.0)) (reaches (cell v t (way k m.0) z)) m.2)

      pub says6' : cell v t (way k i) z lies_within bound6' v t k i z → cell v t k.p z lies_within A
          → ((j : ℕ) → j < width k → (i ≡ j → ⊥) → Misses (cell v t (way k j) z)) → cell v t (way k i) z lies_within join E A
      says6' h a f = subst (λ (b : ℕ). cell v t (way k i) z lies_within b) (bound6'_alone a f) h

      pub said6' : (cell v t k.p z lies_within A → ((j : ℕ) → j < width k → (i ≡ j → ⊥) → Misses (cell v t (way k j) z)) → cell v t (way k i) z lies_within join E A)
          → cell v t (way k i) z lies_within bound6' v t k i z
      unfolding bound6'
      said6' f =
          unless_in (escapes || others) (cell v t (way k i) z) (join E A)
          (λ n.
          f
          (within_lies (cell v t k.p z) A (T_not-not (within (cell v t k.p z) A) (λ e. T_not (escapes || others) n (or_T_left escapes others e))))
          (λ j h d.
          not_misses (cell v t (way k j) z)
          (λ a.
          T_not (escapes || others) n
          (or_T_right escapes others
          (some_in (width k) (λ j. not (eqb i j) && reaches (cell v t (way k j) z)) j h
          (and_T (not (eqb i j)) (reaches (cell v t (way k j) z)) (differ_T d) a))))))

  module _ (k l : KindLine) where
    abbrev paired : Bool
    paired = each_below (width k) (λ i. has (cell v t (way k i) (way l i)) same)

    pub bound7_apart : (Alike k l → T paired → ⊥) → bound7 v t k l ≡ complement E
    unfolding bound7
    bound7_apart f =
        unless_not (agree k l && paired) (complement E)
        (λ a. f (agree_alike k l (T-and_left (agree k l) paired a)) (T-and_right (agree k l) paired a))

    pub lacks7 : cell v t k.p l.p lies_within bound7 v t k l → (Alike k l → T paired → ⊥) → Lacks (cell v t k.p l.p) same
    lacks7 h f = lies_lacks (cell v t k.p l.p) same same_small (subst (λ (b : ℕ). cell v t k.p l.p lies_within b) (bound7_apart f) h)

    says7 : cell v t k.p l.p lies_within bound7 v t k l → (Alike k l → ⊥) → Lacks (cell v t k.p l.p) same
    says7 h f = lacks7 h (λ a e. f a)

    says7' : cell v t k.p l.p lies_within bound7 v t k l → (i : ℕ) → i < width k → Lacks (cell v t (way k i) (way l i)) same
        → Lacks (cell v t k.p l.p) same
    says7' h i g f =
        lacks7 h (λ a e. T_not (has (cell v t (way k i) (way l i)) same) f (each_at (width k) (λ i. has (cell v t (way k i) (way l i)) same) e i g))

    pub said7 : ((Alike k l → ⊥) → Lacks (cell v t k.p l.p) same)
        → (Alike k l → (i : ℕ) → i < width k → Lacks (cell v t (way k i) (way l i)) same → Lacks (cell v t k.p l.p) same)
        → cell v t k.p l.p lies_within bound7 v t k l
    unfolding bound7
    said7 f g =
        unless_in (agree k l && paired) (cell v t k.p l.p) (complement E)
        (λ n. lacks_lies (cell v t k.p l.p) same (⊎_elim (λ a. alike (agree_alike k l a) a n) (λ d. f (λ a. T_not (agree k l) d (alike_agree k l a))) (T-decide (agree k l))))
      where
        alike : Alike k l → T (agree k l) → T (not (agree k l && paired)) → Lacks (cell v t k.p l.p) same
        alike a e n =
            not_T (has (cell v t k.p l.p) same)
            (λ h.
            T_not (agree k l && paired) n
            (and_T (agree k l) paired e
            (each_all (width k) (λ i. has (cell v t (way k i) (way l i)) same)
            (λ i b.
            T_not-not (has (cell v t (way k i) (way l i)) same) (λ c. T_not (has (cell v t k.p l.p) same) (g a i b c) h)))))

    pub says7'' : (i : ℕ) → cell v t (way k i) (way l i) lies_within bound7' v t k l → cell v t k.p l.p lies_within E → cell v t (way k i) (way l i) lies_within E
    unfolding bound7'
    says7'' i h a =
        unless_out (not (within (cell v t k.p l.p) E)) (cell v t (way k i) (way l i)) E h
        (not_T (not (within (cell v t k.p l.p) E)) (λ e. T_not (within (cell v t k.p l.p) E) e (lies_within_lem a)))

    pub said7'' : (i : ℕ) → (cell v t k.p l.p lies_within E → cell v t (way k i) (way l i) lies_within E) → cell v t (way k i) (way l i) lies_within bound7' v t k l
    unfolding bound7'
    said7'' i f =
        unless_in (not (within (cell v t k.p l.p) E)) (cell v t (way k i) (way l i)) E
        (λ n. f (within_lies (cell v t k.p l.p) E (T_not-not (within (cell v t k.p l.p) E) (λ e. T_not (not (within (cell v t k.p l.p) E)) n e))))

-- two cells within each other's converses are each other's converses
turned : (s : Sheet) (t : List ℕ) → Table s.boards t → (p q : ℕ) → at s t q p lies_within converse (at s t p q) → at s t p q lies_within converse (at s t q p)
    → at s t q p ≡ converse (at s t p q)
turned s t h p q a b =
    lies_antisym (h.small (s.boards * q + p)) (converse_small (at s t p q)) a
    (subst (λ (x : ℕ). converse (at s t p q) lies_within x) (converse_converse (at s t q p) (h.small (s.boards * q + p))) (converse_mono b))

-- a table is closed exactly if each rule of the list strikes nothing
pub closed_idle : {s : Sheet} {t : List ℕ} → Closed s t → All (Idle s.boards t) (rules s)
closed_idle {s} {t} c =
    all_rules (Idle s.boards t) s
    (record {
      r1 = c.rule1;
      r2 = λ p q h l. lies_eq (c.rule2 p q h l);
      r3 = c.rule3;
      r4 = c.rule4;
      r5 = c.rule5;
      r5' = λ k m i j h l d. c.rule5' k m i j h l (T-differ d);
      r6 = λ k m z h. said6 s.boards t k z (c.rule6 k m z h);
      r6' = λ k m z h i l. said6' s.boards t k z i (c.rule6' k m z h i l);
      r7 = λ k m l n. said7 s.boards t k l (c.rule7 k m l n) (c.rule7' k m l n);
      r7' = λ k m l n a i h. said7'' s.boards t k l i (λ b. c.rule7'' k m l n (agree_alike k l a) b i h);
    })

pub idle_closed : (s : Sheet) (t : List ℕ) → Table s.boards t → All (Idle s.boards t) (rules s) → Closed s t
idle_closed s t g h =
    let r = rules_all (Idle s.boards t) s h in
    record {
      rule1 = r.r1;
      rule2 = λ p q hp hq. turned s t g p q (r.r2 p q hp hq) (r.r2 q p hq hp);
      rule3 = r.r3;
      rule4 = r.r4;
      rule5 = r.r5;
      rule5' = λ k m i j b l d. r.r5' k m i j b l (differ_T d);
      rule6 = λ k m z b. says6 s.boards t k z (r.r6 k m z b);
      rule6' = λ k m z b i l. says6' s.boards t k z i (r.r6' k m z b i l);
      rule7 = λ k m l n. says7 s.boards t k l (r.r7 k m l n);
      rule7' = λ k m l n a i b. says7' s.boards t k l (r.r7 k m l n) i b;
      rule7'' = λ k m l n a b i d. says7'' s.boards t k l i (r.r7' k m l n (alike_agree k l a) i d) b;
    }

-- ---- bounds that grow with the table

abbrev pub Grows : (List ℕ → ℕ) → Type 0
Grows b = (u t : List ℕ) → Inside u t → b u lies_within b t

unless_grows : (a b : Bool) (m : ℕ) → (T a → T b) → unless a m lies_within unless b m
unless_grows true true m h = lies_refl full
unless_grows true false m h = absurd (h tt)
unless_grows false true m h = lies_full m
unless_grows false false m h = lies_refl m

pub reaches_grows : {x y : ℕ} → x lies_within y → T (reaches x) → T (reaches y)
unfolding reaches
reaches_grows {x} {y} s t =
    ⊎_elim (λ a. or_T_left (has y same) (has y above) (s.member same same_small a))
    (λ a. or_T_right (has y same) (has y above) (s.member above relations_pos a)) (T-or (has x same) (has x above) t)

-- having something else than what is in m
escapes_grows : {x y : ℕ} (m : ℕ) → x lies_within y → T (not (within x m)) → T (not (within y m))
escapes_grows {x} {y} m s t = not_T (within y m) (λ u. T_not (within x m) t (lies_within_lem (lies_trans s (within_lies y m u))))

module _ (v : ℕ) {u t : List ℕ} (i : Inside u t) where
  inside : (p q : ℕ) → cell v u p q lies_within cell v t p q
  inside p q = i.each (v * p + q)

  pub bound6_grows : (k : KindLine) (z : ℕ) → bound6 v u k z lies_within bound6 v t k z
  unfolding bound6
  bound6_grows k z =
      unless_grows (some_below (width k) (λ i. reaches (cell v u (way k i) z))) (some_below (width k) (λ i. reaches (cell v t (way k i) z))) (complement A)
      (λ a. more (some_out (width k) (λ i. reaches (cell v u (way k i) z)) a))
    where
      more : (i : ℕ) × (i < width k) × T (reaches (cell v u (way k i) z)) → T (some_below (width k) (λ i. reaches (cell v t (way k i) z)))
      more m = some_in (width k) (λ i. reaches (cell v t (way k i) z)) m.0 m.1 (reaches_grows (inside (way k m.0) z) m.2)

  pub bound6'_grows : (k : KindLine) (j z : ℕ) → bound6' v u k j z lies_within bound6' v t k j z
  unfolding bound6'
  bound6'_grows k j z =
      unless_grows
      (not (within (cell v u k.p z) A) || some_below (width k) (λ i. not (eqb j i) && reaches (cell v u (way k i) z)))
      (not (within (cell v t k.p z) A) || some_below (width k) (λ i. not (eqb j i) && reaches (cell v t (way k i) z)))
      (join E A)
      (λ a. ⊎_elim (λ b. or_T_left (not (within (cell v t k.p z) A)) _ (escapes_grows A (inside k.p z) b))
      (λ b. or_T_right (not (within (cell v t k.p z) A)) _ (more (some_out (width k) (λ i. not (eqb j i) && reaches (cell v u (way k i) z)) b)))
      (T-or (not (within (cell v u k.p z) A)) _ a))
    where
      more : (i : ℕ) × (i < width k) × T (not (eqb j i) && reaches (cell v u (way k i) z))
          → T (some_below (width k) (λ i. not (eqb j i) && reaches (cell v t (way k i) z)))
      more m =
          some_in (width k) (λ i. not (eqb j i) && reaches (cell v t (way k i) z)) m.0 m.1
          (and_T (not (eqb j m.0)) (reaches (cell v t (way k m.0) z)) (T-and_left (not (eqb j m.0)) (reaches (cell v u (way k m.0) z)) m.2)
          (reaches_grows (inside (way k m.0) z) (T-and_right (not (eqb j m.0)) (reaches (cell v u (way k m.0) z)) m.2)))

  pub bound7_grows : (k l : KindLine) → bound7 v u k l lies_within bound7 v t k l
  unfolding bound7
  bound7_grows k l =
      unless_grows (agree k l && each_below (width k) (λ i. has (cell v u (way k i) (way l i)) same))
      (agree k l && each_below (width k) (λ i. has (cell v t (way k i) (way l i)) same)) (complement E)
      (λ a. and_T (agree k l) _ (T-and_left (agree k l) _ a)
      (each_all (width k) (λ i. has (cell v t (way k i) (way l i)) same)
      (λ i h. (inside (way k i) (way l i)).member same same_small
      (each_at (width k) (λ i. has (cell v u (way k i) (way l i)) same) (T-and_right (agree k l) _ a) i h))))

  bound7'_grows : (k l : KindLine) → bound7' v u k l lies_within bound7' v t k l
  unfolding bound7'
  bound7'_grows k l =
      unless_grows (not (within (cell v u k.p l.p) E)) (not (within (cell v t k.p l.p) E)) E (escapes_grows E (inside k.p l.p))

pub rules_grow : (s : Sheet) → All (λ r. Grows r.bound) (rules s)
rules_grow s =
    all_rules (λ r. Grows r.bound) s
    (record {
      r1 = λ p h u t i. lies_refl E;
      r2 = λ p q h k u t i. converse_mono (i.each (s.boards * p + q));
      r3 = λ p q r h k l u t i. compose_mono (i.each (s.boards * p + q)) (i.each (s.boards * q + r));
      r4 = λ l m u t i. lies_refl l.allowed;
      r5 = λ k m i h u t n. lies_refl A;
      r5' = λ k m i j h l d u t n. lies_refl S;
      r6 = λ k m z h u t i. bound6_grows s.boards i k z;
      r6' = λ k m z h j l u t i. bound6'_grows s.boards i k j z;
      r7 = λ k m l n u t i. bound7_grows s.boards i k l;
      r7' = λ k m l n a j h u t i. bound7'_grows s.boards i k l;
    })
