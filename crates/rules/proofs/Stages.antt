-- Closing in stages, in any order of lines, gives the same table as closing once, unless that is contradictory; some stage is contradictory
-- exactly when the single closing is. Closed under more lines is closed under fewer, and the rest is "largest". Assumes nothing.
use mathlib.Core.Path.{◌≡◌, refl, sym, ap, ◌∙◌, subst}
use mathlib.Core.Bool.{Bool, true, false, ◌||◌}
use mathlib.Core.List.{List, [], ◌∷◌, Memᴰ}
use Prim.Native.Nat.{ℕ}
use lib.Dec.{T}
use Rattle.rules.specs.Descriptions.{RelationLine, KindLine, Sheet}
use Rattle.rules.specs.Tables.{Table, Inside, emptied}
use Rattle.rules.specs.Closed.{Closed, Largest}
use Rattle.rules.specs.Stages.{Among, left, Run, Stages}
use Rattle.rules.proofs.Tests.{true_T, T_true}
use Rattle.rules.proofs.Inside.{inside_trans, inside_antisym, emptied_inside}

-- closed under more lines is closed under fewer
fewer : (s w : Sheet) {t : List ℕ} → ((l : RelationLine) → Memᴰ l s.lines → Memᴰ l w.lines)
    → ((k : KindLine) → Memᴰ k s.kinds → Memᴰ k w.kinds) → Closed w t
    → Closed (record { boards = w.boards; lines = s.lines; kinds = s.kinds }) t
fewer s w f g c =
    record {
      rule1 = c.rule1;
      rule2 = c.rule2;
      rule3 = c.rule3;
      rule4 = λ l m. c.rule4 l (f l m);
      rule5 = λ k m. c.rule5 k (g k m);
      rule5' = λ k m. c.rule5' k (g k m);
      rule6 = λ k m. c.rule6 k (g k m);
      rule6' = λ k m. c.rule6' k (g k m);
      rule7 = λ k m l n. c.rule7 k (g k m) l (g l n);
      rule7' = λ k m l n. c.rule7' k (g k m) l (g l n);
      rule7'' = λ k m l n. c.rule7'' k (g k m) l (g l n);
    }

pub among_closed : {s w : Sheet} {t : List ℕ} → Among s w → Closed w t → Closed s t
among_closed {s} {w} {t} a c =
    subst (λ (v : ℕ). Closed (record { boards = v; lines = s.lines; kinds = s.kinds }) t) (sym a.boards) (fewer s w a.lines a.kinds c)

among_table : {s w : Sheet} {t : List ℕ} → Among s w → Table w.boards t → Table s.boards t
among_table {t = t} a h = subst (λ (v : ℕ). Table v t) (sym a.boards) h

-- what a run of stages comes to, beside the single closing l
record Same (l u : List ℕ) (c : Bool) : Type 0 where
  clash : emptied l ≡ c
  table : emptied l ≡ false → u ≡ l

true_false : {b : Bool} {X : Type 0} → b ≡ true → b ≡ false → X
true_false p q = absurd (subst T (sym p ∙ q) tt)

module _ {w : Sheet} {l : List ℕ} where
  -- the single closing is inside that of a stage, so a contradiction there is one here
  module _ {s : Sheet} {t u : List ℕ} (a : Among s w) (g : Largest w t l) (h : Largest s t u) where
    below : Inside l u
    below = h.largest l (among_table a g.table) (among_closed a g.closed) g.inside

    pub stage_clash : emptied u ≡ true → emptied l ≡ true
    stage_clash e = T_true (emptied_inside g.table below (true_T e))

    -- and it is the single closing of what the stage leaves
    onward : Largest w u l
    onward =
        record {
          table = g.table;
          closed = g.closed;
          inside = below;
          largest = λ x k c i. g.largest x k c (inside_trans i h.inside);
        }

    -- a stage with all the lines is the single closing
    whole : Among w s → u ≡ l
    whole b =
        inside_antisym (among_table b h.table) g.table (g.largest u (among_table b h.table) (among_closed b h.closed) h.inside) below

  same : (ss : List Sheet) → Stages w ss → (t u : List ℕ) (c : Bool) → Largest w t l → Run ss t u c → Same l u c
  unfolding Run Stages
  same [] a t u c g r = absurd a
  same (s ∷ []) a t u c g r = go (emptied r.0) refl r.3.0 r.3.1 r.4
    where
      go : (b : Bool) → emptied r.0 ≡ b → u ≡ left b t r.0 → r.1 ≡ false → c ≡ (b || r.1) → Same l u c
      go true e p q z = record { clash = stage_clash a.0 g r.2 e ∙ sym z; table = λ n. true_false (stage_clash a.0 g r.2 e) n }
      go false e p q z =
          let f = whole a.0 g r.2 a.1 in
          record { clash = ap emptied (sym f) ∙ e ∙ sym (z ∙ q); table = λ n. p ∙ f }
  same (s ∷ s' ∷ ss) a t u c g r = go (emptied r.0) refl r.3 r.4 (λ t d h k. same (s' ∷ ss) a.1 t u d h k)
    where
      go : (b : Bool) → emptied r.0 ≡ b → Run (s' ∷ ss) (left b t r.0) u r.1 → c ≡ (b || r.1)
          → ((t : List ℕ) (d : Bool) → Largest w t l → Run (s' ∷ ss) t u d → Same l u d) → Same l u c
      go true e k z f = record { clash = stage_clash a.0 g r.2 e ∙ sym z; table = λ n. true_false (stage_clash a.0 g r.2 e) n }
      go false e k z f =
          let m = f r.0 r.1 (onward a.0 g r.2) k in record { clash = m.clash ∙ sym z; table = m.table }

  -- some stage is contradictory exactly when the single closing is
  pub stages_clash : (ss : List Sheet) → Stages w ss → (t u : List ℕ) (c : Bool) → Largest w t l → Run ss t u c → emptied l ≡ c
  stages_clash ss a t u c g r = (same ss a t u c g r).clash

  -- the table after the last stage is that of the single closing, unless it is contradictory
  pub stages_table : (ss : List Sheet) → Stages w ss → (t u : List ℕ) (c : Bool) → Largest w t l → Run ss t u c → emptied l ≡ false → u ≡ l
  stages_table ss a t u c g r = (same ss a t u c g r).table

-- the lines of the first stage are among those of the whole
pub first_among : {w s : Sheet} (ss : List Sheet) → Stages w (s ∷ ss) → Among s w
unfolding Stages
first_among [] a = a.0
first_among (s ∷ ss) a = a.0
