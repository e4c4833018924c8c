-- Rule 2 of two boards, of a board and those after it, and of all: one pair after the other, and what is left. Assumes nothing.
use mathlib.Core.Path.{◌≡◌, refl, sym, ap, ◌∙◌, subst}
use mathlib.Core.Bool.{Bool, true, false}
use Rattle.std.specs.Prelude.{Result, Ok, Err, IsErr}
use mathlib.Core.Logic.{⊎_elim, ◌⊎◌}
use mathlib.Core.List.{List}
use Prim.Native.Nat.{ℕ, ◌+◌, ◌*◌, ◌<◌}
use native.Mathlib.Omega.{arith}
use borrow.Author.Tests.{eq-eqb}
use lib.Dec.{T, eqb, eqb→eq, not_T}
use lib.ListN.{length, get_or}
use Rattle.rules.specs.Relations.{relations, E, same, has, set_to, set_of, full, set_limit, ◌lies_within◌, converse}
use Rattle.rules.specs.Tables.{cell, Inside, emptied}
use Rattle.rules.specs.Closing.{rules2}
use Rattle.rules.proofs.Tests.{clash, order_cases}
use Rattle.rules.proofs.Digits.{has_zero, has_single}
use Rattle.rules.proofs.Sets.{set_of_small, lies_trans, lies_antisym, lies_full, lies_one, meet_left, meet_right, meet_largest}
use Rattle.rules.proofs.Composition.{converse_small, converse_mono, converse_converse, converse_zero}
use Rattle.rules.proofs.Rules.{same_small}
use Rattle.rules.proofs.Inside.{each_place, inside_refl, inside_trans, emptied_out}
use Rattle.passes.specs.Passes.{Filled, Idles, Ready}
use Rattle.moves.specs.declared.Emptied.{Emptied}
use Rattle.moves.specs.Moves.{told_of, Marks, Off, Mirrored, written_both, noted, Lost}
use Rattle.moves.proofs.Striking.{within_none, written_here, written_there, put_idle, put_some, put_lost}
use Rattle.moves.proofs.Reading.{is_told}
use Rattle.moves.proofs.Passing.{turned}
use Rattle.moves.proofs.Moving.{place_one, turned_E, both_inside, both_table, both_keeps, both_other, noted_list, noted_off, noted_here, off_mirror, off_both}
use Rattle.sweeps.specs.Sweeps.{Selves, allowed, Level, Levels, Leveled, Sided, Sides, Noted}

full_small : full < set_limit
unfolding full
full_small = set_of_small (λ r. true)

pub full_is : full ≡ 15
unfolding relations set_to set_of full
full_is = refl

turned_full : converse full ≡ full
turned_full =
    lies_antisym (converse_small full) full_small (lies_full (converse full))
    (subst (λ (x : ℕ). x lies_within converse full) (converse_converse full full_small) (converse_mono (lies_full (converse full))))

full_some : full ≡ 0 → ⊥
full_some e = subst T (has_zero same) (subst (λ (x : ℕ). T (has x same)) e ((lies_full E).member same same_small (has_single same)))

-- a set that has all
all_full : {x : ℕ} → x < set_limit → full lies_within x → x ≡ full
all_full {x} h f = lies_antisym h full_small (lies_full x) f

-- two boards of which all is allowed
pub level_not : {v p q is : ℕ} {t m : List ℕ} → Ready v t → is ≡ allowed v t p q → is ≡ full → Level v p q t m t m (Ok tt)
level_not {v} {p} {q} {is} {t} r e f =
    let c : allowed v t p q ≡ full = sym e ∙ f in
    let here : cell v t p q ≡ full =
    all_full (r.table.small _) (subst (λ (x : ℕ). x lies_within cell v t p q) c (meet_left (cell v t p q) (converse (cell v t q p)))) in
    let side : converse (cell v t q p) ≡ full =
    all_full (converse_small (cell v t q p)) (subst (λ (x : ℕ). x lies_within converse (cell v t q p)) c (meet_right (cell v t p q) (converse (cell v t q p)))) in
    let there : cell v t q p ≡ full = sym (converse_converse (cell v t q p) (r.table.small _)) ∙ ap converse side ∙ turned_full in
    put_idle (here ∙ sym c) (there ∙ sym (ap converse c ∙ turned_full)) (λ z. full_some (sym c ∙ z)) (eq-eqb _ _ c)

-- part by part, by what both sides allow
-- what it leaves, part by part
pub full_cells : (v p q : ℕ) (t : List ℕ) → Ready v t → allowed v t p q ≡ 15 → t ≡ written_both v t p q (allowed v t p q)
full_cells v p q t r e = (level_not {m = t} r refl (e ∙ sym full_is)).cells

pub full_list : (x p q : ℕ) (m : List ℕ) → x ≡ 15 → m ≡ noted (eqb x full) m p q
full_list x p q m e = subst (λ (b : Bool). m ≡ noted b m p q) (sym (eq-eqb _ _ (e ∙ sym full_is))) refl

pub full_told : (x : ℕ) → x ≡ 15 → Ok tt ≡ told_of (eqb x 0)
full_told x e = subst (λ (x : ℕ). Ok tt ≡ told_of (eqb x 0)) (sym e) refl

-- ---- one pair

module _ (v p q : ℕ) (t : List ℕ) (r : Ready v t) (less : p < q) (hq : q < v) where
  hp : p < v
  hp = omega arith

  abbrev kept : ℕ
  kept = allowed v t p q

  abbrev bound : ℕ
  bound = converse (cell v t q p)

  abbrev after : List ℕ
  after = written_both v t p q kept

  sides : v * p + q ≡ v * q + p → ⊥
  sides e = let f : p ≡ q = (place_one v p q q p hq hp e).0 in let z : ⊥ = omega arith in z

  here : cell v after p q ≡ kept
  here = written_here kept r hp hq sides

  there : cell v after q p ≡ converse kept
  there = written_there kept r hp hq

  after_inside : Inside after t
  after_inside =
      both_inside v p q bound t
      (subst (λ (x : ℕ). converse kept lies_within x) (converse_converse (cell v t q p) (r.table.small _)) (converse_mono (meet_right (cell v t p q) bound)))

  -- what rule 2 allows
  within : (x : List ℕ) → Idles v (rules2 v) x → Inside x t → cell v x p q lies_within kept
  within x d i = meet_largest (i.each (v * p + q)) (lies_trans (turned v x d q p hq hp) (converse_mono (i.each (v * q + p))))

  module _ {m w n : List ℕ} (l : Marks v m) where
    pub level_lost : {d : Emptied} → Level v p q t m w n (Err d) → Lost (Idles v (rules2 v)) v t
    level_lost s x h d i = put_lost s hp hq h (within x d i)

    pub level_sides : Level v p q t m w n (Ok tt) → Sides v (λ a b. (a ≡ p) × (b ≡ q)) t m w n
    level_sides s =
        subst (λ (y : List ℕ). Sides v (λ a b. (a ≡ p) × (b ≡ q)) t m y n) (sym s.cells)
        (subst (λ (k : List ℕ). Sides v (λ a b. (a ≡ p) × (b ≡ q)) t m after k) (sym s.list) (go (eqb kept full) refl))
      where
        -- a place that is neither
        beside : (a b : ℕ) → a < b → b < v → ((a ≡ p) × (b ≡ q) → ⊥) → (cell v after a b ≡ cell v t a b) × (cell v after b a ≡ cell v t b a)
        beside a b h hb d = (
          both_other v p q bound t (v * a + b) (λ e. d (place_one v a b p q hb hq e)) (λ e. crossed a b h hb e),
          both_other v p q bound t (v * b + a) (λ e. crossed' a b h hb e) (λ e. let (f, g) = place_one v b a q p (omega arith) hp e in d (g, f)),
        )
          where
            crossed : (a b : ℕ) → a < b → b < v → v * a + b ≡ v * q + p → ⊥
            crossed a b h hb e = let (f, g) = place_one v a b q p hb hp e in let z : ⊥ = omega arith in z

            crossed' : (a b : ℕ) → a < b → b < v → v * b + a ≡ v * p + q → ⊥
            crossed' a b h hb e = let (f, g) = place_one v b a p q (omega arith) hq e in let z : ⊥ = omega arith in z

        both : (z : Bool) → eqb kept full ≡ z → ((a b : ℕ) → Off v (noted z m p q) a b → Off v m a b) → Marks v (noted z m p q)
            → (Off v (noted z m p q) p q → kept ≡ full) → Sides v (λ a b. (a ≡ p) × (b ≡ q)) t m after (noted z m p q)
        both z e off list known =
            record {
              table = both_table v p q bound t r.table;
              inside = after_inside;
              keeps = λ x d i. both_keeps v p q bound t x (within x d i) (turned v x d p q hp hq) i;
              list = list;
              diagonal = λ a ha. both_other v p q bound t (v * a + a) (λ e. let (f, g) = place_one v a a p q ha hq e in let z : ⊥ = omega arith in z) (λ e. let (f, g) = place_one v a a q p ha hp e in let z : ⊥ = omega arith in z);
              others = λ a b h hb f. ⊎_elim (λ d. this d) (λ d. let (c, c') = beside a b h hb d in record { turned = c' ∙ f.turned ∙ ap converse (sym c); some = λ z. f.some (sym c ∙ z); known = λ o. c ∙ f.known (off a b o) }) (is_told p q a b);
              these = λ a b h hb d. this d;
            }
          where
            this : {a b : ℕ} → (a ≡ p) × (b ≡ q) → Sided v (noted z m p q) after a b
            this {a} {b} d =
                subst (λ (x : ℕ). Sided v (noted z m p q) after x b) (sym d.0)
                (subst (λ (y : ℕ). Sided v (noted z m p q) after p y) (sym d.1)
                (record { turned = there ∙ ap converse (sym here); some = λ e. put_some s (sym here ∙ e); known = λ o. here ∙ known o }))

        go : (z : Bool) → eqb kept full ≡ z → Sides v (λ a b. (a ≡ p) × (b ≡ q)) t m after (noted z m p q)
        go true e = both true e (λ a b o. o) l (λ o. eqb→eq kept full (subst T (sym e) tt))
        go false e =
            both false e (λ a b o. (noted_off v p q m l r.boards hp hq o).0) (noted_list v p q m l r.boards hp hq)
            (λ o. absurd ((off_both o).0 (noted_here v p q m l r.boards hp hq)))

-- ---- pairs one after the other

module _ {v : ℕ} where
  pub sides_none : {t m : List ℕ} → Ready v t → Marks v m → Sides v (λ a b. ⊥) t m t m
  sides_none {t} r l =
      record { table = r.table; inside = inside_refl t; keeps = λ x d i. i; list = l; diagonal = λ a h. refl; others = λ a b h hb f. f; these = λ a b h hb d. absurd d }

  pub sides_then : {D F : ℕ → ℕ → Type 0} {t m u k w n : List ℕ} → Sides v D t m u k → Sides v F u k w n → Sides v (λ a b. D a b ⊎ F a b) t m w n
  sides_then f g =
      record {
        table = g.table;
        inside = inside_trans g.inside f.inside;
        keeps = λ x d i. g.keeps x d (f.keeps x d i);
        list = g.list;
        diagonal = λ a h. g.diagonal a h ∙ f.diagonal a h;
        others = λ a b h hb s. g.others a b h hb (f.others a b h hb s);
        these = λ a b h hb d. ⊎_elim (λ e. g.others a b h hb (f.these a b h hb e)) (g.these a b h hb) d;
      }

  pub sides_as : {D F : ℕ → ℕ → Type 0} {t m w n : List ℕ} → ((a b : ℕ) → a < b → b < v → F a b → D a b) → Sides v D t m w n → Sides v F t m w n
  sides_as f g =
      record {
        table = g.table;
        inside = g.inside;
        keeps = g.keeps;
        list = g.list;
        diagonal = g.diagonal;
        others = g.others;
        these = λ a b h hb d. g.these a b h hb (f a b h hb d);
      }

  pub sides_lost : {D : ℕ → ℕ → Type 0} {t m u k : List ℕ} → Sides v D t m u k → Lost (Idles v (rules2 v)) v u → Lost (Idles v (rules2 v)) v t
  sides_lost f g x h d i = g x h d (f.keeps x d i)

  -- an empty cell, as a `?` hands that on
  pub levels_err : (D : ℕ → ℕ → Type 0) (t m w n : List ℕ) (r : Result (Unit {0}) Emptied) → IsErr r → Lost (Idles v (rules2 v)) v t → Levels v D t m w n r
  levels_err D t m w n (Ok _) e lost = clash (cc)
  levels_err D t m w n (Err _) e lost = lost

  pub leveled_err : (t w n : List ℕ) (r : Result (Unit {0}) Emptied) → IsErr r → Lost (Idles v (rules2 v)) v t → Leveled v t w n r
  leveled_err t w n (Ok _) e lost = clash (cc)
  leveled_err t w n (Err _) e lost = lost

  -- ---- all pairs

  module _ {t m w n : List ℕ} (r : Ready v t) (selves : Selves v t) (g : Sides v (λ a b. a < v) t m w n) (some : (a : ℕ) → a < v → cell v t a a ≡ 0 → ⊥) where
    every : (a b : ℕ) → a < b → b < v → Sided v n w a b
    every a b h hb = g.these a b h hb (omega arith)

    itself : (a : ℕ) → a < v → cell v w a a ≡ E
    itself a h =
        lies_one same (g.table.small _) same_small (lies_trans (g.inside.each (v * a + a)) (selves a h)) (λ e. some a h (sym (g.diagonal a h) ∙ e))

    all_mirrored : Mirrored v w
    all_mirrored p q hp hq = ⊎_elim (λ l. (every p q l hq).turned) (⊎_elim (λ l. back (every q p l hp).turned) one) (order_cases p q)
      where
        back : cell v w p q ≡ converse (cell v w q p) → cell v w q p ≡ converse (cell v w p q)
        back e = sym (converse_converse (cell v w q p) (g.table.small _)) ∙ ap converse (sym e)

        one : p ≡ q → cell v w q p ≡ converse (cell v w p q)
        one e = subst (λ (x : ℕ). cell v w x p ≡ converse (cell v w p x)) e (itself p hp ∙ sym (ap converse (itself p hp) ∙ turned_E))

    all_filled : Filled w
    all_filled = not_T (emptied w) (λ e. from (emptied_out w e))
      where
        each : (p q : ℕ) → p < v → q < v → cell v w p q ≡ 0 → ⊥
        each p q hp hq e =
            ⊎_elim (λ l. (every p q l hq).some e)
            (⊎_elim (λ l. (every q p l hp).some (all_mirrored p q hp hq ∙ ap converse e ∙ converse_zero)) (λ d. some p hp (sym (g.diagonal p hp) ∙ subst (λ (x : ℕ). cell v w p x ≡ 0) (sym d) e)))
            (order_cases p q)

        from : (k : ℕ) × (k < length w) × (get_or w k 0 ≡ 0) → ⊥
        from m = each_place (λ k. get_or w k 0 ≡ 0 → ⊥) g.table each m.0 m.1 m.2

    pub sides_noted : Noted v t w n
    sides_noted =
        record {
          fit = record { ready = record { boards = r.boards; table = g.table }; mirrored = all_mirrored; selves = itself; filled = all_filled };
          inside = g.inside;
          keeps = g.keeps;
          list = g.list;
          known =
              λ p q d o.
              ⊎_elim (λ l. (every p q l o.second).known o)
              (⊎_elim (λ l. all_mirrored q p o.second o.first ∙ ap converse ((every q p l o.first).known (off_mirror o)) ∙ turned_full) (λ e. absurd (d e)))
              (order_cases p q);
        }

-- a board that is not even itself
pub diagonal_lost : {v p : ℕ} {t : List ℕ} → p < v → cell v t p p ≡ 0 → Lost (Idles v (rules2 v)) v t
diagonal_lost {v} {p} {t} h e x g d i = within_none g h h (subst (λ (y : ℕ). cell v x p p lies_within y) e (i.each (v * p + p)))
