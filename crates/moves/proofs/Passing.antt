-- One visit to the rules of kind lines after another, each of which tells whether it was left at an empty cell: to the numbers below a number, and to those of a set. What is to
-- be kept depends on the kind lines, of which it is only known that they fill the words. Assumes nothing.
use mathlib.Core.Path.{◌≡◌, refl, sym, ◌∙◌, subst}
use mathlib.Core.Bool.{not}
use mathlib.Core.Logic.{◌⊎◌, inl, inr, ⊎_elim}
use mathlib.Core.List.{List}
use Prim.Native.Nat.{ℕ, ◌+◌, ◌<◌}
use native.Mathlib.Omega.{arith}
use borrow.Author.Count.{below_none, below_more}
use Rattle.std.specs.Prelude.{Result, Ok, Err}
use Rattle.std.specs.Result.{IsErr}
use lib.Dec.{T, eqb, eqb→eq}
use lib.ListN.{length}
use Rattle.rules.specs.Relations.{has, ◌lies_within◌, converse}
use Rattle.rules.specs.Descriptions.{most_boards, KindLine}
use Rattle.rules.specs.Tables.{cell}
use Rattle.rules.specs.Closing.{Idle, rules2}
use Rattle.rules.proofs.Tests.{clash, and_T, T-and_left, T-decide}
use Rattle.rules.proofs.Sets.{lies_eq}
use Rattle.rules.proofs.Members.{all_one, one_all}
use Rattle.rules.proofs.Rules.{all_boards, boards_all}
use Rattle.passes.specs.Passes.{Idles}
use Rattle.kinds.specs.Sections.{WithKinds}
use Rattle.bits.specs.Sets.{removed}
use Rattle.bits.proofs.Laws.{has_zero, has_removed, removed_less}
use Rattle.by_board.specs.Found.{Listed}
use Rattle.moves.specs.declared.Emptied.{Emptied}
use Rattle.moves.specs.Moves.{Mirrored, Mutual, Moved, Lost, Went}
use Rattle.moves.specs.Visits.{Site, Visited}
use Rattle.moves.proofs.Moving.{moved_none, moved_then, moved_as, lost_then, lost_as}

-- where rule 2 strikes nothing, a board seen from another is turned
pub turned : (v : ℕ) (x : List ℕ) → Idles v (rules2 v) x → (p q : ℕ) → p < v → q < v → cell v x q p lies_within converse (cell v x p q)
unfolding rules2
turned v x d p q hp hq = one_all (Idle v x) (boards_all (Idle v x) v _ (boards_all (Idle v x) v _ d p hp) q hq)

-- rule 2 strikes nothing in a table that is the same seen from both sides
pub mirrored_idle : {v : ℕ} {t : List ℕ} → Mirrored v t → Idles v (rules2 v) t
unfolding rules2
mirrored_idle {v} {t} f =
    all_boards (Idle v t) v _ (λ p hp. all_boards (Idle v t) v _ (λ q hq. all_one (Idle v t) (lies_eq (f p q hp hq))))

-- a board of the table is one of few
pub board_few : {v : ℕ} {t : List ℕ} {a : ℕ} → Mutual v t → a < v → a < most_boards
board_few u h = omega (arith, u.ready.boards)

-- work that keeps more than is asked, and work that sees to something else as well
pub went_as : (C D : List ℕ → Type 0) (v : ℕ) (P : List ℕ → List ℕ → Type 0) (t m w n : List ℕ) (r : Result (Unit {0}) Emptied) → ((x : List ℕ) → D x → C x)
    → Went C v P t m w n r → Went D v P t m w n r
went_as C D v P t m w n (Ok _) f (moved, seen) = (moved_as f moved, seen)
went_as C D v P t m w n (Err _) f lost = lost_as f lost

pub went_so : (C : List ℕ → Type 0) (v : ℕ) (P Q : List ℕ → List ℕ → Type 0) (t m w n : List ℕ) (r : Result (Unit {0}) Emptied) → (Moved C v t m w n → P n w → Q n w)
    → Went C v P t m w n r → Went C v Q t m w n r
went_so C v P Q t m w n (Ok _) f (moved, seen) = (moved, f moved seen)
went_so C v P Q t m w n (Err _) f lost = lost

-- work that was left at an empty cell, as a `?` hands that on
pub went_err : (C : List ℕ → Type 0) (v : ℕ) (P : List ℕ → List ℕ → Type 0) (t m w n : List ℕ) (r : Result (Unit {0}) Emptied) → IsErr r → Lost C v t
    → Went C v P t m w n r
went_err C v P t m w n (Ok _) e lost = clash (cc)
went_err C v P t m w n (Err _) e lost = lost

pub visited_err : (C : List KindLine → List ℕ → Type 0) (v count : ℕ) (ws : List ℕ) (P : List KindLine → List ℕ → List ℕ → Type 0) (t m w n : List ℕ) (r : Result (Unit {0}) Emptied)
    → IsErr r → WithKinds v count ws (λ ks. Lost (C ks) v t) → Visited C v count ws P t m w n r
visited_err C v count ws P t m w n r e lost ks fill = went_err (C ks) v (P ks) t m w n r e (lost ks fill)

-- P stays as table and list move
abbrev pub Steady : ℕ → (List ℕ → List ℕ → Type 0) → Type 1
Steady v P = (C : List ℕ → Type 0) (t m w n : List ℕ) → Moved C v t m w n → P m t → P n w

module _ (C : List KindLine → List ℕ → Type 0) (v count : ℕ) (ws xs : List ℕ) where
  -- so far table and list have moved, whichever kind lines fill the words, and are as long as they were
  pub record Going (t m w n : List ℕ) : Type 0 where
    pub site : Site v count ws xs w n
    pub gone : WithKinds v count ws (λ ks. Moved (C ks) v t m w n)
    pub long : length w ≡ length t
    pub words : length n ≡ length m

  -- Q is seen to of each number below i
  pub record Counting (Q : ℕ → List ℕ → List ℕ → Type 0) (i : ℕ) (t m w n : List ℕ) : Type 0 where
    pub going : Going t m w n
    pub done : (j : ℕ) → j < i → Q j n w

  -- Q is seen to of each number of the set `all` that is not in the set `left`
  pub record Passing (Q : ℕ → List ℕ → List ℕ → Type 0) (all left : ℕ) (t m w n : List ℕ) : Type 0 where
    pub going : Going t m w n
    pub among : (i : ℕ) → T (has left i) → T (has all i)
    pub done : (i : ℕ) → T (has all i) → T (has left i) ⊎ Q i n w

-- the kind lines with the table and the list that were moved
pub moved_site : {C : List ℕ → Type 0} {v count : ℕ} {ws xs t m w n : List ℕ} → Listed v count ws xs → Moved C v t m w n → Site v count ws xs w n
moved_site l g = record { table = g.fit; list = g.list; listed = l }

module _ {C : List KindLine → List ℕ → Type 0} {v count : ℕ} {ws xs : List ℕ} where
  -- ---- one visit more

  going_none : {t m : List ℕ} → Site v count ws xs t m → Going C v count ws xs t m t m
  going_none s = record { site = s; gone = λ ks fill. moved_none s.table s.list; long = refl; words = refl }

  module _ {t m u k : List ℕ} (g : Going C v count ws xs t m u k) (P : List ℕ → List ℕ → Type 0) (w n : List ℕ) where
    going_lost : {d : Emptied} → Visited C v count ws (λ ks. P) u k w n (Err d) → WithKinds v count ws (λ ks. Lost (C ks) v t)
    going_lost h ks fill = lost_then (g.gone ks fill) (h ks fill)

    module _ {d : Unit {0}} (h : Visited C v count ws (λ ks. P) u k w n (Ok d)) where
      going_next : Going C v count ws xs t m w n
      going_next =
          let (ks, fill) = g.site.listed.lines.0 in
          let moved = (h ks fill).0 in
          record {
            site = moved_site g.site.listed moved;
            gone = λ ks fill. moved_then (g.gone ks fill) (h ks fill).0;
            long = moved.inside.cells ∙ g.long;
            words = moved.list.words ∙ sym g.site.list.words ∙ g.words;
          }

      -- what is seen to, and what stays so
      going_seen : P n w
      going_seen = let (ks, fill) = g.site.listed.lines.0 in (h ks fill).1

      going_stays : {R : List ℕ → List ℕ → Type 0} → Steady v R → R k u → R n w
      going_stays steady r = let (ks, fill) = g.site.listed.lines.0 in steady (C ks) u k w n (h ks fill).0 r

  module _ {Q : ℕ → List ℕ → List ℕ → Type 0} where
    -- ---- to the numbers below a number

    pub counting_none : {t m : List ℕ} → Site v count ws xs t m → Counting C v count ws xs Q 0 t m t m
    counting_none s = record { going = going_none s; done = below_none _ }

    module _ {i : ℕ} {t m u k : List ℕ} (p : Counting C v count ws xs Q i t m u k) (w n : List ℕ) where
      pub counting_lost : {d : Emptied} → Visited C v count ws (λ ks. Q i) u k w n (Err d) → WithKinds v count ws (λ ks. Lost (C ks) v t)
      counting_lost = going_lost p.going (Q i) w n

      pub counting_next : {d : Unit {0}} → Visited C v count ws (λ ks. Q i) u k w n (Ok d) → ((j : ℕ) → Steady v (Q j))
          → Counting C v count ws xs Q (i + 1) t m w n
      counting_next h steady =
          record {
            going = going_next p.going (Q i) w n h;
            done = below_more _ _ (λ j l. going_stays p.going (Q i) w n h (steady j) (p.done j l)) (going_seen p.going (Q i) w n h);
          }

    -- ---- to the numbers of a set

    pub passing_none : {all left : ℕ} {t m : List ℕ} → Site v count ws xs t m → left ≡ all → Passing C v count ws xs Q all left t m t m
    passing_none s e =
        record {
          going = going_none s;
          among = λ i a. subst (λ (x : ℕ). T (has x i)) e a;
          done = λ i a. inl (subst (λ (x : ℕ). T (has x i)) (sym e) a);
        }

    module _ {all left : ℕ} {t m u k : List ℕ} (p : Passing C v count ws xs Q all left t m u k) where
      -- the rest is less
      pub passing_less : (i : ℕ) → T (has left i) → {rest : ℕ} → rest ≡ removed left i → rest < left
      passing_less i here e = subst (λ (x : ℕ). x < left) (sym e) (removed_less left i here)

      module _ (i : ℕ) (w n : List ℕ) where
        pub passing_lost : {d : Emptied} → Visited C v count ws (λ ks. Q i) u k w n (Err d) → WithKinds v count ws (λ ks. Lost (C ks) v t)
        passing_lost = going_lost p.going (Q i) w n

        pub passing_next : {d : Unit {0}} → Visited C v count ws (λ ks. Q i) u k w n (Ok d) → T (has left i) → {rest : ℕ} → rest ≡ removed left i
            → ((j : ℕ) → Steady v (Q j)) → Passing C v count ws xs Q all rest t m w n
        passing_next h here {rest} r steady =
            subst (λ (y : ℕ). Passing C v count ws xs Q all y t m w n) (sym r)
            (record {
              going = going_next p.going (Q i) w n h;
              among = λ j a. p.among j (T-and_left (has left j) (not (eqb i j)) (subst T (has_removed left i j here) a));
              done =
                  λ j a.
                  ⊎_elim
                  (λ b.
                  ⊎_elim (λ d. inr (subst (λ (j : ℕ). Q j n w) (eqb→eq i j d) (going_seen p.going (Q i) w n h)))
                  (λ d. inl (subst T (sym (has_removed left i j here)) (and_T (has left j) (not (eqb i j)) b d))) (T-decide (eqb i j)))
                  (λ q. inr (going_stays p.going (Q i) w n h (steady j) q)) (p.done j a);
            })

      pub passing_end : left ≡ 0 → (i : ℕ) → T (has all i) → Q i k u
      passing_end e i a = ⊎_elim (λ b. absurd (subst T (has_zero i) (subst (λ (x : ℕ). T (has x i)) e b))) (λ q. q) (p.done i a)
