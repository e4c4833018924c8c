-- Visits one after the other, and pairs taken off the list one after the other: what they keep, and what is left when nothing is on the list. Assumes nothing.
use mathlib.Core.Path.{◌≡◌, sym, subst}
use mathlib.Core.List.{List, ◌++◌, Memᴰ}
use Prim.Native.Nat.{ℕ, ◌+◌, ◌*◌, ◌^◌, ◌-◌, ◌≤◌, ◌<◌}
use native.Mathlib.Nat.{lt_of_lt_of_le, mul-le-mul}
use native.Mathlib.Omega.{arith}
use lib.Dec.{T}
use lib.ListN.{length, get_or, replicate, length-replicate}
use lib.Pow.{pow_pos, pow_mono}
use Rattle.std.specs.Prelude.{Some, Result, Ok, Err, IsErr}
use Rattle.rules.specs.Relations.{has}
use Rattle.rules.specs.Descriptions.{most_boards, most_cells, KindLine}
use Rattle.rules.specs.Tables.{Inside, total}
use Rattle.rules.specs.Arrangements.{way, width}
use Rattle.rules.proofs.Tests.{clash}
use Rattle.rules.specs.Closing.{Rule, Idle, rules2, rules3, rules6, rules7}
use Rattle.rules.proofs.Digits.{has_zero, has_small}
use Rattle.rules.proofs.Members.{zeros, all_append, append_left, append_right}
use Rattle.rules.proofs.Inside.{inside_refl, inside_trans, total_mono}
use Rattle.passes.specs.Passes.{Clash, Idles, Ready}
use Rattle.kinds.specs.Sections.{Kinds}
use Rattle.by_board.specs.Found.{numbered}
use Rattle.by_board.proofs.Numbers.{numbered_out, numbered_stands}
use Rattle.bits.specs.Sets.{word_bits}
use Rattle.bits.proofs.Laws.{lowest_has}
use Rattle.moves.specs.declared.Emptied.{Emptied}
use Rattle.moves.specs.Watches.{through, feeds, feeds', apart}
use Rattle.moves.specs.Moves.{Marks, marks, FirstMarked, PairTaken, Mutual, Moved, Tended, Lost, FedFor, MatchedFor, Owed}
use Rattle.moves.specs.Visits.{Keeping}
use Rattle.moves.proofs.Moving.{off_neither, moved_then, moved_as, tended_moved}
use Rattle.moves.proofs.Reading.{through_honest, feeds_honest, feeds'_honest, apart_honest}
use Rattle.sweeps.specs.Sweeps.{Evenly, ThroughEach, ThroughBoth, Noted}
use Rattle.rounds.specs.Rounds.{rules_again, Settled, Again, Cleared, LinesSeen, Seen, Drained, drained, after_rounds}
use Rattle.rounds.proofs.Owing.{owed_idle}
use Rattle.rounds.proofs.Popping.{popped, popped_list, popped_fewer, OnBoards, owed_popped}

-- ---- some of the rules

module _ (v : ℕ) (ks : List KindLine) (x : List ℕ) (d : Again v ks x) where
  rest : Idles v (rules6 v ks ++ (rules7 v ks ++ rules3 v)) x
  rest = append_right (Idle v x) (rules2 v) _ d

  pub again_two : Idles v (rules2 v) x
  again_two = append_left (Idle v x) (rules2 v) _ d

  pub again_three : Evenly v x
  again_three = all_append (Idle v x) (rules2 v) again_two (append_right (Idle v x) (rules7 v ks) (rules3 v) (append_right (Idle v x) (rules6 v ks) _ rest))

  pub again_six : Keeping rules6 v ks x
  again_six = all_append (Idle v x) (rules2 v) again_two (append_left (Idle v x) (rules6 v ks) _ rest)

  pub again_seven : Keeping rules7 v ks x
  again_seven = all_append (Idle v x) (rules2 v) again_two (append_left (Idle v x) (rules7 v ks) (rules3 v) (append_right (Idle v x) (rules6 v ks) _ rest))

-- ---- what was seen to stays so

module _ {C : List ℕ → Type 0} {v : ℕ} {t m w n : List ℕ} (g : Moved C v t m w n) where
  pub through_moved : {p q : ℕ} → ThroughEach v p q m t → ThroughEach v p q n w
  through_moved {p} {q} f r h = tended_moved g (through v p q r) (through_honest v p q r) (f r h)

  pub fed_for_moved : {ks : List KindLine} {p q : ℕ} → FedFor v ks p q m t → FedFor v ks p q n w
  fed_for_moved {ks} {p} {q} f =
      record {
        panel = λ k a r. tended_moved g (feeds v k q) (feeds_honest v k q) (f.panel k a r);
        ways = λ k a i h r. tended_moved g (feeds' v k i q) (feeds'_honest v k i q) (f.ways k a i h r);
      }

  pub apart_moved : (k l : KindLine) → Tended v m t (apart v k l) → Tended v n w (apart v k l)
  apart_moved k l f = tended_moved g (apart v k l) (apart_honest v k l) f

-- visits to rule 6 from both sides and to rule 7, one after the other
pub lines_seen : {v : ℕ} {ks : List KindLine} {p q : ℕ} {t m u k u' k' w n : List ℕ} → Moved (Keeping rules6 v ks) v t m u k
    → FedFor v ks p q k u → Moved (Keeping rules6 v ks) v u k u' k' → FedFor v ks q p k' u'
    → Moved (Keeping rules7 v ks) v u' k' w n → MatchedFor v ks p q n w → Moved (Again v ks) v t m w n × LinesSeen v ks p q n w
lines_seen {v} {ks} f f6 g g6 h h7 = (
  moved_then (moved_as (again_six v ks) f) (moved_then (moved_as (again_six v ks) g) (moved_as (again_seven v ks) h)),
  record { fed = fed_for_moved h (fed_for_moved g f6); fed' = fed_for_moved h g6; matched = h7 },
)

-- and one to rule 3 before them
pub all_seen : {v : ℕ} {ks : List KindLine} {p q : ℕ} {t m u k w n : List ℕ} → Moved (Evenly v) v t m u k → ThroughBoth v p q k u → Moved (Again v ks) v u k w n
    → LinesSeen v ks p q n w → Moved (Again v ks) v t m w n × Seen v ks p q n w
all_seen {v} {ks} f f3 h lines =
    (moved_then (moved_as (again_three v ks) f) h, record { through = (through_moved h f3.0, through_moved h f3.1); lines = lines })

-- without kind lines there is nothing to see
pub lines_none : (v count : ℕ) (ws : List ℕ) (ks : List KindLine) → Kinds v count ws ks → count ≡ 0 → (p q : ℕ) (n w : List ℕ) → LinesSeen v ks p q n w
lines_none v count ws ks e z p q n w =
    record {
      fed = record { panel = λ k a. never k a; ways = λ k a. never k a };
      fed' = record { panel = λ k a. never k a; ways = λ k a. never k a };
      matched = record { panels = λ k a. never k a; ways = λ k a. never k a };
    }
  where
    never : {X : Type 0} (k : KindLine) → Memᴰ k ks → X
    never k a = let m = numbered_out v count ws ks e k a in let l = m.1 in let no' : ⊥ = omega arith in absurd no'

-- ---- the boards of kind lines

pub on_boards : (v count : ℕ) (ws : List ℕ) (ks : List KindLine) → Kinds v count ws ks → OnBoards v ks
on_boards v count ws ks e k a = from (numbered_out v count ws ks e k a)
  where
    from : (n : ℕ) × (n < count) × (numbered ws n ≡ k) → (k.p < v) × ((i : ℕ) → i < width k → way k i < v)
    from m =
        subst (λ (k : KindLine). (k.p < v) × ((i : ℕ) → i < width k → way k i < v)) m.2
        (let s = (numbered_stands v count ws (ks, e) m.0 m.1).0 in (s.board, s.boards))

-- ---- pairs taken off the list

-- what is left of t, with what is owed
pub record Draining (v : ℕ) (ks : List KindLine) (t m u k : List ℕ) : Type 0 where
  pub fit : Mutual v u
  pub inside : Inside u t
  pub keeps : (x : List ℕ) → Again v ks x → Inside x t → Inside x u
  pub list : Marks v k
  pub owed : Owed v ks k u

pub draining_start : {v : ℕ} {ks : List KindLine} {t m : List ℕ} → Mutual v t → Marks v m → Owed v ks m t → Draining v ks t m t m
draining_start {t = t} u l o = record { fit = u; inside = inside_refl t; keeps = λ x c i. i; list = l; owed = o }

module _ {v : ℕ} {ks : List KindLine} {t m u k : List ℕ} (d : Draining v ks t m u k) where
  -- nothing is on the list
  pub draining_end : OnBoards v ks → FirstMarked v k v → Drained v ks t u k
  draining_end boards f =
      record {
        fit = d.fit;
        inside = d.inside;
        keeps = d.keeps;
        list = d.list;
        cleared = every;
        idle = owed_idle d.owed (λ p q hp hq. off_neither hp hq (none q hp) (none p hq)) d.fit.mirrored boards;
      }
    where
      every : Cleared v k
      every p h = f.before p h

      none : {p : ℕ} (q : ℕ) → p < v → T (has (get_or k p 0) q) → ⊥
      none {p} q h e = subst T (has_zero q) (subst (λ (x : ℕ). T (has x q)) (every p h) e)

  -- the pair that is taken off
  module _ {p q : ℕ} {l : List ℕ} (few : v ≤ most_boards) (off : PairTaken v k l (Some (p, q))) where
    first_on : T (has (get_or k p 0) q)
    first_on =
        subst (λ (x : ℕ). T (has (get_or k p 0) x)) (sym off.2)
        (let wide : v ≤ word_bits = omega arith in lowest_has (get_or k p 0) (lt_of_lt_of_le (d.list.small p) (pow_mono wide)) (off.0.found off.1))

    pub first_other : q < v
    first_other = has_small v (get_or k p 0) q (d.list.small p) first_on

    first_few : p < most_boards
    first_few = let below = off.1 in omega arith

    pub first_list : Marks v l
    first_list = subst (Marks v) (sym off.3) (popped_list v p q k d.list first_few first_on)

    module _ {w n : List ℕ} (g : Moved (Again v ks) v u l w n) where
      taken : Moved (Again v ks) v u (popped v p q k d.list first_few first_on) w n
      taken = subst (λ (l : List ℕ). Moved (Again v ks) v u l w n) off.3 g

      pub draining_more : OnBoards v ks → Seen v ks p q n w → Draining v ks t m w n
      draining_more boards s =
          record {
            fit = g.fit;
            inside = inside_trans g.inside d.inside;
            keeps = λ x c i. g.keeps x c (d.keeps x c i);
            list = g.list;
            owed = owed_popped d.list first_few first_on taken off.1 first_other boards d.owed s.through.0 s.through.1 s.lines.fed s.lines.fed' s.lines.matched;
          }

      -- each turn takes something away
      pub draining_less : 2 * total w + marks n < 2 * total u + marks k
      draining_less = let f = taken.fewer in omega (arith, popped_fewer v p q k d.list first_few first_on)

  -- two panels that differ are apart, whatever is on the list
  pub draining_apart : (n : List ℕ) (a : KindLine) → Memᴰ a ks → (b : KindLine) → Memᴰ b ks → Tended v n u (apart v a b)
  draining_apart n a i b j o = (d.owed.seven a i b j).codes (λ x y e. absurd e)

  pub draining_lost : Lost (Again v ks) v u → Lost (Again v ks) v t
  draining_lost f x h c i = f x h c (d.keeps x c i)

-- ---- a first closing

module _ {v : ℕ} (ks : List KindLine) {t u k : List ℕ} (f : Noted v t u k) where
  pub noted_lost : Lost (Keeping rules6 v ks) v u → Lost (Again v ks) v t
  noted_lost g x h c i = g x h (again_six v ks x c) (f.keeps x (again_two v ks x c) i)

  module _ {w n : List ℕ} (g : Moved (Again v ks) v u k w n) where
    pub noted_moved_lost : Lost (Again v ks) v w → Lost (Again v ks) v t
    noted_moved_lost h x i c j = h x i c (g.keeps x c (f.keeps x (again_two v ks x c) j))

    pub noted_drained : (y l : List ℕ) (r : Result (Unit {0}) Emptied) → drained v ks w y l r → drained v ks t y l r
    noted_drained y l (Ok _) d =
        record {
          fit = d.fit;
          inside = inside_trans d.inside (inside_trans g.inside f.inside);
          keeps = λ x c i. d.keeps x c (g.keeps x c (f.keeps x (again_two v ks x c) i));
          list = d.list;
          cleared = d.cleared;
          idle = d.idle;
        }
    noted_drained y l (Err _) d = noted_moved_lost d

-- an empty cell, as a `?` hands that on
pub drained_err : (v : ℕ) (ks : List KindLine) (t w n : List ℕ) (r : Result (Unit {0}) Emptied) → IsErr r → Lost (Again v ks) v t → drained v ks t w n r
drained_err v ks t w n (Ok _) e lost = clash (cc)
drained_err v ks t w n (Err _) e lost = lost

pub rounds_err : (v : ℕ) (rs : List Rule) (t w : List ℕ) (r : Result ℕ Emptied) → IsErr r → Clash v rs t → after_rounds v rs t w r
rounds_err v rs t w (Ok _) e none = clash (cc)
rounds_err v rs t w (Err _) e none = none

-- what a closing comes to, counted
pub drained_settled : {v : ℕ} {ks : List KindLine} {t w n : List ℕ} {a b : ℕ} → Drained v ks t w n → a ≡ total t → b ≡ total w → Settled v (rules_again v ks) t w (a - b)
drained_settled {v} {ks} {t} {w} d e f =
    record {
      kept =
          record {
            table = d.fit.ready.table;
            inside = d.inside;
            keeps = λ x i c. d.keeps x c i;
            counted = let l : total w ≤ total t = total_mono d.inside in omega arith;
          };
      filled = d.fit.filled;
      idle = d.idle;
    }

-- ---- rooms

-- a list with nothing on it
pub empty_list : {v : ℕ} (m : List ℕ) → m ≡ replicate most_boards 0 → Marks v m
empty_list {v} m e =
    subst (Marks v) (sym e)
    (record { words = length-replicate {A = ℕ} most_boards 0; small = λ p. subst (λ (x : ℕ). x < 2 ^ v) (sym (zeros most_boards p)) (pow_pos v) })

-- as many cells as there is room for
pub cells_few : {v : ℕ} {t : List ℕ} → Ready v t → length t ≤ most_cells
cells_few {v} {t} r = let e : length t ≡ v * v = r.table.cells in omega (arith, mul-le-mul r.boards r.boards)
