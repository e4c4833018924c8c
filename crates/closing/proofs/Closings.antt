-- A closing, from what its parts strike: the largest closed table, counted; or that the largest one has an empty cell. Assumes nothing.
use mathlib.Core.Path.{◌≡◌, refl, sym, ap, ◌∙◌, subst}
use mathlib.Core.Bool.{not}
use mathlib.Core.List.{List, ◌++◌}
use Prim.Native.Nat.{ℕ, ◌+◌, ◌*◌, ◌≤◌, ◌<◌}
use native.Mathlib.Omega.{arith}
use lib.Dec.{T, eqb}
use Rattle.rules.specs.Relations.{same, E, A, S, ◌lies_within◌}
use Rattle.rules.specs.Descriptions.{most_boards, Sheet, good, read}
use Rattle.rules.specs.Tables.{cell, Table, Inside, at, emptied, total, up_to}
use Rattle.rules.specs.Arrangements.{way}
use Rattle.rules.specs.Closed.{Closed}
use Rattle.rules.specs.Closing.{Rule, Idle, lies, rules1, rules2, rules4, rules5, rules6, rules7, rules, closing}
use Rattle.rules.proofs.Sets.{lies_trans}
use Rattle.rules.proofs.Members.{All, all_one, one_all, all_over, all_append, append_left, append_right}
use Rattle.rules.proofs.Inside.{inside_refl, inside_trans, emptied_inside}
use Rattle.rules.proofs.Rules.{same_small, boards_all, all_only, all_ways, parts_rules, rules_parts, closed_idle, idle_closed}
use Rattle.rules.proofs.Largest.{closing_largest}
use Rattle.passes.specs.Passes.{most_members, Filled, Idles, Once, Clash}
use Rattle.passes.proofs.Passes.{filled_one, once_then, once_from, ready_few, ready_place}
use Rattle.headers.specs.declared.Header.{Header}
use Rattle.sheet.proofs.Described.{described, described_one}
use Rattle.std.specs.Prelude.{Result, Ok, Err, IsErr}
use Rattle.rules.proofs.Tests.{clash}
use Rattle.moves.specs.declared.Emptied.{Emptied}
use Rattle.moves.specs.Moves.{Marks, Lost}
use Rattle.sweeps.specs.Sweeps.{Selves}
use Rattle.rounds.specs.Rounds.{rules_again, Settled, after_rounds, Again, Drained, drained}
use Rattle.rounds.proofs.Owing.{idle_owed}
use Rattle.closing.specs.Closes.{rules_once, OnceUnder, Closes, closes, ClosesUnder, Admitted, Listing, ClosesListed, closes_listed}

-- ---- rules 1, 4 and 5, and the others

module _ (P : Rule → Type 0) (s : Sheet) where
  all_parts : All P (rules_once s) → All P (rules_again s.boards s.kinds) → All P (rules s)
  all_parts f g =
      let f₄ = append_right P (rules1 s.boards) _ f in
      let g₆ = append_right P (rules2 s.boards) _ g in
      let g₇ = append_right P (rules6 s.boards s.kinds) _ g₆ in
      parts_rules P s
      (record {
        one = append_left P (rules1 s.boards) _ f;
        two = append_left P (rules2 s.boards) _ g;
        three = append_right P (rules7 s.boards s.kinds) _ g₇;
        four = append_left P (rules4 s.lines) _ f₄;
        five = append_right P (rules4 s.lines) _ f₄;
        six = append_left P (rules6 s.boards s.kinds) _ g₆;
        seven = append_left P (rules7 s.boards s.kinds) _ g₇;
      })

  once_part : All P (rules s) → All P (rules_once s)
  once_part h =
      let parts = rules_parts P s h in
      all_append P (rules1 s.boards) parts.one (all_append P (rules4 s.lines) parts.four parts.five)

  pub again_part : All P (rules s) → All P (rules_again s.boards s.kinds)
  again_part h =
      let parts = rules_parts P s h in
      all_append P (rules2 s.boards) parts.two
      (all_append P (rules6 s.boards s.kinds) parts.six (all_append P (rules7 s.boards s.kinds) parts.seven parts.three))

-- ---- a table inside a closed one

-- the rule's bound is the same for all tables
abbrev Stays : Rule → Type 0
Stays r = (t u : List ℕ) → r.bound t ≡ r.bound u

all_rules_once : (s : Sheet) → All Stays (rules_once s)
unfolding rules1 rules4 rules5
all_rules_once s =
    all_append Stays (rules1 s.boards) (all_over Stays _ (up_to s.boards) (λ p m. all_one Stays (λ t u. refl)))
    (all_append Stays (rules4 s.lines) (all_over Stays _ s.lines (λ l m. all_one Stays (λ t u. refl)))
    (all_over Stays _ s.kinds (λ k m. all_ways Stays k _ (λ i l.
    all_append Stays (lies k.p (way k i) (λ t. A)) (all_one Stays (λ t u. refl))
    (all_ways Stays k _ (λ j n. all_only Stays (not (eqb i j)) (lies (way k i) (way k j) (λ t. S)) (λ a. all_one Stays (λ t u. refl))))))))

-- what holds of a closed table by a bound that stays holds of every table inside it
pub steady_inside : (s : Sheet) {t u : List ℕ} → Closed s u → Inside t u → (x : List ℕ) → Inside x t → Idles s.boards (rules_once s) x
steady_inside s {t} {u} k i x j r m =
    lies_trans ((inside_trans j i).each (s.boards * r.row + r.column))
    (subst (λ (b : ℕ). at s u r.row r.column lies_within b) (all_rules_once s r m u x) (once_part (Idle s.boards u) s (closed_idle k) r m))

-- ---- rules 1, 4 and 5, one after the other

module _ (s : Sheet) {v : ℕ} (boards : v ≡ s.boards) where
  pub once_whole : {t t₁ t₂ u : List ℕ} {a b c : ℕ} → Once v (rules1 v) t 0 t₁ a → Once v (rules4 s.lines) t₁ 0 t₂ b → Once v (rules5 s.kinds) t₂ 0 u c
      → Once s.boards (rules_once s) t 0 u (a + b + c)
  once_whole {t} {t₁} {t₂} {u} {a} {b} {c} o₁ o₄ o₅ =
      subst (λ (v : ℕ). Once v (rules1 v ++ (rules4 s.lines ++ rules5 s.kinds)) t 0 u (a + b + c)) boards
      (once_then (rules1 v) o₁ (once_then (rules4 s.lines) (once_from a o₄) (once_from (a + b) o₅)))

  -- ---- where they strike nothing in any table inside t, the others come to the largest closed table

  module _ {t : List ℕ} (h : Table v t) (steady : (x : List ℕ) → Inside x t → Idles s.boards (rules_once s) x) where
    table : Table s.boards t
    table = subst (λ (n : ℕ). Table n t) boards h

    closes_settled : {w : List ℕ} {n : ℕ} → Settled s.boards (rules_again s.boards s.kinds) t w n → Closes s t w n
    closes_settled {w} {n} r =
        let e : n + total w ≡ 0 + total t = r.kept.counted in
        record {
          largest =
              record {
                table = r.kept.table;
                closed = idle_closed s w r.kept.table (all_parts (Idle s.boards w) s (steady w r.kept.inside) r.idle);
                inside = r.kept.inside;
                largest = λ x g k i. r.kept.keeps x i (again_part (Idle s.boards x) s (closed_idle k));
              };
          filled = r.filled;
          counted = omega arith;
        }

    closes_clash : Clash s.boards (rules_again s.boards s.kinds) t → T (emptied (closing s t))
    closes_clash f =
        let l = closing_largest s t table in f (closing s t) l.table l.inside (again_part (Idle s.boards (closing s t)) s (closed_idle l.closed))

    pub closing_again : (w : List ℕ) (r : Result ℕ Emptied) → after_rounds v (rules_again v s.kinds) t w r → closes s t w r
    closing_again w (Ok n) k = closes_settled (subst (λ (v : ℕ). Settled v (rules_again v s.kinds) t w n) boards k)
    closing_again w (Err _) f = closes_clash (subst (λ (v : ℕ). Clash v (rules_again v s.kinds) t) boards f)

    -- the same by the list of pairs
    pub closing_listed : (w n : List ℕ) (r : Result (Unit {0}) Emptied) → drained v s.kinds t w n r → closes_listed s t w n r
    closing_listed w n (Ok _) d = listed (subst (λ (v : ℕ). Drained v s.kinds t w n) boards d)
      where
        listed : Drained s.boards s.kinds t w n → ClosesListed s t w n
        listed d =
            record {
              largest =
                  record {
                    table = d.fit.ready.table;
                    closed = idle_closed s w d.fit.ready.table (all_parts (Idle s.boards w) s (steady w d.inside) d.idle);
                    inside = d.inside;
                    largest = λ x g k i. d.keeps x (again_part (Idle s.boards x) s (closed_idle k)) i;
                  };
              fit = d.fit;
              list = d.list;
              cleared = d.cleared;
            }
    closing_listed w n (Err _) f =
        let l = closing_largest s t table in
        subst (λ (v : ℕ). Lost (Again v s.kinds) v t) boards f (closing s t) l.table (again_part (Idle s.boards (closing s t)) s (closed_idle l.closed)) l.inside

    -- rule 1 is one of them
    pub steady_selves : Selves v t
    unfolding rules1
    steady_selves p h =
        subst (λ (n : ℕ). cell n t p p lies_within E) (sym boards)
        (one_all (Idle s.boards t)
        (boards_all (Idle s.boards t) s.boards _ (append_left (Idle s.boards t) (rules1 s.boards) _ (steady t (inside_refl t))) p (subst (λ (n : ℕ). p < n) boards h)))

-- an empty cell, as a `?` hands that on
pub closes_err : (s : Sheet) (t w : List ℕ) (r : Result ℕ Emptied) → IsErr r → T (emptied (closing s t)) → closes s t w r
closes_err s t w (Ok _) e lost = clash (cc)
closes_err s t w (Err _) e lost = lost

-- ---- a closed table and an empty list

-- what is owed in a closed table without an empty cell is nothing
pub closed_listing : {s : Sheet} {t m : List ℕ} → s.boards ≤ most_boards → Table s.boards t → Closed s t → Filled t → Marks s.boards m → Listing s m t
closed_listing {s} {t} few h c f l =
    record {
      fit =
          record {
            ready = record { boards = few; table = h };
            mirrored = c.rule2;
            selves = λ p b. filled_one same t (s.boards * p + p) same_small h f (ready_place (record { boards = few; table = h }) b b) (c.rule1 p b);
            filled = f;
          };
      list = l;
      owed = idle_owed (again_part (Idle s.boards t) s (closed_idle c));
      steady = steady_inside s c (inside_refl t);
    }

-- ---- a closing after rules 1, 4 and 5 have struck

module _ (s : Sheet) {t u : List ℕ} {a : ℕ} (struck : Once s.boards (rules_once s) t 0 u a) where
  -- every closed table inside t is inside what they have left
  closed_inside : (x : List ℕ) → Closed s x → Inside x t → Inside x u
  closed_inside x k i = struck.kept.keeps x i (once_part (Idle s.boards x) s (closed_idle k))

  pub closes_after : {w : List ℕ} {n : ℕ} → Closes s u w n → Closes s t w (a + n)
  closes_after {w} {n} k =
      let e : n + total w ≡ total u = k.counted in
      let f : a + total u ≡ 0 + total t = struck.kept.counted in
      record {
        largest =
            record {
              table = k.largest.table;
              closed = k.largest.closed;
              inside = inside_trans k.largest.inside struck.kept.inside;
              largest = λ x g c i. k.largest.largest x g c (closed_inside x c i);
            };
        filled = k.filled;
        counted = omega arith;
      }

  pub emptied_after : Table s.boards t → T (emptied (closing s u)) → T (emptied (closing s t))
  emptied_after h e =
      let l = closing_largest s t h in
      emptied_inside l.table ((closing_largest s u struck.kept.table).largest (closing s t) l.table l.closed (closed_inside (closing s t) l.closed l.inside)) e

-- ---- the same under the description that words mean

pub once_under : {d s : Sheet} {t w : List ℕ} {n : ℕ} → d ≡ s → Once d.boards (rules_once d) t 0 w n → Once s.boards (rules_once s) t 0 w n
once_under {t = t} {w} {n} e k = subst (λ (s : Sheet). Once s.boards (rules_once s) t 0 w n) e k

module _ {h : Header} {ws t u : List ℕ} {a : ℕ} (admitted : Admitted h ws t) (struck : OnceUnder ws t u a) where
  pub struck_admitted : Admitted h ws u
  struck_admitted =
      let d = described ws h admitted.header in
      record {
        header = admitted.header;
        ready =
            record {
              boards = admitted.ready.boards;
              table = subst (λ (n : ℕ). Table n u) (sym d.1.boards) (struck d.0 d.1.means).kept.table;
            };
      }

  module _ (w : List ℕ) (r : Result ℕ Emptied) (closed : ClosesUnder ws u w r) where
    pub struck_closes : {n : ℕ} → r ≡ Ok n → (s : Sheet) → read ws ≡ good s → Closes s t w (a + n)
    struck_closes e s means = closes_after s (struck s means) (subst (closes s u w) e (closed s means))

    pub struck_few : {n : ℕ} → r ≡ Ok n → a + n ≤ most_members
    struck_few {n} e =
        let d = described ws h admitted.header in
        let k = (struck_closes e d.0 d.1.means).counted in
        omega (arith, ready_few admitted.ready)

    pub struck_emptied : {d : Emptied} → r ≡ Err d → (s : Sheet) → read ws ≡ good s → T (emptied (closing s t))
    struck_emptied e s means =
        let d = described ws h admitted.header in
        let table = subst (λ (n : ℕ). Table n t) (d.1.boards ∙ ap (λ (s : Sheet). s.boards) (described_one d.1 means)) admitted.ready.table in
        emptied_after s (struck s means) table (subst (closes s u w) e (closed s means))
