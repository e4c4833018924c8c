-- The largest closed table: there is one, the closing computes it, and it has no empty cell or nothing at all. A rule is known here only by
-- its bound, which grows with the table: such a strike loses no table in which the rule strikes nothing. Assumes nothing.
use mathlib.Core.Path.{◌≡◌, refl, sym, ap, ◌∙◌, subst}
use mathlib.Core.Bool.{Bool, true, false}
use mathlib.Core.Logic.{⊎_elim}
use mathlib.Core.List.Memᴰ
use mathlib.Core.List.{List, [], ◌∷◌}
use Prim.Native.Nat.{ℕ, zero, suc, ◌+◌, ◌*◌, ◌≤◌, ◌<◌}
use native.Mathlib.Nat.{not-suc-le-zero}
use native.Mathlib.Omega.{arith}
use lib.Pow.{pow_pos}
use lib.Dec.{T, eqb, eqb→eq, eqb_refl}
use lib.ListN.{length, get_or, replicate, length-replicate}
use lib.Seq.{ext_get_or}
use Rattle.rules.specs.Relations.{relations, set_limit, ◌lies_within◌, converse, compose}
use Rattle.rules.specs.Descriptions.{Sheet}
use Rattle.rules.specs.Tables.{Table, Inside, cell, emptied, total}
use Rattle.rules.specs.Closed.{Closed, Largest}
use Rattle.rules.specs.Closing.{Rule, Idle, rules, strike, sweep, sweeps, closing}
use Rattle.rules.proofs.Tests.{true_T}
use Rattle.rules.proofs.Sets.{lies_trans, lies_zero, zero_lies}
use Rattle.rules.proofs.Composition.{converse_zero, compose_zero_left}
use Rattle.rules.proofs.Members.{All, zeros}
use Rattle.rules.proofs.Inside.{each_place, inside_refl, inside_trans, inside_antisym, total_mono, total_tight, emptied_out}
use Rattle.rules.proofs.Strikes.{strike_table, strike_inside, strike_keeps, strike_idle}
use Rattle.rules.proofs.Rules.{Grows, rules_grow, closed_idle, idle_closed}

-- ---- sweeps

-- u is what the rules leave of t: a table inside it in which they strike nothing, and which holds every such table
record Left (v : ℕ) (rs : List Rule) (t u : List ℕ) : Type 0 where
  table : Table v u
  inside : Inside u t
  idle : All (Idle v u) rs
  keeps : (w : List ℕ) → Inside w t → All (Idle v w) rs → Inside w u

all_tail : {P : Rule → Type 0} {r : Rule} {rs : List Rule} → All P (r ∷ rs) → All P rs
all_tail h x m = h x (Memᴰ.tail m)

all_head : {P : Rule → Type 0} {r : Rule} {rs : List Rule} → All P (r ∷ rs) → P r
all_head {r = r} h = h r (Memᴰ.head refl)

all_cons : {P : Rule → Type 0} {r : Rule} {rs : List Rule} → P r → All P rs → All P (r ∷ rs)
all_cons {P} {r} a h x m = ⊎_elim (λ (e : x ≡ r). subst P (sym e) a) (h x) (Memᴰ.cases_cons m)

module _ (v : ℕ) where
  sweep_table : (rs : List Rule) (t : List ℕ) → Table v t → Table v (sweep v rs t)
  unfolding strike sweep
  sweep_table [] t h = h
  sweep_table (r ∷ rs) t h = sweep_table rs (strike v r t) (strike_table t (v * r.row + r.column) (r.bound t) h)

  sweep_inside : (rs : List Rule) (t : List ℕ) → Inside (sweep v rs t) t
  unfolding strike sweep
  sweep_inside [] t = inside_refl t
  sweep_inside (r ∷ rs) t = inside_trans (sweep_inside rs (strike v r t)) (strike_inside t (v * r.row + r.column) (r.bound t))

  sweep_keeps : (rs : List Rule) (t : List ℕ) → All (λ r. Grows r.bound) rs → (w : List ℕ) → Inside w t → All (Idle v w) rs
      → Inside w (sweep v rs t)
  unfolding strike sweep
  sweep_keeps [] t g w i d = i
  sweep_keeps (r ∷ rs) t g w i d =
      let k = v * r.row + r.column in
      sweep_keeps rs (strike v r t) (all_tail g) w (strike_keeps t k (r.bound t) i (lies_trans (all_head d) (all_head g w t i))) (all_tail d)

  -- a sweep that leaves as many relations found each rule idle
  sweep_idle : (rs : List Rule) (t : List ℕ) → Table v t → total t ≤ total (sweep v rs t) → All (Idle v t) rs
  unfolding strike sweep
  sweep_idle [] t h l = λ x m. absurd (Memᴰ.not-nil m)
  sweep_idle (r ∷ rs) t h l =
      let e : strike v r t ≡ t =
      total_tight (strike_table t (v * r.row + r.column) (r.bound t) h) h (strike_inside t (v * r.row + r.column) (r.bound t)) (omega (arith, total_mono (sweep_inside rs (strike v r t)))) in
      all_cons (strike_idle t (v * r.row + r.column) (r.bound t) e) (sweep_idle rs t h (subst (λ (u : List ℕ). total t ≤ total (sweep v rs u)) e l))

  sweeps_left : (n : ℕ) (rs : List Rule) (t : List ℕ) → All (λ r. Grows r.bound) rs → Table v t → total t < n → Left v rs t (sweeps n v rs t)
  unfolding sweeps
  sweeps_left zero rs t g h l = absurd (not-suc-le-zero l)
  sweeps_left (suc n) rs t g h l = go (eqb (total (sweep v rs t)) (total t)) refl (λ k. sweeps_left n rs (sweep v rs t) g (sweep_table rs t h) k)
    where
      inner : total (sweep v rs t) ≤ total t
      inner = total_mono (sweep_inside rs t)

      go : (b : Bool) → eqb (total (sweep v rs t)) (total t) ≡ b → (total (sweep v rs t) < n → Left v rs (sweep v rs t) (sweeps n v rs (sweep v rs t)))
          → Left v rs t (elim b [ true ↦ t | false ↦ sweeps n v rs (sweep v rs t) ])
      go true e k =
          let q : total (sweep v rs t) ≡ total t = eqb→eq (total (sweep v rs t)) (total t) (true_T e) in
          record { table = h; inside = inside_refl t; idle = sweep_idle rs t h (omega arith); keeps = λ w i d. i }
      go false e k =
          let f : Left v rs (sweep v rs t) (sweeps n v rs (sweep v rs t)) = k (less inner) in
          record {
            table = f.table;
            inside = inside_trans f.inside (sweep_inside rs t);
            idle = f.idle;
            keeps = λ w i d. f.keeps w (sweep_keeps rs t g w i d) d;
          }
        where
          differ : total (sweep v rs t) ≡ total t → ⊥
          differ q = subst T e (subst (λ (m : ℕ). T (eqb (total (sweep v rs t)) m)) q (eqb_refl (total (sweep v rs t))))

          less : total (sweep v rs t) ≤ total t → total (sweep v rs t) < n
          less i = omega (arith, differ)

-- the closing gives the largest closed table inside a table
pub closing_largest : (s : Sheet) (t : List ℕ) → Table s.boards t → Largest s t (closing s t)
unfolding closing
closing_largest s t h =
    let f : Left s.boards (rules s) t (closing s t) = sweeps_left s.boards (suc (total t)) (rules s) t (rules_grow s) h (omega arith) in
    record {
      table = f.table;
      closed = idle_closed s (closing s t) f.table f.idle;
      inside = f.inside;
      largest = λ w k c i. f.keeps w i (closed_idle c);
    }

-- there is only one
pub largest_unique : {s : Sheet} {t u w : List ℕ} → Largest s t u → Largest s t w → u ≡ w
largest_unique {u = u} {w = w} a b =
    inside_antisym a.table b.table (b.largest u a.table a.closed a.inside) (a.largest w b.table b.closed b.inside)

-- a closed table is the largest one inside itself, so closing again leaves the same
pub closing_again : (s : Sheet) (t : List ℕ) → Table s.boards t → closing s (closing s t) ≡ closing s t
closing_again s t h =
    let l = closing_largest s t h in
    largest_unique (closing_largest s (closing s t) l.table)
    (record { table = l.table; closed = l.closed; inside = inside_refl (closing s t); largest = λ w k c i. i })

-- ---- empty cells

-- the table with nothing in it
pub blank : ℕ → List ℕ
blank v = replicate (v * v) 0

blank_at : (v k : ℕ) → get_or (blank v) k 0 ≡ 0
unfolding blank
blank_at v k = zeros (v * v) k

blank_table : (v : ℕ) → Table v (blank v)
unfolding blank
blank_table v =
    record { cells = length-replicate (v * v) 0; small = λ k. subst (λ (x : ℕ). x < set_limit) (sym (blank_at v k)) (pow_pos relations) }

-- the all-empty table is closed
pub blank_closed : (s : Sheet) → Closed s (blank s.boards)
blank_closed s =
    idle_closed s (blank s.boards) (blank_table s.boards)
    (λ r m. subst (λ (x : ℕ). x lies_within r.bound (blank s.boards)) (sym (blank_at s.boards (s.boards * r.row + r.column))) (zero_lies (r.bound (blank s.boards))))

module _ {s : Sheet} {t : List ℕ} (h : Table s.boards t) (c : Closed s t) where
  -- an empty cell empties its row, its column and every cell
  empty_row : (p q r : ℕ) → p < s.boards → q < s.boards → r < s.boards → cell s.boards t p q ≡ 0 → cell s.boards t p r ≡ 0
  empty_row p q r hp hq hr e =
      lies_zero (h.small (s.boards * p + r))
      (subst (λ (x : ℕ). cell s.boards t p r lies_within x) (ap (λ (x : ℕ). compose x (cell s.boards t q r)) e ∙ compose_zero_left (cell s.boards t q r))
      (c.rule3 p q r hp hq hr))

  empty_turn : (p q : ℕ) → p < s.boards → q < s.boards → cell s.boards t p q ≡ 0 → cell s.boards t q p ≡ 0
  empty_turn p q hp hq e = c.rule2 p q hp hq ∙ ap converse e ∙ converse_zero

  empty_all : (p q : ℕ) → p < s.boards → q < s.boards → cell s.boards t p q ≡ 0 → (x y : ℕ) → x < s.boards → y < s.boards
      → cell s.boards t x y ≡ 0
  empty_all p q hp hq e x y hx hy =
      empty_row x p y hx hp hy (empty_turn p x hp hx (empty_row p q x hp hq hx e))

  -- a closed table with an empty cell is all-empty
  pub closed_emptied : T (emptied t) → t ≡ blank s.boards
  unfolding blank
  closed_emptied e = from (emptied_out t e)
    where
      all : (p q : ℕ) → p < s.boards → q < s.boards → cell s.boards t p q ≡ 0 → t ≡ blank s.boards
      all p q hp hq e =
          ext_get_or 0 t (blank s.boards) (h.cells ∙ sym (length-replicate (s.boards * s.boards) 0))
          (λ k l. each_place (λ k. get_or t k 0 ≡ 0) h (empty_all p q hp hq e) k l ∙ sym (blank_at s.boards k))

      from : (k : ℕ) × (k < length t) × (get_or t k 0 ≡ 0) → t ≡ blank s.boards
      from m = each_place (λ k. get_or t k 0 ≡ 0 → t ≡ blank s.boards) h all m.0 m.1 m.2
