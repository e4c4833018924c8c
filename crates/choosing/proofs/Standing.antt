-- The table at each pair, by the choices that stand: it is closed and without an empty cell, and closing again from the first table under the choices
-- comes to it. Assumes nothing.
use mathlib.Core.Path.{◌≡◌, refl, sym, ◌∙◌, subst}
use mathlib.Core.Logic.{⊎_elim}
use mathlib.Core.List.{List, [], ◌∷◌}
use Prim.Native.Nat.{ℕ, zero, suc, ◌^◌, ◌≤◌, ◌<◌}
use native.Mathlib.Omega.{arith}
use lib.Dec.{T}
use lib.ListN.{length, get_or, set, length-set}
use lib.Seq.{get_or-set_same}
use Rattle.rules.specs.Relations.{relations, set_limit, has, ◌lies_within◌}
use Rattle.rules.specs.Descriptions.{Sheet}
use Rattle.rules.specs.Tables.{Table, Inside}
use Rattle.rules.specs.Closed.{Closed, Largest}
use Rattle.rules.specs.Closing.{closing}
use Rattle.rules.specs.Search.{Order, places}
use Rattle.rules.proofs.Digits.{has_small}
use Rattle.rules.proofs.Tests.{below_suc}
use Rattle.rules.proofs.Sets.{lies_refl, lies_eq, lies_trans}
use Rattle.rules.proofs.Inside.{inside_refl, inside_trans}
use Rattle.rules.proofs.Strikes.{set_each}
use Rattle.rules.proofs.Narrowing.{narrowed_table, narrowed_inside, narrowed_at}
use Rattle.rules.proofs.Largest.{closing_largest}
use Rattle.orders.specs.Orders.{still, pick}
use Rattle.orders.proofs.Picking.{pick_still, still_has, still_none}
use Rattle.choosing.specs.Pairs.{pair_cell}
use Rattle.choosing.specs.Choices.{Chosen, Standing, Restored}
use Rattle.choosing.specs.Standings.{stood, Whole, ChoicesStand}
use Rattle.choosing.proofs.Walking.{place_cell}

-- ---- a cell narrowed in a table and in its largest closed table

pub inside_set : {x t : List ℕ} (k y : ℕ) → Inside x t → get_or x k 0 lies_within y → Inside x (set t k y)
inside_set {x} {t} k y i d =
    record { cells = i.cells ∙ sym (length-set t k y); each = set_each (λ j z. get_or x j 0 lies_within z) t k y i.each d }

pub set_inside : (t : List ℕ) (k y : ℕ) → y lies_within get_or t k 0 → Inside (set t k y) t
set_inside t k y d =
    record { cells = length-set t k y; each = set_each (λ j z. z lies_within get_or t j 0) t k y (λ j. lies_refl (get_or t j 0)) d }

-- both have the same largest closed table
pub largest_narrowed : {s : Sheet} {u t w : List ℕ} (k r : ℕ) → Table s.boards u → k < length u → Largest s u t → T (has (get_or t k 0) r)
    → Largest s (set t k (2 ^ r)) w → Largest s (set u k (2 ^ r)) w
largest_narrowed {s} {u} {t} {w} k r h l a m b =
    let i : Inside (set t k (2 ^ r)) t = narrowed_inside a.table k r m in
    let n : T (has (get_or u k 0) r) = (a.inside.each k).member r (has_small relations (get_or t k 0) r (a.table.small k) m) m in
    record {
      table = b.table;
      closed = b.closed;
      inside = inside_trans b.inside (inside_set k (2 ^ r) (inside_trans i a.inside) (narrowed_at a.table k r m (inside_refl (set t k (2 ^ r))) (subst (λ (n : ℕ). k < n) (sym a.inside.cells) l)));
      largest = λ x g c j.
          b.largest x g c
          (inside_set k (2 ^ r) (a.largest x g c (inside_trans j (narrowed_inside h k r n))) (narrowed_at h k r n j l));
    }

-- a closed table is its own largest closed table
pub largest_self : {s : Sheet} {t : List ℕ} → Table s.boards t → Closed s t → Largest s t t
largest_self {s} {t} h c = record { table = h; closed = c; inside = inside_refl t; largest = λ x g k i. i }

-- ---- the choice at a pair

-- an order finds a relation in a set that is not empty
pub chosen : {ord : List ℕ} → Order ord → (c : ℕ) → c < set_limit → (c ≡ 0 → ⊥) → (r : ℕ) × (rs : List ℕ) × (still ord c ≡ r ∷ rs)
chosen {ord} order c h f = from (still ord c) refl
  where
    from : (l : List ℕ) → still ord c ≡ l → (r : ℕ) × (rs : List ℕ) × (still ord c ≡ r ∷ rs)
    from [] e = absurd (f (still_none order c h e))
    from (r ∷ rs) e = (r, rs, e)

-- the choice c at cell k of the table t: its first relation r, those after it, and that the cell has it
pub record Choice (ord t : List ℕ) (k c : ℕ) : Type 0 where
  pub r : ℕ
  pub rest : List ℕ
  pub few : still ord c ≡ r ∷ rest
  pub small : r < relations
  pub picks : pick ord c ≡ 2 ^ r
  pub member : T (has (get_or t k 0) r)

pub choice : {ord : List ℕ} → Order ord → {v : ℕ} {t : List ℕ} (k c : ℕ) → Table v t → (c ≡ 0 → ⊥) → c < set_limit → c lies_within get_or t k 0 → Choice ord t k c
choice {ord} order k c h f l i =
    let d = chosen order c l f in
    let m : T (has c d.0) = still_has ord c d.0 d.1 d.2 in
    let n : d.0 < relations = has_small relations c d.0 l m in
    record { r = d.0; rest = d.1; few = d.2; small = n; picks = pick_still ord c d.0 d.1 d.2; member = i.member d.0 n m }

-- a choice in the largest closed table of u is one in u
pub choice_in : {s : Sheet} {ord u t : List ℕ} {k c : ℕ} → Largest s u t → Choice ord t k c → Choice ord u k c
choice_in {k = k} a d =
    record { r = d.r; rest = d.rest; few = d.few; small = d.small; picks = d.picks; member = (a.inside.each k).member d.r d.small d.member }

-- ---- the tables at the pairs

module _ (s : Sheet) {ord : List ℕ} (order : Order ord) (first cs : List ℕ) (small : (m : ℕ) → get_or cs m 0 < set_limit) where
  abbrev pub at_pair : ℕ → List ℕ
  at_pair m = stood (closing s) ord s.boards first cs m

  -- the cells narrowed at pair m, as the choice has it
  abbrev pub narrowed_to : ℕ → List ℕ → List ℕ
  narrowed_to m t = set t (pair_cell s.boards m) (pick ord (get_or cs m 0))

  pub choice_at : (m : ℕ) → Table s.boards (at_pair m) → (get_or cs m 0 ≡ 0 → ⊥) → get_or cs m 0 lies_within get_or (at_pair m) (pair_cell s.boards m) 0
      → Choice ord (at_pair m) (pair_cell s.boards m) (get_or cs m 0)
  choice_at m h f i = choice order (pair_cell s.boards m) (get_or cs m 0) h f (small m) i

  pub table_narrowed : (m : ℕ) {t : List ℕ} → Table s.boards t → Choice ord t (pair_cell s.boards m) (get_or cs m 0) → Table s.boards (narrowed_to m t)
  table_narrowed m {t} h c =
      subst (λ (x : ℕ). Table s.boards (set t (pair_cell s.boards m) x)) (sym c.picks) (narrowed_table h (pair_cell s.boards m) c.r c.member)

  pub inside_narrowed : (m : ℕ) {t : List ℕ} → Choice ord t (pair_cell s.boards m) (get_or cs m 0) → Table s.boards t → Inside (narrowed_to m t) t
  inside_narrowed m {t} c h =
      subst (λ (x : ℕ). Inside (set t (pair_cell s.boards m) x) t) (sym c.picks) (narrowed_inside h (pair_cell s.boards m) c.r c.member)

  -- the table at the next pair is the largest closed table of the cells narrowed at this one, be they of the table here or of one that closes to it
  pub closes_next : (m : ℕ) {u : List ℕ} → m < length (places s.boards) → Table s.boards u → Largest s u (at_pair m)
      → Choice ord (at_pair m) (pair_cell s.boards m) (get_or cs m 0) → Largest s (narrowed_to m u) (at_pair (suc m))
  unfolding stood
  closes_next m {u} l h a c =
      let k = pair_cell s.boards m in
      let b : Largest s (narrowed_to m (at_pair m)) (at_pair (suc m)) = closing_largest s (narrowed_to m (at_pair m)) (table_narrowed m a.table c) in
      let d : Largest s (set (at_pair m) k (2 ^ c.r)) (at_pair (suc m)) = subst (λ (x : ℕ). Largest s (set (at_pair m) k x) (at_pair (suc m))) c.picks b in
      subst (λ (x : ℕ). Largest s (set u k x) (at_pair (suc m))) (sym c.picks)
      (largest_narrowed k c.r h (subst (λ (n : ℕ). k < n) (sym h.cells) (place_cell s.boards m l)) a c.member d)

  module _ {i : ℕ} (few : i ≤ length (places s.boards)) (stands : ChoicesStand s ord first cs i) where
    pub whole_at : (m : ℕ) → m ≤ i → Whole s (at_pair m)
    unfolding stood
    whole_at zero l = stands.whole
    whole_at (suc m) l =
        let w = whole_at m (omega arith) in
        let e = stands.each m l in
        let c = choice_at m w.table e.some e.among in
        let n = closes_next m (omega arith) w.table (largest_self w.table w.closed) c in
        record { table = n.table; closed = n.closed; filled = e.filled }

    pub inside_at : (m : ℕ) → m ≤ i → Inside (at_pair m) first
    unfolding stood
    inside_at zero l = inside_refl first
    inside_at (suc m) l =
        let w = whole_at m (omega arith) in
        let e = stands.each m l in
        let c = choice_at m w.table e.some e.among in
        inside_trans (closes_next m (omega arith) w.table (largest_self w.table w.closed) c).inside
        (inside_trans (inside_narrowed m c w.table) (inside_at m (omega arith)))

    -- the table at the next pair, by the choice at this one
    next_at : (m : ℕ) → m < i → Largest s (narrowed_to m (at_pair m)) (at_pair (suc m)) × Inside (narrowed_to m (at_pair m)) (at_pair m)
    next_at m l =
        let w = whole_at m (omega arith) in
        let e = stands.each m l in
        let c = choice_at m w.table e.some e.among in
        (closes_next m (omega arith) w.table (largest_self w.table w.closed) c, inside_narrowed m c w.table)

    -- each pair before lies within its choice there
    picks_at : (m : ℕ) → m ≤ i → (j : ℕ) → j < m → get_or (at_pair m) (pair_cell s.boards j) 0 lies_within pick ord (get_or cs j 0)
    picks_at zero l j h = let z : ⊥ = omega arith in absurd z
    picks_at (suc m) l j h = ⊎_elim (picked m l) (λ b. lies_trans ((inside_trans (next_at m l).0.inside (next_at m l).1).each (pair_cell s.boards j)) (picks_at m (omega arith) j b)) (below_suc h)
      where
        picked : (m : ℕ) → m < i → j ≡ m → get_or (at_pair (suc m)) (pair_cell s.boards j) 0 lies_within pick ord (get_or cs j 0)
        picked m l e =
            subst (λ (n : ℕ). get_or (at_pair (suc m)) (pair_cell s.boards n) 0 lies_within pick ord (get_or cs n 0)) (sym e)
            (subst (λ (x : ℕ). get_or (at_pair (suc m)) (pair_cell s.boards m) 0 lies_within x)
            (get_or-set_same (at_pair m) (pair_cell s.boards m) (pick ord (get_or cs m 0)) 0
            (subst (λ (n : ℕ). pair_cell s.boards m < n) (sym (whole_at m (omega arith)).table.cells) (place_cell s.boards m (omega arith))))
            ((next_at m l).0.inside.each (pair_cell s.boards m)))

    chosen_at : (m : ℕ) → m ≤ i → Chosen s.boards ord cs first m (at_pair m)
    chosen_at m l =
        record { inside = inside_at m l; turned = λ p q hp hq. lies_eq ((whole_at m l).closed.rule2 p q hp hq); picks = picks_at m l }

    -- so some table stands under the choices before it
    pub standing_at : (m : ℕ) → m ≤ i → Standing s.boards ord cs first m
    standing_at m l = let w = whole_at m l in record { x = at_pair m; table = w.table; filled = w.filled; chosen = chosen_at m l }

    -- every closed table in which these choices stand is inside it
    inside_stood : (m : ℕ) → m ≤ i → (y : List ℕ) → Table s.boards y → Closed s y → Inside y first
        → ((j : ℕ) → j < m → get_or y (pair_cell s.boards j) 0 lies_within pick ord (get_or cs j 0)) → Inside y (at_pair m)
    unfolding stood
    inside_stood zero l y h c k f = k
    inside_stood (suc m) l y h c k f =
        (next_at m l).0.largest y h c
        (inside_set (pair_cell s.boards m) (pick ord (get_or cs m 0)) (inside_stood m (omega arith) y h c k (λ j b. f j (omega arith))) (f m (omega arith)))

    -- closing again from the first table, narrowed by the choices, comes to the table at the pair
    pub restored_closes : (m : ℕ) → m ≤ i → {w k : List ℕ} → Restored s.boards ord cs first m w k → Largest s w (at_pair m)
    restored_closes m l r =
        let t = whole_at m l in
        record {
          table = t.table;
          closed = t.closed;
          inside = r.moved.keeps (at_pair m) (chosen_at m l) (inside_at m l);
          largest = λ y h c j. inside_stood m l y h c (inside_trans j r.moved.inside) (λ n b. lies_trans (j.each (pair_cell s.boards n)) (r.picks n b));
        }
