-- The laws of passes, over any rules whose bounds grow with the table: one strike, one pass after another, and a pass over a list. Assumes nothing.
use mathlib.Core.Path.{◌≡◌, refl, sym, ap, ◌∙◌, subst}
use mathlib.Core.List.{List, [], ◌∷◌, ◌++◌, flat_map, append-nil, append_assoc}
use Prim.Native.Nat.{ℕ, suc, zero, ◌+◌, ◌*◌, ◌^◌, ◌-◌, ◌<◌, ◌≤◌}
use native.Mathlib.Nat.{mul-le-mul}
use native.Mathlib.Omega.{arith}
use lib.Dec.{T_not}
use lib.ListN.{length, get_or}
use Rattle.rules.specs.Relations.{relations, meet, size, ◌lies_within◌}
use Rattle.rules.specs.Descriptions.{most_cells, most_boards}
use Rattle.rules.specs.Tables.{Table, narrowed, emptied, total, range, up_to}
use Rattle.rules.specs.Closing.{Rule, Idle, lies}
use Rattle.rules.proofs.Sets.{lies_refl, lies_trans, meet_left, size_mono, lies_one}
use Rattle.rules.proofs.Members.{all_none, all_one, one_all, all_append, append_left, append_right}
use Rattle.rules.proofs.Inside.{in_range_lem, inside_refl, inside_trans, inside_antisym, total_mono, total_tight, emptied_in}
use Rattle.rules.proofs.Strikes.{strike_table, strike_inside, strike_keeps, strike_within, strike_total}
use Rattle.rules.proofs.Rules.{Grows}
use Rattle.rules.proofs.Calls.{total_most}
use Rattle.passes.specs.Passes.{most_members, Filled, Idles, Narrowed, Ready, Kept, Once}

over_more : {X : Type 0} (f : X → List Rule) (done : List X) (x : X) → flat_map f done ++ f x ≡ flat_map f (done ++ (x ∷ []))
unfolding flat_map
over_more f [] x = sym (append-nil (f x))
over_more f (y ∷ ys) x = append_assoc (f y) (flat_map f ys) (f x) ∙ ap (λ (rs : List Rule). f y ++ rs) (over_more f ys x)

range_more : (n i : ℕ) → range i (suc n) ≡ range i n ++ ((i + n) ∷ [])
range_more zero i = ap (λ (k : ℕ). k ∷ []) (omega arith)
range_more (suc n) i =
    let e : suc i + n ≡ i + suc n = omega arith in
    ap (λ (ks : List ℕ). i ∷ ks) (range_more n (suc i) ∙ ap (λ (k : ℕ). range (suc i) n ++ (k ∷ [])) e)

up_to_more : (i : ℕ) → up_to (i + 1) ≡ up_to i ++ (i ∷ [])
up_to_more i =
    let e : i + 1 ≡ suc i = omega arith in
    let z : 0 + i ≡ i = omega arith in
    ap up_to e ∙ range_more i 0 ∙ ap (λ (k : ℕ). range 0 i ++ (k ∷ [])) z

-- no cell of a filled table is empty: one that lies within a single relation is that relation
pub filled_one : {v : ℕ} (r : ℕ) (t : List ℕ) (k : ℕ) → r < relations → Table v t → Filled t → k < length t → get_or t k 0 lies_within 2 ^ r → get_or t k 0 ≡ 2 ^ r
filled_one r t k l h f i s = lies_one r (h.small k) l s (λ e. T_not (emptied t) f (emptied_in t k i e))

module _ {v : ℕ} where
  -- ---- what is kept

  -- nothing struck, whatever the rules
  pub kept_start : {rs : List Rule} {t : List ℕ} {a : ℕ} → Table v t → Kept v rs t a t a
  kept_start {t = t} h = record { table = h; inside = inside_refl t; keeps = λ x i d. i; counted = refl }

  pub kept_then : (rs : List Rule) {qs : List Rule} {t u w : List ℕ} {a b c : ℕ} → Kept v rs t a u b → Kept v qs u b w c → Kept v (rs ++ qs) t a w c
  kept_then rs {qs} f g =
      record {
        table = g.table;
        inside = inside_trans g.inside f.inside;
        keeps = λ x i d. g.keeps x (f.keeps x i (append_left (Idle v x) rs qs d)) (append_right (Idle v x) rs qs d);
        counted = g.counted ∙ f.counted;
      }

  -- the same of a list that asks more
  pub kept_as : {rs qs : List Rule} {t w : List ℕ} {a b : ℕ} → ((x : List ℕ) → Idles v qs x → Idles v rs x) → Kept v rs t a w b → Kept v qs t a w b
  kept_as f k = record { table = k.table; inside = k.inside; keeps = λ x i d. k.keeps x i (f x d); counted = k.counted }

  -- the same counted from elsewhere
  pub kept_from : {rs : List Rule} {t w : List ℕ} {n : ℕ} (a : ℕ) → Kept v rs t 0 w n → Kept v rs t a w (a + n)
  kept_from a k = let c = k.counted in record { table = k.table; inside = k.inside; keeps = k.keeps; counted = omega arith }

  -- the count never falls, and where it stays the table does
  kept_count : {rs : List Rule} {t w : List ℕ} {a b : ℕ} → Kept v rs t a w b → a ≤ b
  kept_count k = let c = k.counted in omega (arith, total_mono k.inside)

  pub kept_tight : {rs : List Rule} {t w : List ℕ} {a b : ℕ} → Table v t → Kept v rs t a w b → b ≡ a → w ≡ t
  kept_tight h k e = let c = k.counted in total_tight k.table h k.inside (omega arith)

  -- One law for every rule: a strike by a bound that grows with the table loses no table in which the rule strikes nothing.
  pub kept_strike : (r : Rule) → Grows r.bound → {t w : List ℕ} {a b n : ℕ} → Table v t → v * r.row + r.column < length t → b ≡ r.bound t
      → Narrowed t (v * r.row + r.column) b w n → Kept v (r ∷ []) t a w (a + n)
  kept_strike r g {t} {w} {a} {b} {n} h l e m =
      let k = v * r.row + r.column in
      let c : size (meet (get_or t k 0) b) ≤ size (get_or t k 0) = size_mono (meet_left (get_or t k 0) b) in
      let d : total (narrowed t k b) + size (get_or t k 0) ≡ total t + size (meet (get_or t k 0) b) = strike_total t k b l in
      let o : n ≡ size (get_or t k 0) - size (meet (get_or t k 0) b) = m.struck in
      subst (λ (y : List ℕ). Kept v (r ∷ []) t a y (a + n)) (sym m.cells)
      (record {
        table = strike_table t k b h;
        inside = strike_inside t k b;
        keeps =
            λ x j d.
            strike_keeps t k b j (subst (λ (y : ℕ). get_or x k 0 lies_within y) (sym e) (lies_trans (one_all (Idle v x) d) (g x t j)));
        counted = omega arith;
      })

  -- ---- passes by bounds that stay

  pub once_then : (rs : List Rule) {qs : List Rule} {t u w : List ℕ} {a b c : ℕ} → Once v rs t a u b → Once v qs u b w c → Once v (rs ++ qs) t a w c
  once_then rs f g =
      record {
        kept = kept_then rs f.kept g.kept;
        held = λ x i. all_append (Idle v x) rs (f.held x (inside_trans i g.kept.inside)) (g.held x i);
      }

  pub once_from : {rs : List Rule} {t w : List ℕ} {n : ℕ} (a : ℕ) → Once v rs t 0 w n → Once v rs t a w (a + n)
  once_from a k = record { kept = kept_from a k.kept; held = k.held }

  pub once_start : {X : Type 0} (f : X → List Rule) {t : List ℕ} {a : ℕ} → Table v t → Once v (flat_map f []) t a t a
  unfolding flat_map
  once_start f h = record { kept = kept_start h; held = λ x i. all_none (Idle v x) }

  pub once_more : {X : Type 0} (f : X → List Rule) (done : List X) (x : X) {t u w : List ℕ} {a b c : ℕ} → Once v (flat_map f done) t a u b
      → Once v (f x) u b w c → Once v (flat_map f (done ++ (x ∷ []))) t a w c
  once_more f done x {t} {w = w} {a} {c = c} k l =
      subst (λ (rs : List Rule). Once v rs t a w c) (over_more f done x) (once_then (flat_map f done) k l)

  pub once_next : (f : ℕ → List Rule) (i : ℕ) {t u w : List ℕ} {a b c : ℕ} → Once v (flat_map f (up_to i)) t a u b → Once v (f i) u b w c
      → Once v (flat_map f (up_to (i + 1))) t a w c
  once_next f i {t} {w = w} {a} {c = c} k l =
      subst (λ (is : List ℕ). Once v (flat_map f is) t a w c) (sym (up_to_more i)) (once_more f (up_to i) i k l)

  pub once_whole : (f : ℕ → List Rule) {i : ℕ} (n : ℕ) {t w : List ℕ} {a b : ℕ} → i ≤ n → n ≤ i → Once v (flat_map f (up_to i)) t a w b
      → Once v (flat_map f (up_to n)) t a w b
  once_whole f {i} n {t} {w} {a} {b} h l k = let e : i ≡ n = omega arith in subst (λ (j : ℕ). Once v (flat_map f (up_to j)) t a w b) e k

  pub once_strike : (p q b : ℕ) {t w : List ℕ} {a n : ℕ} → Table v t → v * p + q < length t → Narrowed t (v * p + q) b w n
      → Once v (lies p q (λ t. b)) t a w (a + n)
  once_strike p q b {t} {w} {a} {n} h l m =
      record {
        kept = kept_strike (record { row = p; column = q; bound = λ t. b }) (λ u t i. lies_refl b) h l refl m;
        held =
            λ x i.
            all_one (Idle v x) (lies_trans (i.each (v * p + q)) (subst (λ (y : List ℕ). get_or y (v * p + q) 0 lies_within b) (sym m.cells) (strike_within t (v * p + q) b)));
      }

  -- ---- what is determined

  -- how many were struck is fixed by what is left
  pub kept_determined : {rs : List Rule} {t u w : List ℕ} {a b c : ℕ} → u ≡ w → Kept v rs t a u b → Kept v rs t a w c → b ≡ c
  kept_determined e f g = let i = f.counted in let j = g.counted in let same = ap total e in omega arith

  -- where the rules strike nothing more, what is left is fixed too: the largest table inside t in which they strike nothing
  pub idle_determined : {rs : List Rule} {t u w : List ℕ} {a b c : ℕ} → Kept v rs t a u b → Idles v rs u → Kept v rs t a w c → Idles v rs w
      → (u ≡ w) × (b ≡ c)
  idle_determined {u = u} {w = w} f i g j =
      let e : u ≡ w = inside_antisym f.table g.table (g.keeps u f.inside i) (f.keeps w g.inside j) in
      (e, kept_determined e f g)

  pub once_determined : {rs : List Rule} {t u w : List ℕ} {a b c : ℕ} → Once v rs t a u b → Once v rs t a w c → (u ≡ w) × (b ≡ c)
  once_determined {u = u} {w = w} f g =
      idle_determined f.kept (f.held u (inside_refl u)) g.kept (g.held w (inside_refl w))

  -- ---- a site that is not too large: its places, its counts

  pub place_few : {p q : ℕ} → v ≤ most_boards → p < v → q < v → v * p + q < most_cells
  place_few {p} {q} h l m = omega (arith, in_range_lem v p q l m, mul-le-mul h h)

  pub ready_place : {t : List ℕ} {p q : ℕ} → Ready v t → p < v → q < v → v * p + q < length t
  ready_place {t} {p} {q} r l m = subst (λ (n : ℕ). v * p + q < n) (sym r.table.cells) (in_range_lem v p q l m)

  pub ready_kept : {rs : List Rule} {t w : List ℕ} {a b : ℕ} → Ready v t → Kept v rs t a w b → Ready v w
  ready_kept r k = record { boards = r.boards; table = k.table }

  pub ready_few : {t : List ℕ} → Ready v t → total t ≤ most_members
  unfolding relations
  ready_few {t} r = let d : length t ≡ v * v = r.table.cells in omega (arith, total_most t, mul-le-mul r.boards r.boards)

  pub kept_few : {rs : List Rule} {t w : List ℕ} {a b : ℕ} → Ready v t → Kept v rs t a w b → b ≤ a + most_members
  kept_few {t = t} r k = let c = k.counted in omega (arith, ready_few r)
