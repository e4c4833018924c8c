-- The tests of the calls say what they are named after: a well-formed table, an arrangement; they come before the rest of a call; and what a closing
-- strikes is at most 768.
-- Assumes nothing.
use mathlib.Core.Path.{◌≡◌, refl, sym, ap, ◌∙◌, subst}
use mathlib.Core.Bool.{Bool, true, false, not}
use mathlib.Core.List.{List, [], ◌∷◌}
use Prim.Native.Nat.{ℕ, suc, ◌+◌, ◌*◌, ◌≤◌, ◌<◌}
use native.Mathlib.Nat.{mul-le-mul, mul-suc}
use native.Mathlib.Omega.{arith}
use borrow.Author.Tests.{eq-eqb}
use lib.Dec.{T, eqb, ltb, eqb→eq, eqb_refl, ltb→lt, lt→ltb}
use lib.Pow.{pow_pos}
use lib.ListN.{length, get_or}
use Rattle.rules.specs.Relations.{each_of, relations, set_limit, has, size}
use Rattle.rules.specs.Descriptions.{most_boards, Sheet, Reading, good, refused, need, next, read, WellFormed}
use Rattle.rules.specs.Tables.{Table, Inside, cell, at, emptied, total}
use Rattle.rules.specs.Arrangements.{Arrangement}
use Rattle.rules.specs.Closed.{strikes}
use Rattle.rules.specs.Closing.{rules}
use Rattle.rules.specs.Calls.{Outcome, refuse, has_cells, well_formed, admitted, given, idle, arranged}
use Rattle.rules.proofs.Tests.{clash, true_T, T_true, T_false, and_T, T-and_left, T-and_right, count_most}
use Rattle.rules.proofs.Sets.{within_lies, lies_within_lem, size_one, size_single, size_pos, some_member}
use Rattle.rules.proofs.Members.{each_of_in, each_of_out, each_of_places, member_at, everywhere}
use Rattle.rules.proofs.Inside.{each_place, in_range_lem, total_mono}
use Rattle.rules.proofs.Rules.{closed_idle, idle_closed}
use Rattle.rules.proofs.Arrangements.{Singles, arrangement_closed, closed_arrangement}

-- ---- well-formed tables

pub table_well_formed : (v : ℕ) (t : List ℕ) → Table v t → T (well_formed v t)
unfolding well_formed
table_well_formed v t h =
    and_T (eqb (length t) (v * v)) (each_of (λ x. ltb x set_limit) t) (subst (λ (n : ℕ). T (eqb (length t) n)) h.cells (eqb_refl (length t)))
    (each_of_places (λ x. ltb x set_limit) t (λ k l. lt→ltb (get_or t k 0) set_limit (h.small k)))

pub well_formed_table : (v : ℕ) (t : List ℕ) → T (well_formed v t) → Table v t
unfolding well_formed
well_formed_table v t h =
    record {
      cells = eqb→eq (length t) (v * v) (T-and_left (eqb (length t) (v * v)) (each_of (λ x. ltb x set_limit) t) h);
      small = everywhere (λ k x. x < set_limit) t inner (λ k. pow_pos relations);
    }
  where
    inner : (k : ℕ) → k < length t → get_or t k 0 < set_limit
    inner k l =
        ltb→lt (get_or t k 0) set_limit
        (each_of_out (λ x. ltb x set_limit) t (T-and_right (eqb (length t) (v * v)) (each_of (λ x. ltb x set_limit) t) h) (get_or t k 0) (member_at t k l))

pub cells_has_cells : (v : ℕ) (t : List ℕ) → length t ≡ v * v → T (has_cells v t)
cells_has_cells v t e = true_T (eq-eqb (length t) (v * v) e)

pub has_cells_cells : (v : ℕ) (t : List ℕ) → T (has_cells v t) → length t ≡ v * v
has_cells_cells v t h = eqb→eq (length t) (v * v) h

-- ---- what comes before the rest of a call, whatever 6 asks for

-- the table is looked at once the description has been read
abbrev pub looked : (ℕ → List ℕ → Bool) → List ℕ → Reading Sheet → Reading Sheet
looked asks t r = next r (λ s. need 6 0 (asks s.boards t) (good s))

module _ (asks : ℕ → List ℕ → Bool) (ws t : List ℕ) where
  pub admitted_refused : (n k : ℕ) → read ws ≡ refused n k → admitted asks ws t ≡ refused n k
  unfolding admitted
  admitted_refused n k e = ap (looked asks t) e

  module _ (s : Sheet) (means : read ws ≡ good s) where
    pub admitted_no_table : (T (asks s.boards t) → ⊥) → admitted asks ws t ≡ refused 6 0
    unfolding admitted
    admitted_no_table g = ap (looked asks t) means ∙ ap (λ (b : Bool). need 6 0 b (good s)) (T_false {b = asks s.boards t} g)

    pub admitted_good : T (asks s.boards t) → admitted asks ws t ≡ good s
    unfolding admitted
    admitted_good h = ap (looked asks t) means ∙ ap (λ (b : Bool). need 6 0 b (good s)) (T_true {b = asks s.boards t} h)

  -- what is known of what was admitted
  pub admitted_out : (s : Sheet) → admitted asks ws t ≡ good s → (read ws ≡ good s) × T (asks s.boards t)
  unfolding admitted
  admitted_out s p = by (read ws) refl p
    where
      by : (r : Reading Sheet) → read ws ≡ r → looked asks t r ≡ good s → (r ≡ good s) × T (asks s.boards t)
      by (good u) e q = formed (asks u.boards t) refl q
        where
          formed : (b : Bool) → asks u.boards t ≡ b → need 6 0 b (good u) ≡ good s → (good u ≡ good s) × T (asks s.boards t)
          formed true f q = (q, let same : u ≡ s = cc in subst (λ (s : Sheet). T (asks s.boards t)) same (true_T f))
          formed false f q = clash (cc)
      by (refused n k) e q = clash (cc)

  -- what a call comes to by that
  module _ {L : Type 0} (l : L) (f : Sheet → Outcome L) where
    by_reading : Reading Sheet → Outcome L
    by_reading r = given r l f

    pub given_refused : (n k : ℕ) → read ws ≡ refused n k → given (admitted asks ws t) l f ≡ refuse n k l
    unfolding by_reading
    given_refused n k e = ap by_reading (admitted_refused n k e)

    module _ (s : Sheet) (means : read ws ≡ good s) where
      pub given_no_table : (T (asks s.boards t) → ⊥) → given (admitted asks ws t) l f ≡ refuse 6 0 l
      unfolding by_reading
      given_no_table g = ap by_reading (admitted_no_table s means g)

      pub given_good : T (asks s.boards t) → given (admitted asks ws t) l f ≡ f s
      unfolding by_reading
      given_good h = ap by_reading (admitted_good s means h)

-- ---- arrangements

module _ {s : Sheet} (f : WellFormed s) {t : List ℕ} where
  -- the check's test accepts exactly the arrangements
  pub arrangement_arranged : Arrangement s t → T (arranged s t)
  unfolding arranged
  arrangement_arranged a =
      and_T (each_of (λ x. eqb (size x) 1) t) (each_of (idle s.boards t) (rules s))
      (each_of_places (λ x. eqb (size x) 1) t (each_place (λ k. T (eqb (size (get_or t k 0)) 1)) a.table single))
      (each_of_in (idle s.boards t) (rules s) (λ r m. lies_within_lem (closed_idle (arrangement_closed f a) r m)))
    where
      single : (p q : ℕ) → p < s.boards → q < s.boards → T (eqb (size (at s t p q)) 1)
      single p q hp hq =
          let o = a.single p q hp hq in subst (λ (n : ℕ). T (eqb n 1)) (sym (ap size o.2 ∙ size_single o.0 o.1)) tt

  pub arranged_arrangement : Table s.boards t → T (arranged s t) → Arrangement s t
  unfolding arranged
  arranged_arrangement h g =
      closed_arrangement f h
      (idle_closed s t h
      (λ r m. within_lies (cell s.boards t r.row r.column) (r.bound t)
      (each_of_out (idle s.boards t) (rules s) (T-and_right (each_of (λ x. eqb (size x) 1) t) (each_of (idle s.boards t) (rules s)) g) r m)))
      single
    where
      single : Singles s t
      single p q hp hq =
          size_one (at s t p q) (h.small (s.boards * p + q))
          (eqb→eq (size (at s t p q)) 1
          (each_of_out (λ x. eqb (size x) 1) t (T-and_left (each_of (λ x. eqb (size x) 1) t) (each_of (idle s.boards t) (rules s)) g) (at s t p q)
          (member_at t (s.boards * p + q) (subst (λ (n : ℕ). s.boards * p + q < n) (sym h.cells) (in_range_lem s.boards p q hp hq)))))

-- ---- how many relations a closing can strike

pub total_most : (t : List ℕ) → total t ≤ relations * length t
unfolding total size
total_most [] = omega arith
total_most (x ∷ xs) = omega (arith, count_most relations (has x), total_most xs, mul-suc relations (length xs))

pub total_least : (t : List ℕ) → ((k : ℕ) → get_or t k 0 < set_limit) → T (not (emptied t)) → length t ≤ total t
unfolding total emptied
total_least [] h e = omega arith
total_least (x ∷ xs) h e = go (eqb x 0) refl e (λ g. total_least xs (λ k. h (suc k)) g)
  where
    go : (b : Bool) → eqb x 0 ≡ b → T (not (elim b [ true ↦ true | false ↦ emptied xs ])) → (T (not (emptied xs)) → length xs ≤ total xs)
        → suc (length xs) ≤ size x + total xs
    go true d e f = absurd e
    go false d e f =
        let m = some_member (h 0) (λ z. subst T d (subst (λ (y : ℕ). T (eqb y 0)) (sym z) tt)) in
        omega (arith, f e, size_pos x m.0 m.1 m.2)

-- the strikes are what the closed table has less
pub strikes_counted : {t u : List ℕ} → Inside u t → strikes t u + total u ≡ total t
strikes_counted i = omega (arith, total_mono i)

-- a closing that is not contradictory leaves a relation in each cell, so it strikes at most 3 times 16 times 16 relations
pub strikes_most : {v : ℕ} {t u : List ℕ} → v ≤ most_boards → Table v t → Table v u → T (not (emptied u)) → strikes t u ≤ 768
unfolding relations
strikes_most {v} {t} {u} l h g e =
    omega (arith, total_most t, total_least u g.small e, h.cells, g.cells, mul-le-mul l l)
