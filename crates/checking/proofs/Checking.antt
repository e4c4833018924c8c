-- The check of a table that was admitted, by its cases: a cell that is not single, a table that closing empties, an arrangement.
-- Assumes nothing.
use mathlib.Core.Path.{◌≡◌, refl, sym, ap, ◌∙◌, subst}
use mathlib.Core.Bool.{Bool, true, false}
use mathlib.Core.List.{List, [], ◌∷◌}
use Prim.Native.Nat.{ℕ, suc, ◌+◌, ◌≤◌, ◌<◌}
use native.Mathlib.Omega.{arith}
use lib.Dec.{T, eqb, eqb→eq}
use lib.ListN.{length, get_or}
use Rattle.rules.specs.Relations.{each_of, size}
use Rattle.rules.specs.Descriptions.{Sheet, good, read}
use Rattle.rules.specs.Tables.{Table, emptied, total}
use Rattle.rules.specs.Closed.{Closed}
use Rattle.rules.specs.Closing.{rules, closing}
use Rattle.rules.specs.Calls.{refuse, succeed, idle, arranged, check}
use Rattle.rules.proofs.Tests.{T_true, T_false, true_T, and_T, T-and_left}
use Rattle.rules.proofs.Sets.{lies_within_lem}
use Rattle.rules.proofs.Members.{each_of_in, each_of_out, each_of_places, member_at}
use Rattle.rules.proofs.Inside.{inside_refl, total_tight, emptied_inside}
use Rattle.rules.proofs.Descriptions.{read_well_formed}
use Rattle.rules.proofs.Rules.{closed_idle}
use Rattle.rules.proofs.Largest.{closing_largest}
use Rattle.rules.proofs.Arrangements.{arrangement_kept, arrangement_whole}
use Rattle.rules.proofs.Calls.{total_least, arranged_arrangement}
use Rattle.rules.proofs.Called.{by_test, check_good}
use Rattle.answers.specs.Answers.{answered, outcome}
use Rattle.headers.specs.declared.Header.{Header}
use Rattle.std.specs.Prelude.{Result, Ok, Err}
use Rattle.moves.specs.declared.Emptied.{Emptied}
use Rattle.closing.specs.Closes.{Admitted, Closes, closes, ClosesUnder}
use Rattle.closing.proofs.Calling.{admitted_means, admitted_closes}

-- ---- single cells

-- each cell has one relation, as a test
abbrev pub all_single : List ℕ → Bool
all_single t = each_of (λ x. eqb (size x) 1) t

pub single_each : (t : List ℕ) → ((k : ℕ) → k < length t → size (get_or t k 0) ≡ 1) → true ≡ all_single t
single_each t f =
    sym (T_true {b = all_single t} (each_of_places (λ x. eqb (size x) 1) t (λ k l. subst (λ (n : ℕ). T (eqb n 1)) (sym (f k l)) tt)))

pub single_none : (t : List ℕ) (k : ℕ) → k < length t → (size (get_or t k 0) ≡ 1 → ⊥) → false ≡ all_single t
single_none t k l f =
    sym (T_false {b = all_single t} (λ a. f (eqb→eq (size (get_or t k 0)) 1 (each_of_out (λ x. eqb (size x) 1) t a (get_or t k 0) (member_at t k l)))))

-- a table of single cells has as many relations as cells
total_single : (t : List ℕ) → all_single t ≡ true → total t ≡ length t
unfolding total
total_single [] e = refl
total_single (x ∷ xs) e = by (eqb (size x) 1) refl e (λ more. total_single xs more)
  where
    by : (b : Bool) → eqb (size x) 1 ≡ b → elim b [ true ↦ all_single xs | false ↦ false ] ≡ true → (all_single xs ≡ true → total xs ≡ length xs)
        → size x + total xs ≡ suc (length xs)
    by true one more rest = omega (arith, eqb→eq (size x) 1 (true_T one), rest more)
    by false one more rest = cc

-- Of a table of single cells closing strikes nothing, or it leaves an empty cell.
pub single_unstruck : {s : Sheet} {t w : List ℕ} {n : ℕ} → Table s.boards t → all_single t ≡ true → Closes s t w n → n ≡ 0
single_unstruck {s} {t} {w} {n} table e k =
    let counted : n + total w ≡ total t = k.counted in
    let cells : length w ≡ length t = k.largest.inside.cells in
    let least : length w ≤ total w = total_least w k.largest.table.small k.filled in
    let all : total t ≡ length t = total_single t e in
    omega arith

-- ---- the call

module _ (ws t : List ℕ) (s : Sheet) (means : read ws ≡ good s) (table : Table s.boards t) where
  check_arranged : T (arranged s t) → succeed 0 t ≡ check ws t
  check_arranged a = sym (check_good t ws s means table ∙ ap (by_test t) (T_true {b = arranged s t} a))

  check_not : (T (arranged s t) → ⊥) → refuse 10 0 t ≡ check ws t
  check_not f = sym (check_good t ws s means table ∙ ap (by_test t) (T_false {b = arranged s t} f))

  -- a cell has none or several relations
  not_single : all_single t ≡ false → T (arranged s t) → ⊥
  unfolding arranged
  not_single e a = subst T e (T-and_left (all_single t) (each_of (idle s.boards t) (rules s)) a)

  -- an arrangement is kept by closing, so no cell is emptied
  not_emptied : T (emptied (closing s t)) → T (arranged s t) → ⊥
  not_emptied e a =
      let f = read_well_formed ws s means in
      let r = arranged_arrangement f table a in
      arrangement_whole r (emptied_inside table (arrangement_kept f (closing_largest s t table) r (inside_refl t)) e)

  -- a table of single cells of which closing strikes nothing is closed, so it is an arrangement
  closed_arranged : all_single t ≡ true → Closed s t → T (arranged s t)
  unfolding arranged
  closed_arranged e c =
      and_T (all_single t) (each_of (idle s.boards t) (rules s)) (true_T e)
      (each_of_in (idle s.boards t) (rules s) (λ r m. lies_within_lem (closed_idle c r m)))

  same_closed : {w : List ℕ} {n : ℕ} → Closes s t w n → n ≡ 0 → Closed s t
  same_closed {w} {n} k z =
      let e : n + total w ≡ total t = k.counted in
      subst (Closed s) (total_tight k.largest.table table k.largest.inside (omega arith)) k.largest.closed

-- the same of a table that was admitted
module _ {h : Header} {ws t : List ℕ} (admitted : Admitted h ws t) where
  pub check_several : {u : List ℕ} {b : Bool} → u ≡ t → b ≡ all_single u → b ≡ false → outcome (answered 10 0) t ≡ check ws t
  check_several {u} {b} copy said e =
      let d = admitted_means admitted in
      check_not ws t d.0 d.1 d.2 (not_single ws t d.0 d.1 d.2 (sym (ap all_single copy) ∙ sym said ∙ e))

  -- whose cells are single, and whose copy u was closed to w
  module _ {u : List ℕ} (copy : u ≡ t) (single : true ≡ all_single t) (w : List ℕ) (r : Result ℕ Emptied) (closed : ClosesUnder ws u w r) where
    pub check_emptied : {d : Emptied} → r ≡ Err d → outcome (answered 10 0) t ≡ check ws t
    check_emptied e =
        let d = admitted_closes admitted copy w r closed in
        check_not ws t d.0 d.1 d.2 (not_emptied ws t d.0 d.1 d.2 (subst (closes d.0 t w) e d.3))

    pub check_closed : {n : ℕ} → r ≡ Ok n → outcome (answered 0 0) t ≡ check ws t
    check_closed e =
        let d = admitted_closes admitted copy w r closed in
        let k = subst (closes d.0 t w) e d.3 in
        check_arranged ws t d.0 d.1 d.2
        (closed_arranged ws t d.0 d.1 d.2 (sym single) (same_closed ws t d.0 d.1 d.2 k (single_unstruck d.2 (sym single) k)))
