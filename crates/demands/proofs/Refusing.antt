-- What every call that is lent a description and a table has in common: it gives 1 to 5 and 11, then 6 by what it asks of the table, and a refusal leaves
-- the table. Assumes nothing.
use mathlib.Core.Path.{◌≡◌, refl, sym, ap, ◌∙◌}
use mathlib.Core.Bool.{Bool, true, false}
use mathlib.Core.Logic.{◌⊎◌, inl, inr, ⊎_elim}
use mathlib.Core.List.{List}
use Prim.Native.Nat.{ℕ}
use native.Mathlib.Omega.{arith}
use lib.Dec.{T, T_not}
use Rattle.rules.specs.Descriptions.{Sheet, Reading, good, refused, read}
use Rattle.rules.specs.Tables.{emptied, filled}
use Rattle.rules.specs.Closing.{closing}
use Rattle.rules.specs.Search.{found, none, Capped, ended, ran_out, search, cap}
use Rattle.rules.specs.Calls.{Outcome, refuse, succeed, has_cells, well_formed, admitted, given, reading, opening, close, answer, searching, arranged, check}
use Rattle.rules.proofs.Descriptions.{read_bounded}
use Rattle.rules.proofs.Tests.{clash, T-decide}
use Rattle.rules.proofs.Calls.{given_refused, given_no_table, given_good}
use Rattle.rules.proofs.Called.{by_cells, by_test}
use Rattle.answers.specs.Answers.{Answer, outcome}
use Rattle.answers.proofs.Outcomes.{says, counts, leaves}
use Rattle.demands.specs.Entries.{Opening, Call, closes, searches, checks, AnyCall, opens, calls, Refuses}
use Rattle.demands.specs.Runs.{TableCall}
use Rattle.demands.specs.Sentences.{RefusesMalformed}

-- reading, by what the words mean
abbrev told : Reading Sheet → Outcome (Unit {0})
told r = given r tt (λ s. succeed 0 tt)

pub reading_refused : (ws : List ℕ) (n k : ℕ) → read ws ≡ refused n k → reading ws ≡ refuse n k tt
unfolding reading
reading_refused ws n k e = ap told e

pub reading_good : (ws : List ℕ) (s : Sheet) → read ws ≡ good s → reading ws ≡ succeed 0 tt
unfolding reading
reading_good ws s e = ap told e

pub refuses : (t : List ℕ) (a : Answer) (w : List ℕ) {n k : ℕ} → outcome a w ≡ refuse n k t → Refuses n k t a w
refuses t a w e = record { number = says e; count = counts e; table = leaves e }

-- what it answers and leaves once description and table are good: a refusal leaves the table
abbrev Leaves : List ℕ → Outcome (List ℕ) → Type 0
Leaves t o = (o.number ≡ 0 → ⊥) → o.lent ≡ t

-- its number is not 11
abbrev Other : Outcome (List ℕ) → Type 0
Other o = o.number ≡ 11 → ⊥

-- the call gives 1 to 5 and 11, then 6, which asks this of the table, then what f says, which is not 11
pub record Gives (asks : ℕ → List ℕ → Bool) (ws t : List ℕ) (a : Answer) (w : List ℕ) : Type 0 where
  pub f : Sheet → Outcome (List ℕ)
  pub leaves : (s : Sheet) → Leaves t (f s)
  pub other : (s : Sheet) → Other (f s)
  pub is : outcome a w ≡ given (admitted asks ws t) t f

-- ---- what f says

module _ (t : List ℕ) where
  -- a table u closed into t
  into_leaves : (s : Sheet) (u : List ℕ) (b : Bool) → Leaves t (by_cells t s u b)
  into_leaves s u true f = refl
  into_leaves s u false f = absurd (f refl)

  search_leaves : (c : Capped) → Leaves t (answer t c)
  search_leaves (ended (found n w)) f = absurd (f refl)
  search_leaves (ended (none n)) f = refl
  search_leaves (ran_out b) f = refl

  check_leaves : (b : Bool) → Leaves t (by_test t b)
  check_leaves true f = refl
  check_leaves false f = refl

  into_other : (s : Sheet) (u : List ℕ) (b : Bool) → Other (by_cells t s u b)
  into_other s u true e = omega (arith, e)
  into_other s u false e = omega (arith, e)

  search_other : (c : Capped) → Other (answer t c)
  search_other (ended (found n w)) e = omega (arith, e)
  search_other (ended (none n)) e = omega (arith, e)
  search_other (ran_out b) e = omega (arith, e)

  check_other : (b : Bool) → Other (by_test t b)
  check_other true e = omega (arith, e)
  check_other false e = omega (arith, e)

-- ---- the calls

module _ (ws t : List ℕ) (a : Answer) (w : List ℕ) where
  pub opening_gives : Opening ws t a w → Gives has_cells ws t a w
  unfolding opening
  opening_gives c =
      let full : Sheet → List ℕ = λ s. filled s.boards in
      record {
        f = _;
        leaves = λ s. into_leaves t s (full s) (emptied (closing s (full s)));
        other = λ s. into_other t s (full s) (emptied (closing s (full s)));
        is = c;
      }

  pub call_gives : Call ws t a w → Gives well_formed ws t a w
  unfolding close searching check
  call_gives (closes c) = record { f = _; leaves = λ s. into_leaves t s t (emptied (closing s t)); other = λ s. into_other t s t (emptied (closing s t)); is = c }
  call_gives (searches ord b c) =
      record {
        f = _;
        leaves = λ s. search_leaves t (cap b (search (closing s) ord s.boards t));
        other = λ s. search_other t (cap b (search (closing s) ord s.boards t));
        is = c;
      }
  call_gives (checks c e) =
      record {
        f = _;
        leaves = λ s. check_leaves t (arranged s t);
        other = λ s. check_other t (arranged s t);
        is = ap (λ (x : List ℕ). outcome a x) e ∙ c;
      }

  pub any_gives : AnyCall ws t a w → (asks : ℕ → List ℕ → Bool) × Gives asks ws t a w
  any_gives (opens c) = (has_cells, opening_gives c)
  any_gives (calls c) = (well_formed, call_gives c)

  module _ {asks : ℕ → List ℕ → Bool} (g : Gives asks ws t a w) where
    pub gives_description : (n k : ℕ) → read ws ≡ refused n k → Refuses n k t a w
    gives_description n k e = refuses t a w (g.is ∙ given_refused asks ws t t g.f n k e)

    module _ (s : Sheet) (means : read ws ≡ good s) where
      pub gives_table : (T (asks s.boards t) → ⊥) → Refuses 6 0 t a w
      gives_table n = refuses t a w (g.is ∙ given_no_table asks ws t t g.f s means n)

      -- the table has what is asked for, or the call is refused with 6
      gives_case : ((outcome a w ≡ g.f s) × T (asks s.boards t)) ⊎ Refuses 6 0 t a w
      gives_case =
          ⊎_elim (λ h. inl (g.is ∙ given_good asks ws t t g.f s means h, h)) (λ h. inr (gives_table (T_not (asks s.boards t) h)))
          (T-decide (asks s.boards t))

    pub gives_leaves : (a.number ≡ 0 → ⊥) → w ≡ t
    gives_leaves n = by (read ws) refl
      where
        by : (r : Reading Sheet) → read ws ≡ r → w ≡ t
        by (good s) e = ⊎_elim (λ (is, h). leaves is ∙ g.leaves s (λ z. n (says is ∙ z))) (λ r. r.table) (gives_case s e)
        by (refused n k) e = (gives_description n k e).table

    -- 11 shows that the description was refused with it
    pub gives_eleven : a.number ≡ 11 → (k : ℕ) × (read ws ≡ refused 11 k)
    gives_eleven z = by (read ws) refl
      where
        by : (r : Reading Sheet) → read ws ≡ r → (k : ℕ) × (read ws ≡ refused 11 k)
        by (good s) e =
            ⊎_elim (λ (is, h). absurd (g.other s (sym (says is) ∙ z))) (λ r. let six : a.number ≡ 6 = r.number in clash (omega (arith, z))) (gives_case s e)
        by (refused n k) e = (k, e ∙ ap (λ (m : ℕ). refused m k) (sym (gives_description n k e).number ∙ z))

    -- success shows that both were good
    pub gives_good : a.number ≡ 0 → (s : Sheet) × (read ws ≡ good s) × T (asks s.boards t)
    gives_good z = by (read ws) refl
      where
        by : (r : Reading Sheet) → read ws ≡ r → (s : Sheet) × (read ws ≡ good s) × T (asks s.boards t)
        by (good s) e = ⊎_elim (λ (is, h). (s, e, h)) (λ r. let six : a.number ≡ 6 = r.number in clash (omega (arith, z))) (gives_case s e)
        by (refused n k) e =
            let said : a.number ≡ n = (gives_description n k e).number in
            let l = read_bounded ws n k e in
            let y : ⊥ = omega (arith, z, l) in absurd y

-- ---- demand 1, of any call that gives these

pub gives_refuses : {asks : ℕ → List ℕ → Bool} {Asks : ℕ → List ℕ → Type 0} {Calls : TableCall} → ((v : ℕ) (t : List ℕ) → T (asks v t) → Asks v t)
    → ((ws t : List ℕ) (a : Answer) (w : List ℕ) → Calls ws t a w → Gives asks ws t a w) → RefusesMalformed Asks Calls
gives_refuses asked gives =
    record {
      malformed_description_refused = λ ws t a w call. gives_description ws t a w (gives ws t a w call);
      malformed_table_refused = λ ws t a w call s e n. gives_table ws t a w (gives ws t a w call) s e (λ h. n (asked s.boards t h));
      refusal_leaves_table = λ ws t a w call. gives_leaves ws t a w (gives ws t a w call);
    }
