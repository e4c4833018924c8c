-- How a search ends under a good description, by its promise: with the first arrangement, with none, or out of budget; and how a check does.
-- Assumes nothing.
use mathlib.Core.Path.{◌≡◌, refl, sym, ap, ap₂, ◌∙◌, subst}
use mathlib.Core.Logic.{◌⊎◌, inl, inr, ⊎_elim, ◌↔◌}
use mathlib.Core.Bool.{Bool, true, false}
use mathlib.Core.List.{List}
use Prim.Native.Nat.{ℕ, ◌≤◌, ◌<◌}
use native.Mathlib.Omega.{arith}
use lib.Dec.{T}
use Rattle.rules.specs.Descriptions.{Sheet, Reading, good, refused, read}
use Rattle.rules.specs.Tables.{Table, filled}
use Rattle.rules.specs.Arrangements.{Arrangement}
use Rattle.rules.specs.Search.{Order, End, found, none, tries, ended, ran_out, cap, Least, Nowhere}
use Rattle.rules.specs.Calls.{well_formed, admitted, answer, searching, arranged}
use Rattle.rules.proofs.Tests.{true_T}
use Rattle.rules.proofs.Descriptions.{read_well_formed}
use Rattle.rules.proofs.Calls.{well_formed_table, admitted_out, arrangement_arranged, arranged_arrangement}
use Rattle.rules.proofs.Largest.{closing_largest}
use Rattle.rules.proofs.Search.{search_found, search_none, cap_case, cap_more}
use Rattle.rules.proofs.Full.{full_table}
use Rattle.answers.specs.Answers.{Answer, outcome}
use Rattle.answers.proofs.Outcomes.{says, counts, leaves}
use Rattle.rules.proofs.Called.{search_refused, search_good, by_test, check_good}
use Rattle.demands.specs.Entries.{Searching, Checking, checks}
use Rattle.demands.specs.Sentences.{stated, Arranges}
use Rattle.demands.proofs.Refusing.{call_gives, gives_good}

-- two numbers that differ are not both the answer's
unlike : {X : Type 0} {m n k : ℕ} → m ≡ n → m ≡ k → (n ≡ k → ⊥) → X
unlike p q f = absurd (f (sym p ∙ q))

-- it ended within the budget with an arrangement; with none; or it did not end within it
pub record Found (e : End) (b : ℕ) (a : Answer) (w : List ℕ) : Type 0 where
  pub end : e ≡ found a.count w
  pub enough : tries e ≤ b
  pub number : a.number ≡ 0

pub record Nothing (e : End) (b : ℕ) (t : List ℕ) (a : Answer) (w : List ℕ) : Type 0 where
  pub end : e ≡ none a.count
  pub enough : tries e ≤ b
  pub number : a.number ≡ 8
  pub table : w ≡ t

pub record Spent (e : End) (b : ℕ) (t : List ℕ) (a : Answer) (w : List ℕ) : Type 0 where
  pub more : b < tries e
  pub number : a.number ≡ 9
  pub count : a.count ≡ b
  pub table : w ≡ t

pub search_ends : (ord ws : List ℕ) (s : Sheet) → read ws ≡ good s → (t : List ℕ) → Table s.boards t → (b : ℕ) (a : Answer) (w : List ℕ)
    → Searching ord ws t b a w → Found (stated ord s t) b a w ⊎ (Nothing (stated ord s t) b t a w ⊎ Spent (stated ord s t) b t a w)
search_ends ord ws s means t table b a w call =
    ⊎_elim (λ d. enough (stated ord s t) refl d.0 d.1) (λ d. inr (inr (spent d.0 d.1))) (cap_case b (stated ord s t))
  where
    is : outcome a w ≡ answer t (cap b (stated ord s t))
    is = call ∙ search_good t ws s means table ord b

    spent : b < tries (stated ord s t) → cap b (stated ord s t) ≡ ran_out b → Spent (stated ord s t) b t a w
    spent h c = let o = is ∙ ap (answer t) c in record { more = h; number = says o; count = counts o; table = leaves o }

    enough : (e : End) → stated ord s t ≡ e → tries (stated ord s t) ≤ b → cap b (stated ord s t) ≡ ended (stated ord s t)
        → Found (stated ord s t) b a w ⊎ (Nothing (stated ord s t) b t a w ⊎ Spent (stated ord s t) b t a w)
    enough (found n x) e h c =
        let o = is ∙ ap (answer t) c ∙ ap (λ (y : End). answer t (ended y)) e in
        inl (record { end = e ∙ sym (ap₂ found (counts o) (leaves o)); enough = h; number = says o })
    enough (none n) e h c =
        let o = is ∙ ap (answer t) c ∙ ap (λ (y : End). answer t (ended y)) e in
        inr (inl (record { end = e ∙ sym (ap none (counts o)); enough = h; number = says o; table = leaves o }))

-- what follows from the number of an answer, and from the tries
module _ {e : End} {b : ℕ} {t : List ℕ} {a : Answer} {w : List ℕ} (ways : Found e b a w ⊎ (Nothing e b t a w ⊎ Spent e b t a w)) where
  pub ways_found : a.number ≡ 0 → e ≡ found a.count w
  ways_found z = ⊎_elim (λ f. f.end) (⊎_elim (λ f. unlike f.number z (λ h. omega arith)) (λ f. unlike f.number z (λ h. omega arith))) ways

  pub ways_none : a.number ≡ 8 → e ≡ none a.count
  ways_none z = ⊎_elim (λ f. unlike f.number z (λ h. omega arith)) (⊎_elim (λ f. f.end) (λ f. unlike f.number z (λ h. omega arith))) ways

  pub ways_out : a.number ≡ 9 → (b < tries e) × (a.count ≡ b)
  ways_out z = ⊎_elim (λ f. unlike f.number z (λ h. omega arith)) (⊎_elim (λ f. unlike f.number z (λ h. omega arith)) (λ f. (f.more, f.count))) ways

  pub out_ways : b < tries e → a.number ≡ 9
  out_ways h =
      ⊎_elim (λ f. let l : tries e ≤ b = f.enough in let z : ⊥ = omega arith in absurd z)
      (⊎_elim (λ f. let l : tries e ≤ b = f.enough in let z : ⊥ = omega arith in absurd z) (λ f. f.number)) ways

  -- within the budget it is 0 or 8
  pub ways_within : tries e ≤ b → (a.number ≡ 0) ⊎ (a.number ≡ 8)
  ways_within h =
      ⊎_elim (λ f. inl f.number) (⊎_elim (λ f. inr f.number) (λ f. let l : b < tries e = f.more in let z : ⊥ = omega arith in absurd z)) ways

  -- it ends within the budget unless that ran out
  pub ways_enough : (a.number ≡ 9 → ⊥) → tries e ≤ b
  ways_enough n = ⊎_elim (λ f. f.enough) (⊎_elim (λ f. f.enough) (λ f. absurd (n f.number))) ways

  pub ways_tries : (a.number ≡ 9 → ⊥) → a.count ≡ tries e
  ways_tries n = ⊎_elim (λ f. sym (ap tries f.end)) (⊎_elim (λ f. sym (ap tries f.end)) (λ f. absurd (n f.number))) ways

-- a larger budget comes to the same, unless the smaller one ran out
pub budget_more : (ord ws t : List ℕ) (b c : ℕ) → b ≤ c → (a : Answer) (u : List ℕ) → Searching ord ws t b a u → (a.number ≡ 9 → ⊥)
    → searching ord ws t b ≡ searching ord ws t c
budget_more ord ws t b c l a u call n = by_admission (admitted well_formed ws t) refl
  where
    enough : (s : Sheet) → outcome a u ≡ answer t (cap b (stated ord s t)) → cap b (stated ord s t) ≡ cap c (stated ord s t)
    enough s is =
        ⊎_elim (λ d. d.1 ∙ sym (cap_more b c (stated ord s t) (stated ord s t) l d.1)) (λ d. absurd (n (says (is ∙ ap (answer t) d.1))))
        (cap_case b (stated ord s t))

    by_admission : (r : Reading Sheet) → admitted well_formed ws t ≡ r → searching ord ws t b ≡ searching ord ws t c
    by_admission (good s) e =
        let k = admitted_out well_formed ws t s e in
        let table = well_formed_table s.boards t k.1 in
        let p = search_good t ws s k.0 table ord b in
        p ∙ ap (answer t) (enough s (call ∙ p)) ∙ sym (search_good t ws s k.0 table ord c)
    by_admission (refused m k) e = search_refused t ws ord b e ∙ sym (search_refused t ws ord c e)

-- what the search finds is the first arrangement; it says none where there is none
module _ {ord : List ℕ} (order : Order ord) (ws : List ℕ) (s : Sheet) (means : read ws ≡ good s) (t : List ℕ) (table : Table s.boards t) (n : ℕ) where
  pub stated_found : (w : List ℕ) → stated ord s t ≡ found n w → Least s ord t w
  stated_found w = search_found (read_well_formed ws s means) (closing_largest s) order t table n w

  pub stated_none : stated ord s t ≡ none n → Nowhere s t
  stated_none = search_none (read_well_formed ws s means) (closing_largest s) order t table n

-- what a call finds, and when it says none
module _ {ord : List ℕ} (order : Order ord) (ws : List ℕ) (s : Sheet) (means : read ws ≡ good s) (t : List ℕ) (table : Table s.boards t) (b : ℕ)
    (a : Answer) (w : List ℕ) (call : Searching ord ws t b a w)
  where
    pub finds_least : a.number ≡ 0 → Least s ord t w
    finds_least z = stated_found order ws s means t table a.count w (ways_found (search_ends ord ws s means t table b a w call) z)

    pub finds_none : tries (stated ord s t) ≤ b → (a.number ≡ 8) ↔ Nowhere s t
    finds_none l = let ways = search_ends ord ws s means t table b a w call in (
      λ e. stated_none order ws s means t table a.count (ways_none ways e),
      λ n. ⊎_elim (λ z. let f = finds_least z in absurd (n w f.arrangement f.inside)) (λ e. e) (ways_within ways l),
    )

-- the same from the full table, where the budget does not run out
module _ {ord : List ℕ} (order : Order ord) (ws : List ℕ) (s : Sheet) (means : read ws ≡ good s) (b : ℕ) (a : Answer) (w : List ℕ)
    (call : Searching ord ws (filled s.boards) b a w)
  where
    pub full_finds : a.number ≡ 0 → Arrangement s w
    full_finds z = (finds_least order ws s means (filled s.boards) (full_table s.boards) b a w call z).arrangement

    pub full_none : (a.number ≡ 9 → ⊥) → (a.number ≡ 8) ↔ Nowhere s (filled s.boards)
    full_none enough =
        let t = filled s.boards in
        let table = full_table s.boards in
        finds_none order ws s means t table b a w call (ways_enough (search_ends ord ws s means t table b a w call) enough)

-- a check answers by whether the table is an arrangement
pub check_ends : (ws : List ℕ) (s : Sheet) → read ws ≡ good s → (t : List ℕ) → Table s.boards t → (a : Answer) → Checking ws t a
    → ((a.number ≡ 0) × Arrangement s t) ⊎ ((a.number ≡ 10) × (Arrangement s t → ⊥))
check_ends ws s means t table a call = by (arranged s t) refl (call ∙ check_good t ws s means table)
  where
    by : (b : Bool) → arranged s t ≡ b → outcome a t ≡ by_test t b → ((a.number ≡ 0) × Arrangement s t) ⊎ ((a.number ≡ 10) × (Arrangement s t → ⊥))
    by true e o = inl (says o, arranged_arrangement (read_well_formed ws s means) table (true_T e))
    by false e o = inr (says o, λ r. subst T e (arrangement_arranged (read_well_formed ws s means) r))

pub check_rejects : {s : Sheet} {t : List ℕ} (a : Answer) → ((a.number ≡ 0) × Arrangement s t) ⊎ ((a.number ≡ 10) × (Arrangement s t → ⊥))
    → (a.number ≡ 10) ↔ (Arrangement s t → ⊥)
check_rejects a (inl d) = (λ e. unlike d.0 e (λ h. omega arith), λ n. absurd (n d.1))
check_rejects a (inr d) = (λ e. d.1, λ n. d.0)

-- so it accepts exactly the arrangements, whatever is lent
module _ (ws t : List ℕ) (a : Answer) (call : Checking ws t a) where
  pub check_accepts : a.number ≡ 0 → Arranges ws t
  check_accepts z =
      let g = gives_good ws t a t (call_gives ws t a t (checks call refl)) z in
      ⊎_elim (λ d. (g.0, g.1, d.1)) (λ d. unlike d.0 z (λ h. omega arith))
      (check_ends ws g.0 g.1 t (well_formed_table g.0.boards t g.2) a call)

  pub check_accepted : Arranges ws t → a.number ≡ 0
  check_accepted r = ⊎_elim (λ d. d.0) (λ d. absurd (d.1 r.2)) (check_ends ws r.0 r.1 t r.2.table a call)
