-- Admitting a call: what is refused at once, and what is known of what was admitted, whatever 6 asks for. Assumes nothing.
use mathlib.Core.Path.{◌≡◌, refl, sym, ap, ◌∙◌, subst}
use mathlib.Core.Bool.{Bool, true, false, not}
use mathlib.Core.List.{List}
use Prim.Native.Nat.{ℕ, ◌^◌, ◌<◌}
use native.Mathlib.Omega.{arith}
use borrow.Author.Tests.{not-true, not-false}
use lib.Dec.{T}
use lib.ListN.{get_or}
use Rattle.rules.specs.Descriptions.{Sheet, Reading, good, refused, need, read}
use Rattle.rules.specs.Calls.{refuse, has_cells, well_formed, admitted, opening, close, searching, check}
use Rattle.rules.proofs.Tests.{clash}
use Rattle.rules.proofs.Places.{place_small}
use Rattle.rules.proofs.Calls.{well_formed_table, has_cells_cells, looked, admitted_out}
use Rattle.rules.proofs.Called.{opening_refused, close_refused, search_refused, check_refused}
use Rattle.answers.specs.declared.refusals.Refusal.{Refusal}
use Rattle.std.specs.Prelude.{Ok, Err}
use Rattle.answers.specs.Answers.{number_of, fault_of, refusal, Answer, answered, outcome}
use Rattle.answers.proofs.Faults.{read_faulty}
use Rattle.headers.specs.declared.Header.{Header}
use Rattle.headers.specs.Found.{numbers_found}
use Rattle.sheet.specs.Found.{description_found}
use Rattle.sheet.proofs.Described.{described, described_one}
use Rattle.closing.specs.Closes.{Measured, Admitted}
use Rattle.admitting.specs.Found.{admitted_found}

module _ (asks : ℕ → List ℕ → Bool) (ws t : List ℕ) where
  -- ---- what `admit` finds

  pub admit_undescribed : (q : Refusal) → Err q ≡ description_found ws → Err q ≡ admitted_found asks ws t
  unfolding admitted
  admit_undescribed q p = go (read ws) p
    where
      go : (r : Reading Sheet) → Err q ≡ numbers_found ws r → Err q ≡ numbers_found ws (looked asks t r)
      go (good s) e = clash (cc)
      go (refused n k) e = e

  module _ {h : Header} (header : Ok h ≡ description_found ws) {b : Bool} (said : b ≡ asks h.boards t) where
    tested : (c : Bool) → b ≡ c → numbers_found ws (need 6 0 c (good (described ws h header).0)) ≡ admitted_found asks ws t
    unfolding admitted
    tested c e =
        let d = described ws h header in
        ap (λ (x : Bool). numbers_found ws (need 6 0 x (good d.0))) (sym e ∙ said ∙ ap (λ (v : ℕ). asks v t) d.1.boards)
        ∙ ap (λ (r : Reading Sheet). numbers_found ws (looked asks t r)) (sym d.1.means)

    pub admit_no_table : not b ≡ true → Err (refusal 6 0) ≡ admitted_found asks ws t
    admit_no_table e = tested false (not-true b e)

    pub admit_good : not b ≡ false → Ok h ≡ admitted_found asks ws t
    admit_good e = header ∙ ap (numbers_found ws) (described ws h header).1.means ∙ tested true (not-false b e)

  -- ---- what is known then

  -- the header is that of a good description, and the table has what was asked for
  admit_known : {h : Header} → Ok h ≡ admitted_found asks ws t → (Ok h ≡ description_found ws) × T (asks h.boards t)
  admit_known {h} p = go (admitted asks ws t) refl p
    where
      go : (r : Reading Sheet) → admitted asks ws t ≡ r → Ok h ≡ numbers_found ws r → (Ok h ≡ description_found ws) × T (asks h.boards t)
      go (good s) e q =
          let known = admitted_out asks ws t s e in
          let header : Ok h ≡ description_found ws = q ∙ ap (numbers_found ws) (sym known.0) in
          let d = described ws h header in
          (header, subst (λ (n : ℕ). T (asks n t)) (ap (λ (u : Sheet). u.boards) (sym (described_one d.1 known.0)) ∙ sym d.1.boards) known.1)
      go (refused n k) e q = clash (cc)

  -- ---- a call that is refused at once

  -- it is refused with the number of a fault
  admitted_faulty : (n k : ℕ) → admitted asks ws t ≡ refused n k → number_of (fault_of n) ≡ n
  unfolding admitted
  admitted_faulty n k = go (read ws) refl
    where
      formless : (b : Bool) (s : Sheet) → need 6 0 b (good s) ≡ refused n k → number_of (fault_of n) ≡ n
      formless true s e = clash (cc)
      formless false s e = let d : 6 ≡ n = cc in subst (λ (m : ℕ). number_of (fault_of m) ≡ m) d refl

      go : (r : Reading Sheet) → read ws ≡ r → looked asks t r ≡ refused n k → number_of (fault_of n) ≡ n
      go (good s) e d = formless (asks s.boards t) s d
      go (refused m j) e d = let f : m ≡ n = cc in subst (λ (i : ℕ). number_of (fault_of i) ≡ i) f (read_faulty ws m j e)

  module _ (q : Refusal) (p : Err q ≡ admitted_found asks ws t) where
    is_refused : admitted asks ws t ≡ refused (number_of q.fault) q.place
    is_refused = go (admitted asks ws t) refl p
      where
        go : (r : Reading Sheet) → admitted asks ws t ≡ r → Err q ≡ numbers_found ws r → admitted asks ws t ≡ refused (number_of q.fault) q.place
        go (good s) i e = clash (cc)
        go (refused n k) i e =
            let f : q ≡ refusal n k = cc in
            i ∙ ap (λ (m : ℕ). refused m k) (sym (admitted_faulty n k i)) ∙ ap (λ (r : Refusal). refused (number_of r.fault) r.place) (sym f)

    -- its place is a count
    pub admit_place : get_or ws 5 0 < 65536 → q.place < 2 ^ 32
    unfolding admitted
    admit_place small = go (read ws) refl is_refused
      where
        formless : (b : Bool) (s : Sheet) → need 6 0 b (good s) ≡ refused (number_of q.fault) q.place → q.place < 2 ^ 32
        formless true s e = clash (cc)
        formless false s e = let d : 0 ≡ q.place = cc in omega (arith, d)

        go : (r : Reading Sheet) → read ws ≡ r → looked asks t r ≡ refused (number_of q.fault) q.place → q.place < 2 ^ 32
        go (good s) e d = formless (asks s.boards t) s d
        go (refused n k) e d = let f : k ≡ q.place = cc in omega (arith, place_small ws n k e, small, f)

module _ (ws t : List ℕ) where
  -- what is known of a table that may hold anything, and of one whose cells are sets
  pub admit_measured : {h : Header} → Ok h ≡ admitted_found has_cells ws t → Measured h ws t
  admit_measured {h} p =
      let known = admit_known has_cells ws t p in record { header = known.0; cells = has_cells_cells h.boards t known.1 }

  pub admit_admitted : {h : Header} → Ok h ≡ admitted_found well_formed ws t → Admitted h ws t
  admit_admitted {h} p =
      let known = admit_known well_formed ws t p in
      record {
        header = known.0;
        ready = record { boards = (described ws h known.0).1.few; table = well_formed_table h.boards t known.1 };
      }

  -- what a refusal is told as
  module _ (q : Refusal) {a : Answer} (told : a ≡ answered (number_of q.fault) q.place) where
    told_refused : outcome a t ≡ refuse (number_of q.fault) q.place t
    told_refused = ap (λ (a : Answer). outcome a t) told

    pub opening_told : Err q ≡ admitted_found has_cells ws t → outcome a t ≡ opening ws t
    opening_told p = told_refused ∙ sym (opening_refused t ws (is_refused has_cells ws t q p))

    module _ (p : Err q ≡ admitted_found well_formed ws t) where
      pub close_told : outcome a t ≡ close ws t
      close_told = told_refused ∙ sym (close_refused t ws (is_refused well_formed ws t q p))

      pub search_told : (ord : List ℕ) (b : ℕ) → outcome a t ≡ searching ord ws t b
      search_told ord b = told_refused ∙ sym (search_refused t ws ord b (is_refused well_formed ws t q p))

      pub check_told : outcome a t ≡ check ws t
      check_told = told_refused ∙ sym (check_refused t ws (is_refused well_formed ws t q p))
