-- The number that a call answers is one of those that are unpacked (`Packing`). Assumes nothing.
use mathlib.Core.Path.{◌≡◌, refl}
use mathlib.Core.Bool.{Bool, true, false}
use mathlib.Core.List.{List}
use Prim.Native.Nat.{ℕ, ◌≤◌}
use native.Mathlib.Omega.{arith}
use Rattle.rules.specs.Descriptions.{Sheet, Reading, good, refused, need, read}
use Rattle.rules.specs.Tables.{filled, emptied}
use Rattle.rules.specs.Closed.{strikes}
use Rattle.rules.specs.Closing.{closing}
use Rattle.rules.specs.Search.{found, none, Capped, ended, ran_out, search, cap}
use Rattle.rules.specs.Calls.{Outcome, refuse, succeed, has_cells, well_formed, admitted, given, reading, close_into, opening, close, answer, searching, arranged, check}
use Rattle.rules.proofs.Tests.{clash}
use Rattle.rules.proofs.Descriptions.{read_bounded}
use Rattle.rules.proofs.Calls.{looked}
use Rattle.talung.proofs.Packing.{most_number}

abbrev Numbered : {L : Type 0} → Outcome L → Type 0
Numbered o = o.number ≤ most_number

either : (b : Bool) (x y : Outcome (List ℕ)) → Numbered x → Numbered y → Numbered {L = List ℕ} (elim b [ true ↦ x | false ↦ y ])
either true x y h k = h
either false x y h k = k

admitted_numbered : (asks : ℕ → List ℕ → Bool) (ws t : List ℕ) (n k : ℕ) → admitted asks ws t ≡ refused n k → n ≤ most_number
unfolding admitted
admitted_numbered asks ws t n k p = by (read ws) refl p
  where
    by : (r : Reading Sheet) → read ws ≡ r → looked asks t r ≡ refused n k → n ≤ most_number
    by (good s) e p = formed (asks s.boards t) p
      where
        formed : (b : Bool) → need 6 0 b (good s) ≡ refused n k → n ≤ most_number
        formed true q = clash (cc)
        formed false q = let f : 6 ≡ n = cc in omega arith
    by (refused m i) e p = let f : m ≡ n = cc in omega (arith, read_bounded ws m i e)

given_numbered : (asks : ℕ → List ℕ → Bool) (ws t : List ℕ) (f : Sheet → Outcome (List ℕ)) → ((s : Sheet) → Numbered (f s))
    → Numbered (given (admitted asks ws t) t f)
given_numbered asks ws t f h = by (admitted asks ws t) refl
  where
    by : (r : Reading Sheet) → admitted asks ws t ≡ r → Numbered (given r t f)
    by (good s) e = h s
    by (refused n k) e = admitted_numbered asks ws t n k e

pub reading_numbered : (ws : List ℕ) → Numbered (reading ws)
unfolding reading
reading_numbered ws = by (read ws) refl
  where
    by : (r : Reading Sheet) → read ws ≡ r → Numbered (given {L = Unit {0}} r tt (λ s. succeed 0 tt))
    by (good s) e = omega arith
    by (refused n k) e = omega (arith, read_bounded ws n k e)

-- the table t closed into another
into_numbered : (l : List ℕ) (s : Sheet) (t : List ℕ) → Numbered (close_into l s t)
into_numbered l s t =
    either (emptied (closing s t)) (refuse 7 0 l) (succeed (strikes t (closing s t)) (closing s t)) (omega arith) (omega arith)

pub opening_numbered : (ws t : List ℕ) → Numbered (opening ws t)
unfolding opening
opening_numbered ws t = given_numbered has_cells ws t _ (λ s. into_numbered t s (filled s.boards))

pub close_numbered : (ws t : List ℕ) → Numbered (close ws t)
unfolding close
close_numbered ws t = given_numbered well_formed ws t _ (λ s. into_numbered t s t)

pub searching_numbered : (ord ws t : List ℕ) (b : ℕ) → Numbered (searching ord ws t b)
unfolding searching
searching_numbered ord ws t b = given_numbered well_formed ws t _ (λ s. by (cap b (search (closing s) ord s.boards t)))
  where
    by : (c : Capped) → Numbered (answer t c)
    by (ended (found n w)) = omega arith
    by (ended (none n)) = omega arith
    by (ran_out n) = omega arith

pub check_numbered : (ws t : List ℕ) → Numbered (check ws t)
unfolding check
check_numbered ws t = given_numbered well_formed ws t _ (λ s. either (arranged s t) (succeed 0 t) (refuse 10 0 t) (omega arith) (omega arith))
