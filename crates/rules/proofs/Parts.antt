-- Parts of a run of words, as code lends them: the end of the run, and the words of a line after its first three. Assumes nothing.
use mathlib.Core.Path.{◌≡◌, ap, ◌∙◌}
use mathlib.Core.List.{List}
use Prim.Native.Nat.{ℕ, ◌+◌, ◌-◌, ◌≤◌}
use native.Mathlib.Nat.{le_of_eq}
use native.Mathlib.Omega.{arith}
use lib.ListN.{length, take, drop, length-drop}
use lib.Seq.{take_all}

-- the words us end the words ws
pub record Suffix (ws us : List ℕ) : Type 0 where
  pub shorter : length us ≤ length ws
  pub end : drop (length ws - length us) ws ≡ us

pub drop_suffix : (k : ℕ) (ws : List ℕ) → k ≤ length ws → Suffix ws (drop k ws)
drop_suffix k ws h =
    let l : length (drop k ws) ≡ length ws - k = length-drop k ws in
    let e : length ws - length (drop k ws) ≡ k = omega arith in
    record { shorter = omega arith; end = ap (λ (n : ℕ). drop n ws) e }

-- a part from k on to the end is what is left after k words
pub tail : (k : ℕ) (ws : List ℕ) → take (length ws - k) (drop k ws) ≡ drop k ws
tail k ws = take_all (length ws - k) (drop k ws) (le_of_eq (length-drop k ws))

pub tail_length : (k : ℕ) (ws : List ℕ) → length (take (length ws - k) (drop k ws)) ≡ length ws - k
tail_length k ws = ap length (tail k ws) ∙ length-drop k ws

-- the words of a line after its first three are as many as the line says
pub part : (k n : ℕ) → k ≡ n → 3 + k - 3 ≡ n
part k n e = omega arith
