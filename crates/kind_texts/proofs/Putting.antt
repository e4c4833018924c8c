-- The words of a kind line: the first three, and the ways after them unless they are too many. Assumes nothing.
use mathlib.Core.Path.{◌≡◌, sym, ap, ap₂, ◌∙◌}
use mathlib.Core.List.{List, [], ◌∷◌}
use Prim.Native.Nat.{ℕ, suc, ◌+◌, ◌≤◌, ◌<◌}
use native.Mathlib.Omega.{arith}
use lib.ListN.{length, take}
use lib.Seq.{sets}
use Rattle.std.proofs.Common.{Some}
use Rattle.rules.specs.Descriptions.{most_ways}
use Rattle.typed.specs.Brief.{brief}
use Rattle.taken.specs.Lines.{Begun}
use Rattle.typed.proofs.Brief.{brief_whole, brief_cut}
use Rattle.kind_texts.specs.Listing.{Puts}

-- where the ways are too many, only their number is left, one above the most
pub brief_over : (p c : ℕ) (ys : List ℕ) → most_ways < length ys → brief most_ways (p ∷ c ∷ length ys ∷ ys) ≡ p ∷ c ∷ suc most_ways ∷ []
brief_over p c ys h = brief_cut most_ways (p ∷ c ∷ length ys ∷ ys) (omega arith)

module _ {p c : ℕ} {room : List ℕ} {n : ℕ} {ws : List ℕ} {at : ℕ} {started : List ℕ} {next : ℕ} (b : Begun ws at p c n started next) where
  -- too many ways: only their number
  pub puts_over : most_ways < n → Puts p c room n ws at started next
  puts_over l ys h =
      let e : n ≡ suc most_ways = omega (arith, h.count) in
      let i = brief_over p c ys (omega (arith, h.count)) in
      let k : next ≡ at + length (brief most_ways (p ∷ c ∷ length ys ∷ ys)) = omega (arith, b.place, ap length i) in
      record {
        answer = ap Some k;
        words = b.words ∙ ap (sets ws at) (ap (λ (m : ℕ). p ∷ c ∷ m ∷ []) e ∙ sym i);
      }

  -- all of them
  pub puts_all : n ≤ most_ways → {after : List ℕ} → after ≡ sets started next (take n room)
      → Puts p c room n ws at after (next + n)
  puts_all l {after} q ys h =
      let e : n ≡ length ys = omega (arith, h.count) in
      let i = brief_whole most_ways (p ∷ c ∷ length ys ∷ ys) (omega arith) in
      let j : next ≡ suc (suc (suc at)) = omega (arith, b.place) in
      let k : next + n ≡ at + length (brief most_ways (p ∷ c ∷ length ys ∷ ys)) = omega (arith, b.place, ap length i) in
      record {
        answer = ap Some k;
        words =
            q ∙ ap₂ (λ (us : List ℕ) (m : ℕ). sets us m (take n room)) b.words j
            ∙ ap (sets ws at) (ap₂ (λ (m : ℕ) (xs : List ℕ). p ∷ c ∷ m ∷ xs) e (h.kept (omega arith)) ∙ sym i);
      }
