-- A page, once all is put. Assumes nothing.
use mathlib.Core.Path.{◌≡◌, ap, ◌∙◌}
use mathlib.Core.List.{List, ◌++◌}
use Prim.Native.Nat.{ℕ, zero, suc, ◌+◌, ◌-◌, ◌≤◌}
use native.Mathlib.Omega.{arith}
use lib.ListN.{length, drop, replicate, length-replicate}
use lib.Seq.{sets, sets-eq}
use Rattle.puts.specs.declared.Writer.{Writer}
use Rattle.puts.specs.Texts.{HasRoom, placed, Put}
use Rattle.listing.specs.declared.Page.{Page}
use Rattle.listing.specs.Pages.{page_bytes, page}

abbrev zeros : ℕ → List ℕ
zeros n = replicate n 0

drop_zeros : (n m : ℕ) → drop n (zeros m) ≡ zeros (m - n)
drop_zeros zero m = let e : m ≡ m - 0 = omega arith in ap zeros e
drop_zeros (suc n) zero = let e : 0 ≡ 0 - suc n = omega arith in ap zeros e
drop_zeros (suc n) (suc m) = let e : m - n ≡ suc m - suc n = omega arith in drop_zeros n m ∙ ap zeros e

-- bytes that are put at the front of a blank page fit, and make it the page of these bytes
module _ {w : Writer} {xs : List ℕ} (blank : w.text.now ≡ replicate page_bytes 0) (front : w.at ≡ 0) (h : length xs ≤ page_bytes) where
  pub page_fits : HasRoom w xs
  page_fits = record { room = omega (arith, ap length blank, length-replicate {A = ℕ} page_bytes 0) }

  pub page_whole : {v : Writer} {u : List ℕ} {n : ℕ} → Put w xs v → u ≡ v.text.now → n ≡ v.at → ◌≡◌ {A = Page} (record { text = u; used = n }) (page xs)
  unfolding placed
  page_whole {v} {u} {n} p d e =
      let zero : 0 + length xs ≡ length xs = omega arith in
      let whole : sets (zeros page_bytes) 0 xs ≡ xs ++ zeros (page_bytes - length xs) =
      sets-eq xs (zeros page_bytes) 0 (omega (arith, length-replicate {A = ℕ} page_bytes 0)) ∙ rw (zero, drop_zeros (length xs) page_bytes) in
      rw (d, e, p.text, p.next, blank, front, zero, whole)
