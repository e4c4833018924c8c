-- Any two ends of the tries that the contract of `choose` permits are equal, and so are the cells where one is an arrangement. Assumes nothing.
use mathlib.Core.Path.{◌≡◌, sym, ap, ◌∙◌}
use mathlib.Core.List.{List}
use Prim.Native.Nat.{ℕ}
use Rattle.rules.specs.Search.{End, found, none, Capped, ended, ran_out, cap}
use Rattle.contracts.specs.Promises.{OfTwo, OneResult}
use Rattle.sheet.proofs.Described.{described}
use Rattle.choosing.specs.declared.Ended.{Ended}
use Rattle.choosing.specs.declared.Ended.TheVariants.{Arranged, Nowhere, RanOut}
use Rattle.choosing.specs.Tries.{ends}
use Rattle.choosing.proofs.choose.Kinds as choose_kinds
use Rattle.choosing.proofs.choose.Reads as choose

-- what the end is, of one that may have been capped
abbrev tells : Capped → Ended
tells (ended (found n w)) = Arranged n
tells (ended (none n)) = Nowhere n
tells (ran_out b) = RanOut

-- the cells it leaves
abbrev leaves : List ℕ → Capped → List ℕ
leaves u (ended (found n w)) = w
leaves u (ended (none n)) = u
leaves u (ran_out b) = u

module _ (e : End) (b : ℕ) where
  told : (w : List ℕ) (r : Ended) → ends e b w r → r ≡ tells (cap b e)
  told w (Arranged n) h = sym (ap tells h)
  told w (Nowhere n) h = sym (ap tells h)
  told w RanOut h = sym (ap tells h)

  one_end : (u w : List ℕ) (q r : Ended) → ends e b u q → ends e b w r → q ≡ r
  one_end u w q r f g = told u q f ∙ sym (told w r g)

  one_arrangement : (u w : List ℕ) (q r : Ended) (m n : ℕ) → ends e b u q → ends e b w r → q ≡ Arranged m → r ≡ Arranged n → u ≡ w
  one_arrangement u w (Arranged i) (Arranged j) m n f g p q = ap (leaves u) (sym f ∙ g)
  one_arrangement u w (Arranged i) (Nowhere j) m n f g p q = cc
  one_arrangement u w (Arranged i) RanOut m n f g p q = cc
  one_arrangement u w (Nowhere i) r m n f g p q = cc
  one_arrangement u w RanOut r m n f g p q = cc

-- how it ends
pub choose_determined : OneResult 7 choose_kinds.ps choose_kinds.r choose.Asked choose.Learnt
choose_determined κs a asked x y d e p q =
    let s = described a.1.0.now a.0 asked.told.header in
    one_end _ _ d.1.1.1.1.1.1.1.0.now e.1.1.1.1.1.1.1.0.now x y (p s.0 s.1.means) (q s.0 s.1.means)

-- the cells of an arrangement
pub choose_cells_determined : OfTwo 7 choose_kinds.ps choose_kinds.r choose.Asked choose.Learnt
    (λ κs x y d e. (m n : ℕ) → x ≡ Arranged m → y ≡ Arranged n → d.1.1.1.1.1.1.1.0.now ≡ e.1.1.1.1.1.1.1.0.now)
choose_cells_determined κs a asked x y d e p q m n =
    let s = described a.1.0.now a.0 asked.told.header in
    one_arrangement _ _ d.1.1.1.1.1.1.1.0.now e.1.1.1.1.1.1.1.0.now x y m n (p s.0 s.1.means) (q s.0 s.1.means)
