-- What is put into a text piece by piece is put as a whole. Assumes nothing.
use mathlib.Core.Path.{◌≡◌, refl, sym, ap, ap₂, ◌∙◌, subst}
use mathlib.Core.List.{List, [], ◌∷◌, ◌++◌}
use Prim.Native.Nat.{ℕ, suc, ◌+◌, ◌<◌}
use native.Mathlib.Numerals.{add-one}
use native.Mathlib.Omega.{arith}
use lib.ListN.{length, get_or, take, set, length-append}
use lib.Seq.{sets, length-sets, length-take-le, take-suc}
use Rattle.puts.specs.declared.Writer.{Writer}
use Rattle.puts.specs.Texts.{HasRoom, placed, Put, told}

sets_append : (xs ys t : List ℕ) (at : ℕ) → sets (sets t at xs) (at + length xs) ys ≡ sets t at (xs ++ ys)
sets_append [] ys t at = let e : at + 0 ≡ at = omega arith in ap (λ (n : ℕ). sets t n ys) e
sets_append (x ∷ xs) ys t at =
    let e : at + suc (length xs) ≡ suc at + length xs = omega arith in
    ap (λ (n : ℕ). sets (sets (set t at x) (suc at) xs) n ys) e ∙ sets_append xs ys (set t at x) (suc at)

pub placed_append : (t : List ℕ) (at : ℕ) (xs ys : List ℕ) → placed (placed t at xs) (at + length xs) ys ≡ placed t at (xs ++ ys)
unfolding placed
placed_append t at xs ys = sets_append xs ys t at

pub placed_none : (t : List ℕ) (at : ℕ) → placed t at [] ≡ t
unfolding placed
placed_none t at = refl

-- a text keeps its length
pub length_placed : (t : List ℕ) (at : ℕ) (xs : List ℕ) → length (placed t at xs) ≡ length t
unfolding placed
length_placed t at xs = length-sets t at xs

pub length_joined : (xs ys : List ℕ) → length (xs ++ ys) ≡ length xs + length ys
length_joined xs ys = length-append xs ys

-- another byte of some that are put one after the other
pub bytes_more : (t : List ℕ) (at : ℕ) (bs : List ℕ) (i : ℕ) → i < length bs → set (sets t at (take i bs)) (at + i) (get_or bs i 0) ≡ sets t at (take (i + 1) bs)
bytes_more t at bs i h =
    let l : length (take i bs) ≡ i = length-take-le i bs (omega arith) in
    ap (λ (k : ℕ). set (sets t at (take i bs)) (at + k) (get_or bs i 0)) (sym l) ∙ sets_append (take i bs) (get_or bs i 0 ∷ []) t at
    ∙ ap (sets t at) (sym (take-suc bs i 0 h)) ∙ ap (λ (k : ℕ). sets t at (take k bs)) (sym (add-one i))

pub put_none : (w : Writer) → Put w [] w
put_none w = record { text = sym (placed_none w.text.now w.at); next = omega arith; same = refl }

-- what is known of the room for some bytes, and of bytes that are put, is known of the same bytes in another form
module _ {w : Writer} {xs ys : List ℕ} (e : xs ≡ ys) where
  pub fits_as : HasRoom w xs → HasRoom w ys
  fits_as h = subst (HasRoom w) e h

  pub put_as : {v : Writer} → Put w xs v → Put w ys v
  put_as {v} p = subst (λ (zs : List ℕ). Put w zs v) e p

module _ {w : Writer} (xs ys : List ℕ) where
  pub put_then : {v u : Writer} → Put w xs v → Put v ys u → Put w (xs ++ ys) u
  put_then {v} {u} p q =
      record {
        text =
            q.text ∙ rw (p.text, p.next, placed_append);
        next = omega (arith, p.next, q.next, length-append xs ys);
        same = q.same ∙ p.same;
      }

  -- where all fits, its first part does, and then the rest
  pub fits_first : HasRoom w (xs ++ ys) → HasRoom w xs
  fits_first h = record { room = omega (arith, h.room, length-append xs ys) }

  pub fits_rest : {v : Writer} → HasRoom w (xs ++ ys) → Put w xs v → HasRoom v ys
  fits_rest {v} h p = record { room = omega (arith, h.room, p.next, length-append xs ys, ap length p.text, length_placed w.text.now w.at xs) }

-- two writers by which the same bytes are put tell the same
pub told_once : {w u v : Writer} {xs : List ℕ} → Put w xs u → Put w xs v → told u ≡ told v
told_once p q = ap₂ (λ (t : List ℕ) (n : ℕ). (t, n)) (p.text ∙ sym q.text) (p.next ∙ sym q.next)

-- what shows, of pieces that are put one after the other, that they fit and are put as a whole
pub ruleset putting = (arith, placed_append, placed_none, length_placed, length_joined)
