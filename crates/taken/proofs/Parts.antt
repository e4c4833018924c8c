-- A part of a list that is written at once. Assumes nothing.
use mathlib.Core.Path.{◌≡◌, sym, ap, ◌∙◌}
use mathlib.Core.List.{List, ◌++◌}
use Prim.Native.Nat.{ℕ, ◌+◌, ◌≤◌}
use borrow.Rule.Slice.PartMut.{put_mid}
use lib.ListN.{length, take}
use lib.Seq.{drop-drop}
use Rattle.std.proofs.Common.{append_assoc}
use Rattle.std.proofs.lemmas.List.Edits.{sets, sets-eq}

-- of a list the n elements from a place on are written: so many are set there
pub part_sets : (at n : ℕ) (xs ys zs : List ℕ) → ys ≡ zs → n ≡ length zs → at + length zs ≤ length xs → put_mid at n xs ys ≡ sets xs at zs
part_sets at n xs ys zs p q h =
    ap (put_mid at n xs) p ∙ ap (λ (k : ℕ). put_mid at k xs zs) q ∙ ap (λ (l : List ℕ). take at xs ++ (zs ++ l)) (drop-drop (length zs) at xs)
    ∙ sym (append_assoc (take at xs) zs _) ∙ sym (sets-eq zs xs at h)
