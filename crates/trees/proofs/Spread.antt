-- The tree of all that is at or above some places: closed under going up, whatever the places are.
-- Assumes nothing.
use mathlib.Core.Path.{◌≡◌, sym, ap, ◌∙◌, subst}
use mathlib.Core.Logic.{◌⊎◌, inl, inr, ⊎_elim}
use mathlib.Core.List.Memᴰ
use mathlib.Core.List.{List, [], ◌∷◌, ◌++◌, map, flat_map, Memᴰ}
use Prim.Native.Nat.{ℕ, suc, ◌<◌}
use native.Mathlib.Omega.{arith}
use lib.ListN.{length, take, drop, take-append-drop, length-append}
use lib.Seq.{take-append_seam}
use Rattle.rules.specs.Tables.{up_to}
use Rattle.rules.proofs.Members.{all_over, over_all, up_to_in, up_to_out}
use Rattle.trees.specs.Trees.{Place, AtOrAbove, Placement}
use Rattle.trees.proofs.Places.{at_refl, at_trans, above_root}

-- all that is at or above a place
prefixes : Place → List Place
prefixes y = map (λ n. take n y) (up_to (suc (length y)))

prefix_in : {x y : Place} → AtOrAbove x y → Memᴰ x (prefixes y)
unfolding prefixes
prefix_in {x} {y} h =
    let l : length x < suc (length y) = omega (arith, ap length h.path, length-append x h.rest) in
    Memᴰ.cast (sym (ap (take (length x)) h.path ∙ take-append_seam x h.rest)) (Memᴰ.map (λ n. take n y) (up_to_in l))

prefix_out : {x : Place} (y : Place) → Memᴰ x (prefixes y) → AtOrAbove x y
unfolding prefixes
prefix_out {x} y m = from (Memᴰ.of_map (λ n. take n y) (up_to (suc (length y))) m)
  where
    from : (n : ℕ) × Memᴰ n (up_to (suc (length y))) × (take n y ≡ x) → AtOrAbove x y
    from (n, l, e) = record { rest = drop n y; path = sym (take-append-drop n y) ∙ ap (λ (w : Place). w ++ drop n y) e }

module _ (v : ℕ) (spot : ℕ → Place) where
  -- the root, and all that is at or above the spot of a board
  pub places_over : List Place
  places_over = [] ∷ flat_map (λ b. prefixes (spot b)) (up_to v)

  pub places_in : {x : Place} {b : ℕ} → b < v → AtOrAbove x (spot b) → Memᴰ x places_over
  unfolding places_over
  places_in {x} {b} h g =
      Memᴰ.tail
      (over_all (λ y. Memᴰ y (flat_map (λ c. prefixes (spot c)) (up_to v))) (λ c. prefixes (spot c)) (up_to v) (λ y m. m)
      b (up_to_in h) x (prefix_in g))

  -- some board's spot is at or below x
  abbrev pub Covered : Place → Type 0
  Covered x = (b : ℕ) × (b < v) × AtOrAbove x (spot b)

  pub places_out : {x : Place} → Memᴰ x places_over → (x ≡ []) ⊎ Covered x
  unfolding places_over
  places_out {x} m =
      ⊎_elim inl
      (λ n. inr (all_over Covered (λ b. prefixes (spot b)) (up_to v) (λ b l y k. (b, up_to_out v b l, prefix_out (spot b) k)) x n))
      (Memᴰ.cases_cons m)

  pub places_upward : (x y : Place) → AtOrAbove x y → Memᴰ y places_over → Memᴰ x places_over
  unfolding places_over
  places_upward x y h m = ⊎_elim root covered (places_out m)
    where
      root : y ≡ [] → Memᴰ x places_over
      root e = Memᴰ.head (above_root (subst (λ (z : Place). AtOrAbove x z) e h))

      covered : Covered y → Memᴰ x places_over
      covered (b, l, g) = places_in l (at_trans h g)

  -- the tree of these places, with a code for each: every board stands at its spot
  abbrev pub spread : (Place → ℕ) → Placement v
  spread code = record {
    tree = record { places = places_over; upward = places_upward; code = code };
    place = spot;
    placed = λ p h. places_in h (at_refl (spot p));
  }
