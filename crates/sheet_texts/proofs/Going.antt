-- Lines put one after the other, whatever sort they are of. Assumes nothing.
use mathlib.Core.Path.{◌≡◌, refl, sym, ap, ◌∙◌}
use mathlib.Core.List.{List, [], ◌++◌, flat_map, append_assoc, append-nil}
use Prim.Native.Nat.{ℕ, zero, suc, ◌+◌, ◌-◌, ◌≤◌, ◌<◌}
use native.Mathlib.Omega.{arith}
use lib.ListN.{length, take, drop}
use Rattle.rules.proofs.Parts.{tail, tail_length}
use Rattle.puts.specs.declared.Writer.{Writer}
use Rattle.puts.specs.Texts.{HasRoom, Put}
use Rattle.puts.proofs.Putting.{put_none, put_then, put_as, fits_as, fits_first, fits_rest}
use Rattle.typed.specs.Symbols.{Symbol}
use Rattle.typed.specs.Writing.{lines_typing}
use Rattle.sheet_texts.specs.Lines.{line_words, HasLine, HasLines, front_text, lines_text}

-- the words from a place on, as code lends them
abbrev pub lent : ℕ → List ℕ → List ℕ
lent at ws = take (length ws - at) (drop at ws)

module _ (P : ℕ → ℕ → List ℕ → Type 0) (line : ℕ → ℕ → List ℕ → List Symbol) where
  -- ---- the first of some lines, and the others

  first_line : (n : ℕ) {ws : List ℕ} → 0 < n → HasLines P n ws → HasLine P ws × HasLines P (n - 1) (drop (line_words ws) ws)
  unfolding HasLines
  first_line zero h l = let z : ⊥ = omega arith in absurd z
  first_line (suc n) {ws} h l = let e : suc n - 1 ≡ n = omega arith in rw e l

  first_bytes : (n : ℕ) (ws : List ℕ) → 0 < n → lines_text line n ws ≡ front_text line ws ++ lines_text line (n - 1) (drop (line_words ws) ws)
  unfolding lines_typing flat_map
  first_bytes zero ws h = let z : ⊥ = omega arith in absurd z
  first_bytes (suc n) ws h = let e : suc n - 1 ≡ n = omega arith in rw e

  no_bytes : (n : ℕ) (ws : List ℕ) → n ≤ 0 → lines_text line n ws ≡ []
  unfolding lines_typing flat_map
  no_bytes zero ws h = refl
  no_bytes (suc n) ws h = let z : ⊥ = omega arith in absurd z

  -- ---- on the way

  module _ (count : ℕ) (ws : List ℕ) (w : Writer) where
    -- Of the count lines that the words begin with, i are put by the writer, which goes on as v; the others begin the words that are left.
    pub record Going (left : List ℕ) (v : Writer) (i : ℕ) : Type 0 where
      pub within : length left ≤ length ws
      pub lines : HasLines P (count - i) left
      pub done : List ℕ
      pub put : Put w done v
      pub whole : lines_text line count ws ≡ done ++ lines_text line (count - i) left

    pub going_start : HasLines P count ws → Going ws w 0
    going_start l = let e : count - 0 ≡ count = omega arith in record { within = omega arith; lines = rw e l; done = []; put = put_none w; whole = rw e }

    module _ {left : List ℕ} {v : Writer} {i : ℕ} (g : Going left v i) where
      -- after the last
      pub going_end : count ≤ i → Put w (lines_text line count ws) v
      going_end h =
          put_as (sym (g.whole ∙ ap (λ (bs : List ℕ). g.done ++ bs) (no_bytes (count - i) left (omega arith)) ∙ append-nil g.done)) g.put

      module _ (some : i < count) where
        -- there is a next line
        pub next_line : HasLine P left
        next_line = (first_line (count - i) (omega arith) g.lines).0

        split : lines_text line count ws
            ≡ g.done ++ (front_text line left ++ lines_text line (count - i - 1) (drop (line_words left) left))
        split = g.whole ∙ ap (λ (bs : List ℕ). g.done ++ bs) (first_bytes (count - i) left (omega arith))

        -- there is room for it
        pub next_room : HasRoom w (lines_text line count ws) → HasRoom v (front_text line left)
        next_room room = fits_first (front_text line left) _ (fits_rest g.done _ (fits_as split room) g.put)

        -- and it is put
        pub going_next : {u : Writer} {r : ℕ} → r ≡ line_words left → Put v (front_text line left) u → Going (lent r left) u (i + 1)
        going_next {u} {r} e p =
            let n : count - i - 1 ≡ count - (i + 1) = omega arith in
            record {
              within = omega (arith, tail_length r left, g.within);
              lines = rw (tail r left, e, ← n) (first_line (count - i) (omega arith) g.lines).1;
              done = g.done ++ front_text line left;
              put = put_then g.done (front_text line left) g.put p;
              whole = split ∙ rw (tail r left, e, n) (sym (append_assoc g.done (front_text line left) (lines_text line (count - (i + 1)) (drop (line_words left) left))));
            }
