-- A kind line by its place: the line that is read off the words from there on is the one that stands there. Assumes nothing.
use mathlib.Core.Path.{◌≡◌, ap, ◌∙◌, subst}
use mathlib.Core.List.{List}
use Prim.Native.Nat.{ℕ, ◌+◌, ◌-◌, ◌≤◌}
use native.Mathlib.Omega.{arith}
use lib.ListN.{length, get_or, take, drop, length-drop}
use lib.Seq.{get_or-drop, drop-drop}
use Rattle.rules.specs.Descriptions.{KindLine, good, Front, kind_line}
use Rattle.rules.proofs.Lines.{kind_out, after_line, boards_only_out}
use Rattle.kinds.specs.Lines.{kind_at, ways_at, line_at, Below, StandsIn}

-- the line read is the one at the word `at`, with the words after it
pub record ReadAt (v : ℕ) (ws : List ℕ) (at : ℕ) (f : Front KindLine) : Type 0 where
  pub three : at + 3 ≤ length ws
  pub stands : StandsIn v ws (kind_at ws at)
  pub line : f.line ≡ line_at ws (kind_at ws at)
  pub end : length ws - length f.rest ≡ (kind_at ws at).end

module _ (v : ℕ) (ws : List ℕ) (at : ℕ) where
  -- the first word of the line, and its ways
  first_word : get_or (drop at ws) 0 0 ≡ get_or ws at 0
  first_word = let e : at + 0 ≡ at = omega arith in get_or-drop at ws 0 0 ∙ ap (λ (n : ℕ). get_or ws n 0) e

  ways_there : take (get_or (drop at ws) 2 0) (drop 3 (drop at ws)) ≡ ways_at ws (kind_at ws at)
  ways_there =
      let e : get_or ws (at + 2) 0 ≡ at + 3 + get_or ws (at + 2) 0 - (at + 3) = omega arith in
      rw (get_or-drop at ws 2 0, drop-drop 3 at ws, ← e)

  pub read_at : at ≤ length ws → (f : Front KindLine) → kind_line v (drop at ws) ≡ good f → ReadAt v ws at f
  read_at within f e =
      let r = kind_out v (drop at ws) f e in
      let fits = r.passed.fits in
      let l : length (drop at ws) ≡ length ws - at = length-drop at ws in
      let n : get_or (drop at ws) 2 0 ≡ get_or ws (at + 2) 0 = get_or-drop at ws 2 0 in
      subst (ReadAt v ws at) r.front
      (record {
        three = omega arith;
        stands =
            record {
              ordered = omega arith;
              room = omega arith;
              board = rw first_word at r.passed.p_board;
              boards = subst (Below v) ways_there (boards_only_out v (take (get_or (drop at ws) 2 0) (drop 3 (drop at ws))) r.passed.way_boards);
            };
        line = rw (first_word, get_or-drop at ws 1 0, ways_there);
        end = omega (arith, after_line (get_or (drop at ws) 2 0) (drop at ws));
      })
