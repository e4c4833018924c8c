-- The first symbol of the end of a line, by the byte that it begins with. Assumes nothing.
use mathlib.Core.Path.{◌≡◌, refl, sym, ap, ◌∙◌}
use mathlib.Core.Bool.{Bool, true, false, not, ◌||◌, cond}
use mathlib.Core.List.{List, [], ◌∷◌}
use Prim.Native.Nat.{ℕ, suc, ◌+◌, ◌-◌, ◌≤◌, ◌<◌}
use native.Mathlib.Omega.{arith}
use borrow.Author.Tests.{ne_eqb}
use lib.Dec.{eqb}
use lib.ListN.{length, get_or, take, drop, length-drop, drop_of_length-le}
use lib.Seq.{drop-cons, length-take-le, drop-drop, get_or-drop}
use Rattle.std.specs.Prelude.{Some, None}
use Rattle.std.specs.List.{between, prefix_len}
use Rattle.std.proofs.lemmas.List.Sums.{prefix_len-le-length, prefix_len_stops, prefix_len-drop_yes}
use Rattle.std.proofs.lemmas.Slice.{between_to_end}
use Rattle.typed.specs.Symbols.{Symbol, colon, left_paren, right_paren, blank, parts, run, symbol_of, Front, front, first, front_of}
use Rattle.symbols.specs.declared.Token.{Token}
use Rattle.symbols.specs.Tokens.{mark, token_of, token}

-- the front by whether the first byte is a blank
by_blank : ℕ → List ℕ → Bool → Front
by_blank b bs t = elim t [ true ↦ front_of bs | false ↦ first b bs ]

-- what begins with a byte, by whether that is a colon or a parenthesis
by_marks : ℕ → List ℕ → Bool → Bool → Bool → Front
by_marks b bs c l r =
    elim c [
      | true ↦ front colon bs
      | false ↦ elim l [
        | true ↦ front left_paren bs
        | false ↦ elim r [
          | true ↦ front right_paren bs
          | false ↦ front (symbol_of (run (b ∷ bs))) (drop (length (run (b ∷ bs))) (b ∷ bs))
        ]
      ]
    ]

first_by : (b : ℕ) (bs : List ℕ) (c l r : Bool) → eqb b 58 ≡ c → eqb b 40 ≡ l → eqb b 41 ≡ r → first b bs ≡ by_marks b bs c l r
unfolding first by_marks
first_by b bs c l r p q s =
    ap (λ (t : Bool). by_marks b bs t (eqb b 40) (eqb b 41)) p ∙ ap (λ (t : Bool). by_marks b bs c t (eqb b 41)) q ∙ ap (by_marks b bs c l) s

-- ---- blanks and runs

abbrev is_blank : ℕ → Bool
is_blank b = eqb b blank

abbrev joins : ℕ → Bool
joins b = not (parts b)

next : (n : ℕ) → suc n ≡ 1 + n
next n = omega arith

-- blanks are passed over
front_past : (bs : List ℕ) → front_of bs ≡ front_of (drop (prefix_len is_blank bs) bs)
unfolding front_of by_blank
front_past [] = refl
front_past (b ∷ bs) = go (eqb b blank) refl (front_past bs)
  where
    go : (t : Bool) → eqb b blank ≡ t → front_of bs ≡ front_of (drop (prefix_len is_blank bs) bs)
        → by_blank b bs t ≡ front_of (drop (cond t (1 + prefix_len is_blank bs) 0) (b ∷ bs))
    go true e p = p ∙ ap (λ (n : ℕ). front_of (drop n (b ∷ bs))) (next (prefix_len is_blank bs))
    go false e p = sym (ap (by_blank b bs) e)

by_parting : ℕ → List ℕ → Bool → List ℕ
by_parting b bs t = elim t [ true ↦ [] | false ↦ b ∷ run bs ]

-- a run is all that does not part
run_prefix : (bs : List ℕ) → run bs ≡ take (prefix_len joins bs) bs
unfolding run by_parting
run_prefix [] = refl
run_prefix (b ∷ bs) = go (parts b) (run_prefix bs)
  where
    go : (t : Bool) → run bs ≡ take (prefix_len joins bs) bs → by_parting b bs t ≡ take (cond (not t) (1 + prefix_len joins bs) 0) (b ∷ bs)
    go true p = refl
    go false p = ap (λ (r : List ℕ). b ∷ r) p ∙ ap (λ (n : ℕ). take n (b ∷ bs)) (next (prefix_len joins bs))

-- between the two places are blanks alone, and at the second is none
pub record Skipped (line : List ℕ) (at next : ℕ) : Type 0 where
  pub after : at ≤ next
  pub inside : next ≤ length line
  pub front : front_of (drop at line) ≡ front_of (drop next line)
  pub solid : next < length line → eqb (get_or line next 0) blank ≡ false

-- the run of bytes that begins at the first place ends at the second
pub record RunEnd (line : List ℕ) (from end : ℕ) : Type 0 where
  pub after : from ≤ end
  pub inside : end ≤ length line
  pub run : run (drop from line) ≡ take (end - from) (drop from line)

module _ (line : List ℕ) (i n : ℕ) (h : i ≤ length line) where
  whole : between i (length line) line ≡ drop i line
  whole = between_to_end line i (length line) (omega arith)

  pub past_blanks : n ≡ prefix_len is_blank (between i (length line) line) → Skipped line i (i + n)
  past_blanks e =
      let p : n ≡ prefix_len is_blank (drop i line) = e ∙ ap (prefix_len is_blank) whole in
      let l : n ≤ length (drop i line) = omega (arith, prefix_len-le-length is_blank (drop i line)) in
      record {
        after = omega arith;
        inside = omega (arith, length-drop i line);
        front = front_past (drop i line) ∙ ap (λ (k : ℕ). front_of (drop k (drop i line))) (sym p) ∙ ap front_of (drop-drop n i line);
        solid =
            λ m. ap is_blank (sym (get_or-drop i line n 0)) ∙ ap (λ (k : ℕ). is_blank (get_or (drop i line) k 0)) p
            ∙ prefix_len_stops is_blank (drop i line) 0 (omega (arith, length-drop i line));
      }

-- a byte that does not part
no_part : (b : ℕ) → eqb b blank ≡ false → eqb b 58 ≡ false → eqb b 40 ≡ false → eqb b 41 ≡ false → parts b ≡ false
unfolding parts
no_part b p q u v =
    ap (λ (t : Bool). t || eqb b 58 || eqb b 40 || eqb b 41) p ∙ ap (λ (t : Bool). t || eqb b 40 || eqb b 41) q ∙ ap (λ (t : Bool). t || eqb b 41) u ∙ v

module _ (line : List ℕ) (i : ℕ) (h : i < length line) where
  -- a run is its first byte and those after it that do not part
  pub run_ends : (n : ℕ) → eqb (get_or line i 0) blank ≡ false → (get_or line i 0 ≡ 58 → ⊥) → (get_or line i 0 ≡ 40 → ⊥) → (get_or line i 0 ≡ 41 → ⊥)
      → n ≡ prefix_len joins (between (i + 1) (length line) line) → RunEnd line i (i + 1 + n)
  run_ends n solid c l r e =
      let b = get_or line i 0 in
      let j : joins b ≡ true = ap not (no_part b solid (ne_eqb b 58 c) (ne_eqb b 40 l) (ne_eqb b 41 r)) in
      let q : n ≡ prefix_len joins (drop (i + 1) line) = e ∙ ap (prefix_len joins) (whole line (i + 1) n (omega arith)) in
      let p : prefix_len joins (drop i line) ≡ 1 + prefix_len joins (drop (i + 1) line) = prefix_len-drop_yes joins line i 0 h j in
      let k : prefix_len joins (drop i line) ≡ i + 1 + n - i = omega (arith, p, q) in
      record {
        after = omega arith;
        inside = omega (arith, p, q, length-drop i line, prefix_len-le-length joins (drop i line));
        run = run_prefix (drop i line) ∙ ap (λ (k : ℕ). take k (drop i line)) k;
      }

  -- what is no blank begins a symbol
  front_solid : eqb (get_or line i 0) blank ≡ false → front_of (drop i line) ≡ first (get_or line i 0) (drop (suc i) line)
  unfolding front_of by_blank
  front_solid e = ap front_of (drop-cons line i 0 h) ∙ ap (by_blank (get_or line i 0) (drop (suc i) line)) e

-- ---- the symbol at a place, once blanks are passed over

module _ (line : List ℕ) (at from : ℕ) (s : Skipped line at from) where
  -- the place after what is left
  place : (n : ℕ) → n ≤ length line → length line - length (drop n line) ≡ n
  place n h = omega (arith, length-drop n line)

  pub token_none : from ≡ length line → ◌≡◌ {A = Token} (record { symbol = None; next = from }) (token line at)
  unfolding token front_of
  token_none e =
      let d : drop from line ≡ [] = drop_of_length-le line {i = from} (omega arith) in
      ap (λ (n : ℕ). record { symbol = None; next = n }) e ∙ sym (ap (token_of (length line)) (s.front ∙ ap front_of d))

  module _ (h : from < length line) where
    abbrev byte : ℕ
    byte = get_or line from 0

    abbrev rest : List ℕ
    rest = drop (suc from) line

    -- the token where the front is known
    token_front : (x : Symbol) (n : ℕ) → n ≤ length line → first byte rest ≡ front x (drop n line)
        → ◌≡◌ {A = Token} (record { symbol = Some (mark x); next = n }) (token line at)
    unfolding token
    token_front x n l e =
        ap (λ (k : ℕ). record { symbol = Some (mark x); next = k }) (sym (place n l))
        ∙ sym (ap (token_of (length line)) (s.front ∙ front_solid line from h (s.solid h) ∙ e))

    -- a colon or a parenthesis is a symbol by itself
    token_single : (x : Symbol) (b : ℕ) → byte ≡ b → first b rest ≡ front x rest
        → ◌≡◌ {A = Token} (record { symbol = Some (mark x); next = from + 1 }) (token line at)
    token_single x b p e =
        let n : suc from ≡ from + 1 = omega arith in
        token_front x (from + 1) (omega arith) (ap (λ (c : ℕ). first c rest) p ∙ e ∙ ap (λ (k : ℕ). front x (drop k line)) n)

    pub token_colon : byte ≡ 58 → ◌≡◌ {A = Token} (record { symbol = Some (mark colon); next = from + 1 }) (token line at)
    unfolding first
    token_colon e = token_single colon 58 e refl

    pub token_left : byte ≡ 40 → ◌≡◌ {A = Token} (record { symbol = Some (mark left_paren); next = from + 1 }) (token line at)
    unfolding first
    token_left e = token_single left_paren 40 e refl

    pub token_right : byte ≡ 41 → ◌≡◌ {A = Token} (record { symbol = Some (mark right_paren); next = from + 1 }) (token line at)
    unfolding first
    token_right e = token_single right_paren 41 e refl

    -- all else is a word or a number, up to where it ends
    pub token_run : (byte ≡ 58 → ⊥) → (byte ≡ 40 → ⊥) → (byte ≡ 41 → ⊥) → (end : ℕ) → RunEnd line from end
        → ◌≡◌ {A = Token} (record { symbol = Some (mark (symbol_of (take (end - from) (drop from line)))); next = end }) (token line at)
    unfolding by_marks
    token_run not_colon not_left not_right end r = token_front (symbol_of (take (end - from) (drop from line))) end r.inside whole
      where
        c : byte ∷ rest ≡ drop from line
        c = sym (drop-cons line from 0 h)

        size : length (run (drop from line)) ≡ end - from
        size = ap length r.run ∙ length-take-le (end - from) (drop from line) (omega (arith, length-drop from line, r.inside))

        left : drop (length (run (drop from line))) (drop from line) ≡ drop end line
        left =
            let e : from + (end - from) ≡ end = omega (arith, r.after) in
            ap (λ (n : ℕ). drop n (drop from line)) size ∙ drop-drop (end - from) from line ∙ ap (λ (n : ℕ). drop n line) e

        whole : first byte rest ≡ front (symbol_of (take (end - from) (drop from line))) (drop end line)
        whole =
            first_by byte rest false false false (ne_eqb byte 58 not_colon) (ne_eqb byte 40 not_left) (ne_eqb byte 41 not_right)
            ∙ ap (λ (l : List ℕ). front (symbol_of (run l)) (drop (length (run l)) l)) c
            ∙ ap (λ (x : List ℕ). front (symbol_of x) (drop (length (run (drop from line))) (drop from line))) r.run
            ∙ ap (front (symbol_of (take (end - from) (drop from line)))) left
