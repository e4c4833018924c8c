-- What is read is well-formed, and reading refuses with 1 to 5 and 11 only. Assumes nothing.
use mathlib.Core.Path.{◌≡◌, sym, ap, ◌∙◌, subst}
use mathlib.Core.Bool.{◌&&◌}
use mathlib.Core.Logic.{⊎_elim}
use mathlib.Core.List.Memᴰ
use mathlib.Core.List.{List, [], ◌∷◌, Memᴰ}
use Prim.Native.Nat.{ℕ, zero, suc, ◌≤◌, ◌<◌}
use native.Mathlib.Omega.{arith}
use lib.Dec.{T, leb, eqb, leb→le, eqb→eq}
use lib.ListN.{length, get_or, take, drop}
use Rattle.rules.specs.Descriptions.{most_ways, RelationLine, KindLine, Sheet, WellFormed, Reading, good, refused, Front, next, later, relation_line, kind_line, section, after_offsets, agreed, OneArity, relation_lines, kind_lines, meant, agreed_sheet, read, refuses_description}
use Rattle.rules.proofs.Tests.{T-and_left, T-and_right, T-or}
use Rattle.rules.proofs.Members.{All}
use Rattle.rules.proofs.Readings.{never, next_out, later_out, section_first}
use Rattle.rules.proofs.Refusals.{Only, only_next, only_later, only_agreed, only_meant}
use Rattle.rules.proofs.Arities.{agreed_out}
use Rattle.rules.proofs.Lines.{relation_out, kind_out, ways_length, boards_only_out}
use Rattle.rules.proofs.Headers.{InRange, Placed, numbers_out, places_out}

-- ---- what is read

module _ {X : Type 0} where
  -- a section that is read has as many lines as it should, each of them read
  section_out : (line : List ℕ → Reading (Front X)) (P : X → Type 0) → ((ws : List ℕ) (l : Front X) → line ws ≡ good l → P l.line)
      → (n : ℕ) (ws : List ℕ) (xs : List X) → section line n ws ≡ good xs → (length xs ≡ n) × All P xs
  unfolding section
  section_out line P h zero [] xs p =
      let e : [] ≡ xs = cc in (ap length (sym e), λ x m. absurd (Memᴰ.not-nil (subst (λ (l : List X). Memᴰ x l) (sym e) m)))
  section_out line P h zero (w ∷ ws) xs p = never 3 0 xs p
  section_out line P h (suc n) ws xs p =
      let (f, d, ls, a, e) = section_first line n ws xs p in
      let (many, all) = section_out line P h n f.rest ls a in (
        ap length e ∙ ap suc many,
        λ x i.
            ⊎_elim (λ (d' : x ≡ f.line). subst P (sym d') (h ws f d)) (all x) (Memᴰ.cases_cons (subst (λ (l : List X). Memᴰ x l) e i)),
      )

  pub section_counted : (line : List ℕ → Reading (Front X)) (n : ℕ) (ws : List ℕ) (xs : List X) → section line n ws ≡ good xs → length xs ≡ n
  section_counted line n ws xs e = (section_out line (λ x. Unit {0}) (λ us l d. tt) n ws xs e).0

-- the boards of a relation line, and of a kind line
abbrev Relation : ℕ → RelationLine → Type 0
Relation v l = (l.p < v) × (l.q < v)

relation_line_out : (v : ℕ) (ws : List ℕ) (f : Front RelationLine) → relation_line v ws ≡ good f → Relation v f.line
relation_line_out v ws f e =
    let r = relation_out v ws f e in subst (λ (g : Front RelationLine). Relation v g.line) r.front (r.passed.p_board, r.passed.q_board)

abbrev Kind : ℕ → KindLine → Type 0
Kind v k = (k.p < v) × (length k.ways ≤ most_ways) × ((i : ℕ) → i < length k.ways → get_or k.ways i 0 < v)

kind_line_out_lem : (v : ℕ) (ws : List ℕ) (f : Front KindLine) → kind_line v ws ≡ good f → Kind v f.line
kind_line_out_lem v ws f e =
    let r = kind_out v ws f e in
    subst (λ (g : Front KindLine). Kind v g.line) r.front (
      r.passed.p_board,
      omega (arith, ways_length v ws r.passed.fits, r.passed.fits.high),
      boards_only_out v (take (get_or ws 2 0) (drop 3 ws)) r.passed.way_boards,
    )

-- what a description passed that 01 takes, and what its sections come to
pub record SheetMeant (ws : List ℕ) (s : Sheet) : Type 0 where
  pub numbers : InRange ws
  pub places : Placed ws
  pub boards : get_or ws 0 0 ≡ s.boards
  pub lines : relation_lines ws ≡ good s.lines
  pub kinds : kind_lines ws ≡ good s.kinds

pub meant_out : (ws : List ℕ) (s : Sheet) → meant ws ≡ good s → SheetMeant ws s
unfolding meant
meant_out ws s e =
    let (numbers, second) = numbers_out ws (after_offsets ws (next (relation_lines ws) ruled)) s e in
    let (places, third) = places_out ws (next (relation_lines ws) ruled) s second in
    let (ls, d, g) = next_out (relation_lines ws) ruled s third in
    let (ks, k, h) = next_out (kind_lines ws) (λ ks. good (sheet ls ks)) s g in
    let same : sheet ls ks ≡ s = cc in
    record {
      numbers = numbers;
      places = places;
      boards = ap (λ (t : Sheet). t.boards) same;
      lines = d ∙ ap (λ (t : Sheet). good t.lines) same;
      kinds = k ∙ ap (λ (t : Sheet). good t.kinds) same;
    }
  where
    sheet : List RelationLine → List KindLine → Sheet
    sheet ls ks = record { boards = get_or ws 0 0; lines = ls; kinds = ks }

    ruled : List RelationLine → Reading Sheet
    ruled ls = next (kind_lines ws) (λ ks. good (sheet ls ks))

-- and what a good description passed
pub record SheetRead (ws : List ℕ) (s : Sheet) : Type 0 where
  pub taken : SheetMeant ws s
  pub arity : OneArity s.kinds

pub read_out : (ws : List ℕ) (s : Sheet) → read ws ≡ good s → SheetRead ws s
unfolding read
read_out ws s e =
    let (u, m, a) = next_out (meant ws) (agreed_sheet (get_or ws 4 0)) s e in
    let (ks, k, h) = next_out (later (get_or ws 4 0) (agreed u.kinds)) (λ ks. good u) s a in
    let same : u ≡ s = cc in
    subst (SheetRead ws) same (record { taken = meant_out ws u m; arity = (agreed_out u.kinds ks (later_out (get_or ws 4 0) (agreed u.kinds) ks k)).1 })

-- what is read is well-formed
pub read_well_formed : (ws : List ℕ) (s : Sheet) → read ws ≡ good s → WellFormed s
unfolding relation_lines kind_lines
read_well_formed ws s e =
    let whole = read_out ws s e in
    let r = whole.taken in
    let v = get_or ws 0 0 in
    let (m, a) = section_out (relation_line v) (Relation v) (relation_line_out v) (get_or ws 1 0) _ s.lines (later_out 6 (section _ _ _) s.lines r.lines) in
    let (n, b) = section_out (kind_line v) (Kind v) (kind_line_out_lem v) (get_or ws 2 0) _ s.kinds (later_out (get_or ws 4 0) (section _ _ _) s.kinds r.kinds) in
    record {
      boards = (omega (arith, r.numbers.some, r.boards), omega (arith, r.numbers.boards, r.boards));
      lines = (omega (arith, r.numbers.lines, m), subst (λ (n : ℕ). All (Relation n) s.lines) r.boards a);
      kinds = (omega (arith, r.numbers.kinds, n), subst (λ (n : ℕ). All (Kind n) s.kinds) r.boards b);
      arity = whole.arity;
    }

-- ---- the numbers of refusals

-- reading refuses with 1 to 5 and 11 only
pub read_numbered : (ws : List ℕ) (n k : ℕ) → read ws ≡ refused n k → T (refuses_description n)
unfolding read
read_numbered ws n k e =
    subst (Only P) e
    (only_next P (meant ws) _ (only_meant P tt tt tt tt tt ws) (λ s.
    only_next P (later (get_or ws 4 0) (agreed s.kinds)) _ (only_later P (get_or ws 4 0) (agreed s.kinds) (only_agreed P tt s.kinds)) (λ ks. tt)))
  where
    P : ℕ → Type 0
    P m = T (refuses_description m)

-- so it is at least 1, and at most 11
pub read_bounded : (ws : List ℕ) (n k : ℕ) → read ws ≡ refused n k → (1 ≤ n) × (n ≤ 11)
read_bounded ws n k e =
    ⊎_elim (λ t. (leb→le 1 n (T-and_left (leb 1 n) (leb n 5) t), bound (leb→le n 5 (T-and_right (leb 1 n) (leb n 5) t))))
    (λ t. eleven (eqb→eq n 11 t)) (T-or (leb 1 n && leb n 5) (eqb n 11) (read_numbered ws n k e))
  where
    bound : n ≤ 5 → n ≤ 11
    bound h = omega arith

    eleven : n ≡ 11 → (1 ≤ n) × (n ≤ 11)
    eleven h = (omega arith, omega arith)
