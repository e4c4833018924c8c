-- How a closing and an opening end under a good description, by their promises, and that calls in stages are a run of closings. Assumes nothing.
use mathlib.Core.Path.{◌≡◌, refl, sym, ap, ◌∙◌, subst}
use mathlib.Core.Bool.{Bool, true, false, ◌||◌}
use mathlib.Core.Logic.{◌⊎◌, inl, inr, ⊎_elim, ◌↔◌}
use mathlib.Core.List.Memᴰ
use mathlib.Core.List.{List, [], ◌∷◌, Memᴰ}
use Prim.Native.Nat.{ℕ, ◌*◌}
use native.Mathlib.Omega.{arith}
use lib.Dec.{T, eqb, not_T}
use Rattle.rules.specs.Descriptions.{Sheet, good, read, WellFormed}
use Rattle.rules.specs.Tables.{Table, Inside, emptied, filled}
use Rattle.rules.specs.Arrangements.{Arrangement}
use Rattle.rules.specs.Closed.{Largest, strikes}
use Rattle.rules.specs.Closing.{closing}
use Rattle.rules.specs.Stages.{Among, left, Run, Stages}
use Rattle.rules.specs.Calls.{Outcome, close_into}
use Rattle.rules.proofs.Tests.{true_T}
use Rattle.rules.proofs.Inside.{emptied_inside}
use Rattle.rules.proofs.Full.{full_table}
use Rattle.rules.proofs.Arrangements.{arrangement_whole, arrangement_kept}
use Rattle.rules.proofs.Largest.{closing_largest, largest_unique}
use Rattle.rules.proofs.Calls.{strikes_counted, strikes_most}
use Rattle.rules.proofs.Stages.{first_among, stage_clash, stages_clash, stages_table}
use Rattle.answers.specs.Answers.{Answer, outcome}
use Rattle.rules.proofs.Called.{by_cells, opening_good, close_good}
use Rattle.demands.specs.Entries.{Opening, Closing}
use Rattle.demands.specs.Runs.{Stage, sheets, contradictory, Called, Opened}
use Rattle.demands.specs.Sentences.{Cells, ClosingSentence, ClosesEach}

-- what an answer says and what is left of the lent table, by whether the largest closed table inside t has an empty cell
pub record Ends (s : Sheet) (t lent : List ℕ) (a : Answer) (w : List ℕ) (b : Bool) : Type 0 where
  pub empty : emptied (closing s t) ≡ b
  pub leaves : w ≡ left b lent (closing s t)
  pub says : contradictory a ≡ b
  pub number : a.number ≡ elim b [ true ↦ 7 | false ↦ 0 ]
  pub count : a.count ≡ elim b [ true ↦ 0 | false ↦ strikes t (closing s t) ]

-- the table t was closed into the lent one
module _ (s : Sheet) (t lent : List ℕ) (a : Answer) (w : List ℕ) (is : outcome a w ≡ close_into lent s t) where
  pub into_ends : (b : Bool) × Ends s t lent a w b
  into_ends = go (emptied (closing s t)) refl is
    where
      at_end_lem : (b : Bool) → emptied (closing s t) ≡ b → outcome a w ≡ by_cells lent s t b → (p : left b lent (closing s t) ≡ (by_cells lent s t b).lent)
          → (eqb (by_cells lent s t b).number 7 ≡ b) → ((by_cells lent s t b).number ≡ elim b [ true ↦ 7 | false ↦ 0 ])
          → ((by_cells lent s t b).count ≡ elim b [ true ↦ 0 | false ↦ strikes t (closing s t) ]) → Ends s t lent a w b
      at_end_lem b e o p q n c =
          record {
            empty = e;
            leaves = ap (λ (o : Outcome (List ℕ)). o.lent) o ∙ sym p;
            says = ap (λ (o : Outcome (List ℕ)). eqb o.number 7) o ∙ q;
            number = ap (λ (o : Outcome (List ℕ)). o.number) o ∙ n;
            count = ap (λ (o : Outcome (List ℕ)). o.count) o ∙ c;
          }

      go : (b : Bool) → emptied (closing s t) ≡ b → outcome a w ≡ by_cells lent s t b → (b : Bool) × Ends s t lent a w b
      go true e o = (true, at_end_lem true e o refl refl refl refl)
      go false e o = (false, at_end_lem false e o refl refl refl refl)

-- what follows from how it ended
module _ {s : Sheet} {t lent : List ℕ} {a : Answer} {w : List ℕ} (ended : (b : Bool) × Ends s t lent a w b) where
  pub ends_done : a.number ≡ 0 → (emptied (closing s t) ≡ false) × (w ≡ closing s t) × (a.count ≡ strikes t (closing s t))
  ends_done closed = go ended.0 ended.1
    where
      go : (b : Bool) → Ends s t lent a w b → (emptied (closing s t) ≡ false) × (w ≡ closing s t) × (a.count ≡ strikes t (closing s t))
      go true e = let z : ◌≡◌ {A = ℕ} 7 0 = sym e.number ∙ closed in let y : ⊥ = omega arith in absurd y
      go false e = (e.empty, e.leaves, e.count)

  pub ends_answers : (a.number ≡ 0) ⊎ (a.number ≡ 7)
  ends_answers = go ended.0 ended.1.number
    where
      go : (b : Bool) → a.number ≡ elim b [ true ↦ 7 | false ↦ 0 ] → (a.number ≡ 0) ⊎ (a.number ≡ 7)
      go true e = inr e
      go false e = inl e

  pub ends_keeps : {x : List ℕ} → Inside x (closing s t) → Arrangement s x → (a.number ≡ 0) × Inside x w
  ends_keeps {x} kept r = go ended.0 ended.1
    where
      go : (b : Bool) → Ends s t lent a w b → (a.number ≡ 0) × Inside x w
      go true e = absurd (arrangement_whole r (emptied_inside r.table kept (true_T e.empty)))
      go false e = (e.number, subst (Inside x) (sym e.leaves) kept)

  pub ends_contradictory : (a.number ≡ 7) ↔ T (emptied (closing s t))
  ends_contradictory = go ended.0 ended.1
    where
      go : (b : Bool) → Ends s t lent a w b → (a.number ≡ 7) ↔ T (emptied (closing s t))
      go true e = (λ n. true_T e.empty, λ t. e.number)
      go false e = (
        λ n. let z : ◌≡◌ {A = ℕ} 0 7 = sym e.number ∙ n in let y : ⊥ = omega arith in absurd y,
        λ t. absurd (subst T e.empty t),
      )

-- the ends of a closing, and of an opening
pub closing_ends : (ws : List ℕ) (s : Sheet) → read ws ≡ good s → (t : List ℕ) → Table s.boards t → (a : Answer) (w : List ℕ) → Closing ws t a w
    → (b : Bool) × Ends s t t a w b
closing_ends ws s means t table a w call = into_ends s t t a w (call ∙ close_good t ws s means table)

pub opening_ends : (ws : List ℕ) (s : Sheet) → read ws ≡ good s → (t : List ℕ) → Cells s.boards t → (a : Answer) (w : List ℕ) → Opening ws t a w
    → (b : Bool) × Ends s (filled s.boards) t a w b
opening_ends ws s means t cells a w call = into_ends s (filled s.boards) t a w (call ∙ opening_good t ws s means cells)

-- ---- demand 3, of each closing of a table under a good description that ends so

-- a well-formed table t was closed under a good description, into some table
pub record Came (s : Sheet) (t : List ℕ) (a : Answer) (w : List ℕ) : Type 0 where
  pub formed : WellFormed s
  pub table : Table s.boards t
  pub lent : List ℕ
  pub ended : (b : Bool) × Ends s t lent a w b

pub closes_each : {Each : ClosingSentence → Type 0}
    → ((P : ClosingSentence) → ((s : Sheet) (t : List ℕ) (a : Answer) (w : List ℕ) → Came s t a w → P s t a w) → Each P) → ClosesEach Each
closes_each each =
    record {
      closing_answers = each _ (λ s t a w c. ends_answers c.ended);
      closing_largest_table = each _ (λ s t a w c z. subst (Largest s t) (sym (ends_done c.ended z).1) (closing_largest s t c.table));
      closing_loses_none = each _ (λ s t a w c x r i. ends_keeps c.ended (arrangement_kept c.formed (closing_largest s t c.table) r i) r);
      closing_counted = each _ (λ s t a w c z.
          let d = ends_done c.ended z in rw (d.2, d.1) (strikes_counted (closing_largest s t c.table).inside));
      closing_count_most = each _ (λ s t a w c z.
          let d = ends_done c.ended z in
          rw d.2
          (strikes_most c.formed.boards.1 c.table (closing_largest s t c.table).table (not_T (emptied (closing s t)) (λ e. subst T d.0 e))));
      closing_contradictory = each _ (λ s t a w c.
          let l = closing_largest s t c.table in (closing s t, l, λ x m. largest_unique m l, ends_contradictory c.ended));
    }

-- ---- stages

module _ {v : ℕ} where
  -- a stage that ended so, and calls after it that are a run of closings, are one
  begun : (g : Stage) (gs : List Stage) → g.sheet.boards ≡ v → (t w u : List ℕ) (c d b : Bool) (a : Answer) → Table v t → Ends g.sheet t t a u b
      → Called Closing gs u w d → c ≡ (contradictory a || d) → ((x : List ℕ) → Table v x → Called Closing gs x w d → Run (sheets gs) x w d)
      → Run (sheets (g ∷ gs)) t w c
  unfolding Run
  begun g gs boards t w u c d b a h e called says follows =
      let x = left (emptied closed) t closed in (
        closed,
        d,
        largest,
        follows x (stays (emptied closed)) (subst (λ (x : List ℕ). Called Closing gs x w d) (e.leaves ∙ ap (λ (b : Bool). left b t closed) (sym e.empty)) called),
        says ∙ ap (λ (b : Bool). b || d) (e.says ∙ sym e.empty),
      )
    where
      closed : List ℕ
      closed = closing g.sheet t

      largest : Largest g.sheet t (closing g.sheet t)
      largest = closing_largest g.sheet t (subst (λ (n : ℕ). Table n t) (sym boards) h)

      stays : (b : Bool) → Table v (left b t (closing g.sheet t))
      stays true = h
      stays false = subst (λ (n : ℕ). Table n (closing g.sheet t)) boards largest.table

  -- calls whose descriptions have v boards are a run of closings
  pub run : (gs : List Stage) → ((g : Stage) → Memᴰ g gs → g.sheet.boards ≡ v) → (t w : List ℕ) (c : Bool) → Table v t → Called Closing gs t w c
      → Run (sheets gs) t w c
  unfolding Called Run
  run [] f t w c h r = r
  run (g ∷ gs) f t w c h r =
      let boards = f g (Memᴰ.head refl) in
      let e = closing_ends g.words g.sheet g.means t (subst (λ (n : ℕ). Table n t) (sym boards) h) r.0 r.1 r.3 in
      begun g gs boards t w r.1 c r.2 e.0 r.0 h e.1 r.4 r.5 (λ x k q. run gs (λ x m. f x (Memᴰ.tail m)) x w r.2 k q)

-- each stage has the boards of the whole
pub same_boards : (s : Sheet) (gs : List Stage) → Stages s (sheets gs) → (g : Stage) → Memᴰ g gs → g.sheet.boards ≡ s.boards
unfolding Stages
same_boards s [] r g m = absurd r
same_boards s (h ∷ []) r g m = subst (λ (k : Stage). k.sheet.boards ≡ s.boards) (sym (Memᴰ.eq_of_singleton m)) r.0.boards
same_boards s (h ∷ i ∷ gs) r g m =
    ⊎_elim (λ (e : g ≡ h). subst (λ (k : Stage). k.sheet.boards ≡ s.boards) (sym e) r.0.boards) (same_boards s (i ∷ gs) r.1 g) (Memᴰ.cases_cons m)

-- ---- stages of which the first opens

-- what is left and said beside the single opening: the same table, unless that is contradictory, and a contradiction exactly where it is one
pub record SameEnd (a : Answer) (u w : List ℕ) (c : Bool) : Type 0 where
  pub table : a.number ≡ 0 → w ≡ u
  pub clash : c ≡ contradictory a

module _ (one g : Stage) (gs : List Stage) (stages : Stages one.sheet (sheets (g ∷ gs))) (l t : List ℕ) (l-cells : Cells one.sheet.boards l)
    (t-cells : Cells one.sheet.boards t) (a : Answer) (u : List ℕ) (single : Opening one.words l a u) (w : List ℕ) (c : Bool)
    (calls : Opened Opening Closing g gs t w c)
  where
    -- the largest closed table under all the lines
    whole_largest : Largest one.sheet (filled one.sheet.boards) (closing one.sheet (filled one.sheet.boards))
    whole_largest = closing_largest one.sheet (filled one.sheet.boards) (full_table one.sheet.boards)

    -- how the single opening ends, and the first stage
    whole : (b : Bool) × Ends one.sheet (filled one.sheet.boards) l a u b
    whole = opening_ends one.words one.sheet one.means l l-cells a u single

    among : Among g.sheet one.sheet
    among = first_among (sheets gs) stages

    first : (b : Bool) × Ends g.sheet (filled one.sheet.boards) t calls.0 calls.1 b
    first =
        subst (λ (n : ℕ). (b : Bool) × Ends g.sheet (filled n) t calls.0 calls.1 b) among.boards
        (opening_ends g.words g.sheet g.means t (t-cells ∙ ap (λ (n : ℕ). n * n) (sym among.boards)) calls.0 calls.1 calls.3)

    same : (b : Bool) → Ends g.sheet (filled one.sheet.boards) t calls.0 calls.1 b → SameEnd a u w c
    same true e =
        let h = subst (λ (n : ℕ). Table n (filled one.sheet.boards)) (sym among.boards) (full_table one.sheet.boards) in
        let clash = stage_clash among whole_largest (closing_largest g.sheet (filled one.sheet.boards) h) e.empty in
        record {
          table = λ z. absurd (subst T (sym clash ∙ (ends_done whole z).0) tt);
          clash = calls.5 ∙ ap (λ (b : Bool). b || calls.2) e.says ∙ sym clash ∙ whole.1.empty ∙ sym whole.1.says;
        }
    same false e =
        let stage : Ends g.sheet (filled one.sheet.boards) (filled one.sheet.boards) calls.0 calls.1 false =
        record { empty = e.empty; leaves = e.leaves; says = e.says; number = e.number; count = e.count } in
        let r =
        begun g gs among.boards (filled one.sheet.boards) w calls.1 c calls.2 false calls.0 (full_table one.sheet.boards) stage calls.4
        calls.5 (λ x k q. run gs (λ s m. same_boards one.sheet (g ∷ gs) stages s (Memᴰ.tail m)) x w calls.2 k q) in
        record {
          table = λ z.
              let d = ends_done whole z in stages_table (sheets (g ∷ gs)) stages (filled one.sheet.boards) w c whole_largest r d.0 ∙ sym d.1;
          clash = sym (stages_clash (sheets (g ∷ gs)) stages (filled one.sheet.boards) w c whole_largest r) ∙ whole.1.empty ∙ sym whole.1.says;
        }

    pub opened_same : SameEnd a u w c
    opened_same = same first.0 first.1
