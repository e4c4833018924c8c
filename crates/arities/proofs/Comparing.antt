-- Kind lines compared with those before them, as the code walks along them. Assumes nothing.
use mathlib.Core.Path.{◌≡◌, refl, sym, ap, ap₂, ◌∙◌, subst}
use mathlib.Core.Bool.{Bool, true, false, not, ◌||◌}
use mathlib.Core.List.{List, [], ◌∷◌, ◌++◌, append_assoc}
use Prim.Native.Nat.{ℕ, ◌+◌, ◌-◌, ◌≤◌, ◌<◌}
use native.Mathlib.Nat.{le_refl}
use native.Mathlib.Omega.{arith}
use borrow.Author.Tests.{eq-eqb, ne_eqb}
use lib.Dec.{T, eqb}
use lib.ListN.{length, take, drop, take-append-drop, length-drop}
use lib.Seq.{length-take-le, take_all}
use Rattle.std.specs.Prelude.{Some, None}
use Rattle.rules.specs.Relations.{some_of}
use Rattle.rules.specs.Descriptions.{kind_line, disagrees, first_disagreeing, kind_words, OneArity}
use Rattle.rules.specs.Descriptions as descriptions
use Rattle.rules.proofs.Tests.{true_T}
use Rattle.rules.proofs.Members.{some_of_more}
use Rattle.rules.proofs.Descriptions.{section_counted}
use Rattle.rules.proofs.Arities.{arity_none, arity_more, first_disagreeing_lem, none_disagreeing}
use Rattle.kinds.specs.declared.KindLine.{KindLine}
use Rattle.kinds.specs.Lines.{kind_at, ways_at, line_at}
use Rattle.kinds.specs.Sections.{Kinds}
use Rattle.arities.specs.Arities.{differ, WithinWords, SomeFirst, WithFirst, SomeFill, WithAll, FirstTold}
use Rattle.arities.proofs.Places.{After, after_start, after_length, after_words, after_there, after_stands, after_next, after_line}

-- ---- two lines

-- a line whose ways stand in the words has so many
ways_many : (ws : List ℕ) (k : KindLine) → WithinWords ws k → length (ways_at ws k) ≡ k.end - k.first
ways_many ws k (h, l) = length-take-le (k.end - k.first) (drop k.first ws) (omega (arith, h, l, length-drop k.first ws))

-- lines of different codes do not differ, and those of one code do if their numbers of ways do
pub codes_apart : (k l : KindLine) → (k.code ≡ l.code → ⊥) → false ≡ differ k l
codes_apart k l f = rw (ne_eqb k.code l.code f)

pub codes_same : (k l : KindLine) → k.code ≡ l.code → not (eqb (k.end - k.first) (l.end - l.first)) ≡ differ k l
codes_same k l e = rw (eq-eqb k.code l.code e)

-- and that is what disagreeing is
differ_disagrees : (ws : List ℕ) (k l : KindLine) → WithinWords ws k → WithinWords ws l → differ k l ≡ disagrees (line_at ws k) (line_at ws l)
unfolding disagrees
differ_disagrees ws k l h i = rw (ways_many ws k h, ways_many ws l i)

-- ---- the first lines

-- the lines are those before the next one, which code has found by its place, this line, and others
module _ {v count : ℕ} {ws : List ℕ} {at i : ℕ} (a : After v count ws at i) {ks : List descriptions.KindLine} (fill : Kinds v count ws ks) (more : i < count)
    {l : KindLine} (met : l ≡ kind_at ws at) where
  next_split : ks ≡ take i ks ++ (line_at ws l ∷ drop (i + 1) ks)
  next_split =
      sym (take-append-drop (i + 1) ks) ∙ ap (λ (ls : List descriptions.KindLine). ls ++ drop (i + 1) ks) (after_line a fill more met)
      ∙ append_assoc (take i ks) (line_at ws l ∷ []) (drop (i + 1) ks)

-- ---- one line, compared with the first n

-- whether it disagrees with one of the first i was found, and the next of them begins at the word `at`
pub record Compared (n : ℕ) (ws : List ℕ) (k : KindLine) (found : Bool) (at i : ℕ) : Type 0 where
  pub few : i ≤ n
  pub each : (v count : ℕ) → n ≤ count → (ks : List descriptions.KindLine) → Kinds v count ws ks
      → After v count ws at i × (found ≡ some_of (disagrees (line_at ws k)) (take i ks))

pub compared_start : (n : ℕ) (ws : List ℕ) (k : KindLine) → Compared n ws k false 0 0
compared_start n ws k = record { few = omega arith; each = λ v count h ks fill. (after_start v count ws, refl) }

module _ {n : ℕ} {ws : List ℕ} {k : KindLine} {found : Bool} {at i : ℕ} (c : Compared n ws k found at i) where
  module _ (more : i < n) (some : SomeFirst n ws) where
    -- the next line has its first words, and its ways stand in the words
    pub compared_there : at + 3 ≤ length ws
    compared_there = let (v, count, h, (ks, fill)) = some in after_there (c.each v count h ks fill).0 fill (omega arith)

    module _ {l : KindLine} (met : l ≡ kind_at ws at) where
      pub compared_within : WithinWords ws l
      compared_within =
          let (v, count, h, (ks, fill)) = some in
          let s = after_stands (c.each v count h ks fill).0 fill (omega arith) met in
          (s.ordered, s.room)

      -- it is compared too
      pub compared_next : {b : Bool} → WithinWords ws k → b ≡ differ k l → Compared n ws k (found || b) l.end (i + 1)
      compared_next {b} stands tests =
          let tested : b ≡ disagrees (line_at ws k) (line_at ws l) = tests ∙ differ_disagrees ws k l stands compared_within in
          record {
            few = omega arith;
            each = λ v count h ks fill.
                let (a, e) = c.each v count h ks fill in
                let less : i < count = omega arith in (
                  after_next a fill less met,
                  ap₂ (λ (p q : Bool). p || q) e tested ∙ sym (some_of_more (disagrees (line_at ws k)) (take i ks) (line_at ws l))
                      ∙ ap (some_of (disagrees (line_at ws k))) (sym (after_line a fill less met)),
                );
          }

  pub compared_end : n ≤ i → WithFirst n ws (λ ks. found ≡ some_of (disagrees (line_at ws k)) ks)
  compared_end h v count l ks fill =
      let e : i ≡ n = omega (arith, c.few) in
      (c.each v count l ks fill).1 ∙ ap (λ (j : ℕ). some_of (disagrees (line_at ws k)) (take j ks)) e

-- ---- each of the lines, compared with those before it

-- the first i are of one arity, and the next begins at the word `at`
pub record Agreeing (v count : ℕ) (ws : List ℕ) (ks : List descriptions.KindLine) (at i : ℕ) : Type 0 where
  pub few : i ≤ count
  pub after : After v count ws at i
  pub one : OneArity (take i ks)

abbrev pub Sought : ℕ → List ℕ → ℕ → ℕ → Type 0
Sought count ws at i = (v : ℕ) (ks : List descriptions.KindLine) → Kinds v count ws ks → Agreeing v count ws ks at i

pub sought_start : (count : ℕ) (ws : List ℕ) → Sought count ws 0 0
sought_start count ws v ks fill = record { few = omega arith; after = after_start v count ws; one = arity_none }

module _ {count : ℕ} {ws : List ℕ} {at i : ℕ} (c : Sought count ws at i) where
  module _ (more : i < count) where
    module _ (some : SomeFill count ws) where
      -- the next line has its first words, its ways stand in the words, and there are the lines before it
      pub sought_there : at + 3 ≤ length ws
      sought_there = let (v, (ks, fill)) = some in after_there (c v ks fill).after fill more

      pub sought_within : {l : KindLine} → l ≡ kind_at ws at → WithinWords ws l
      sought_within met =
          let (v, (ks, fill)) = some in
          let s = after_stands (c v ks fill).after fill more met in
          (s.ordered, s.room)

      pub sought_before : SomeFirst i ws
      sought_before =
          let (v, (ks, fill)) = some in
          (v, count, (c v ks fill).few, (ks, fill))

    module _ {l : KindLine} (met : l ≡ kind_at ws at) {b : Bool} (tests : WithFirst i ws (λ ks. b ≡ some_of (disagrees (line_at ws l)) ks)) where
      -- that line disagrees with one of those before it
      pub sought_found : b ≡ true → WithAll count ws (λ ks. FirstTold ks (Some at))
      sought_found e v ks fill =
          let a = c v ks fill in
          let t = true_T (sym (tests v count a.few ks fill) ∙ e) in
          let found = (first_disagreeing_lem (take i ks) (line_at ws l) (drop (i + 1) ks)).1 (a.one, t) in
          let first : first_disagreeing [] ks ≡ i = ap (first_disagreeing []) (next_split a.after fill more met) ∙ found ∙ after_length a.after fill in
          let many : length ks ≡ count = section_counted (kind_line v) count ws ks fill in
          (omega (arith, first, many), after_words a.after fill ∙ ap (λ (n : ℕ). kind_words (take n ks)) (sym first))

      -- or agrees with them
      pub sought_next : b ≡ false → Sought count ws l.end (i + 1)
      sought_next e v ks fill =
          let a = c v ks fill in
          let agrees : T (some_of (disagrees (line_at ws l)) (take i ks)) → ⊥ = λ t. subst T (sym (tests v count a.few ks fill) ∙ e) t in
          record {
            few = omega arith;
            after = after_next a.after fill more met;
            one = subst OneArity (sym (after_line a.after fill more met)) (arity_more (take i ks) (line_at ws l) a.one agrees);
          }

  pub sought_end : count ≤ i → WithAll count ws (λ ks. FirstTold ks None)
  sought_end h v ks fill =
      let a = c v ks fill in
      let many : length ks ≡ count = section_counted (kind_line v) count ws ks fill in
      let e : i ≡ length ks = omega (arith, a.few, many) in
      (none_disagreeing ks).1 (subst OneArity (ap (λ (j : ℕ). take j ks) e ∙ take_all (length ks) ks (le_refl (length ks))) a.one)
