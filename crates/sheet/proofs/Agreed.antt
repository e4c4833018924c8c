-- A section of kind lines, by whether its lines fill it and then by the first that disagrees with an earlier one. Assumes nothing.
use mathlib.Core.Path.{◌≡◌, refl, sym, ap, ◌∙◌}
use mathlib.Core.List.{List, []}
use Prim.Native.Nat.{ℕ, ◌+◌, ◌≤◌}
use native.Mathlib.Omega.{arith}
use lib.ListN.{length}
use Rattle.std.specs.Prelude.{Some, None}
use Rattle.rules.specs.Descriptions.{KindLine, Reading, good, refused, next, kind_line, section, first_disagreeing, agreed}
use Rattle.rules.proofs.Tests.{clash}
use Rattle.rules.proofs.KindWords.{section_words, words_before}
use Rattle.rules.proofs.Arities.{none_disagreeing, agreed_in, agreed_refused}
use Rattle.kinds.specs.Sections.{HasKinds}
use Rattle.arities.specs.Arities.{SomeFill, WithAll, FirstTold}
use Rattle.answers.specs.declared.refusals.Refusal.{Refusal}
use Rattle.answers.specs.Answers.{refusal}
use Rattle.std.specs.Prelude.{Ok, Err}
use Rattle.sheet.specs.Found.{section_found}

-- lines that fill the section, with one that disagrees
pub kinds_apart : (ks : List KindLine) (n : ℕ) → FirstTold ks (Some n) → agreed ks ≡ refused 11 (n + 2)
kinds_apart ks n first =
    rw first.1
    (agreed_refused ks
    (λ one.
    let a : first_disagreeing [] ks ≡ length ks = (none_disagreeing ks).1 one in
    omega (arith, first.0)))

module _ (v count : ℕ) (ws : List ℕ) where
  -- what the section is found to be
  abbrev found : Reading (List KindLine) → Reading (List KindLine)
  found r = next r agreed

  -- a line is refused, or they fill the section
  pub kinds_refused : (q : Refusal) → Err q ≡ section_found (section (kind_line v) count ws) → Err q ≡ section_found (found (section (kind_line v) count ws))
  kinds_refused q = go (section (kind_line v) count ws)
    where
      go : (r : Reading (List KindLine)) → Err q ≡ section_found r → Err q ≡ section_found (found r)
      go (good ks) p = clash (cc)
      go (refused n k) p = p

  module _ (filled : Ok tt ≡ section_found (section (kind_line v) count ws)) where
    has_kinds : HasKinds v count ws
    has_kinds = go (section (kind_line v) count ws) refl filled
      where
        go : (r : Reading (List KindLine)) → section (kind_line v) count ws ≡ r → Ok tt ≡ section_found r → HasKinds v count ws
        go (good ks) e p = (ks, e)
        go (refused n k) e p = clash (cc)

    pub kinds_first : SomeFill count ws
    kinds_first = (v, has_kinds)

    abbrev lines : List KindLine
    lines = has_kinds.0

    -- the first that disagrees begins at the word n
    module _ {n : ℕ} (first : WithAll count ws (λ ks. FirstTold ks (Some n))) where
      pub kinds_room_lem : n + 3 ≤ length ws
      kinds_room_lem =
          let (l, begins) = first v lines has_kinds.1 in
          omega (arith, words_before lines (first_disagreeing [] lines) l, begins, section_words v count ws lines has_kinds.1)

      pub kinds_disagree : Err (refusal 11 (n + 2)) ≡ section_found (found (section (kind_line v) count ws))
      kinds_disagree =
          sym
          (ap (λ (r : Reading (List KindLine)). section_found (found r)) has_kinds.1
          ∙ ap section_found (kinds_apart lines n (first v lines has_kinds.1)))

    -- none does
    pub kinds_agree : WithAll count ws (λ ks. FirstTold ks None) → Ok tt ≡ section_found (found (section (kind_line v) count ws))
    kinds_agree first =
        sym
        (ap (λ (r : Reading (List KindLine)). section_found (found r)) has_kinds.1
        ∙ ap section_found (agreed_in lines ((none_disagreeing lines).0 (first v lines has_kinds.1))))
