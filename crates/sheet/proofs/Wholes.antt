-- A whole description, by its header and its two sections. Assumes nothing.
use mathlib.Core.Path.{◌≡◌, refl, sym, ap, ◌∙◌, subst}
use mathlib.Core.List.{List}
use Prim.Native.Nat.{ℕ, ◌+◌, ◌-◌, ◌≤◌}
use native.Mathlib.Omega.{arith}
use lib.ListN.{length, get_or, take, drop, length-drop}
use lib.Seq.{length-take-le}
use Rattle.rules.specs.Descriptions.{RelationLine, KindLine, Sheet, Reading, good, refused, next, later, relation_line, kind_line, section, after_offsets, after_header, relation_lines, kind_lines, both_read, meant, agreed, agreed_sheet, read}
use Rattle.rules.specs.Calls.{Outcome, refuse, succeed, given, reading}
use Rattle.rules.proofs.Tests.{clash}
use Rattle.rules.proofs.Parts.{tail}
use Rattle.rules.proofs.Headers.{Placed, numbers_in, numbers_out, places_in, places_out, header_refused}
use Rattle.rules.proofs.PlacedSections.{placing_relations}
use Rattle.rules.proofs.PlacedKinds.{placing_agreed}
use Rattle.answers.specs.declared.refusals.Refusal.{Refusal}
use Rattle.answers.specs.Answers.{number_of, refusal, later_by}
use Rattle.headers.specs.declared.Header.{Header}
use Rattle.std.specs.Prelude.{Result, Ok, Err}
use Rattle.headers.specs.Found.{numbers, numbers_found, header_found}
use Rattle.sheet.specs.Found.{section_found, description_found}
use Rattle.sheet.proofs.Described.{described, undescribed}

-- ---- the sections

module _ (ws : List ℕ) where
  -- each with places of its own; the kind lines of one code with as many ways
  abbrev pub own_lines : Reading (List RelationLine)
  own_lines = section (relation_line (get_or ws 0 0)) (get_or ws 1 0) (take (get_or ws 4 0 - 6) (drop 6 ws))

  abbrev own_kinds : Reading (List KindLine)
  own_kinds = section (kind_line (get_or ws 0 0)) (get_or ws 2 0) (drop (get_or ws 4 0) ws)

  abbrev pub agreed_kinds : Reading (List KindLine)
  agreed_kinds = next own_kinds agreed

  -- what they come to, once the header is good
  abbrev both : Reading (List RelationLine) → Reading (List KindLine) → Reading Sheet
  both r k = both_read (get_or ws 0 0) (later 6 r) (later (get_or ws 4 0) k)

  abbrev lines_read_lem : Reading (List RelationLine) → Reading (List KindLine) → Reading Sheet
  lines_read_lem r k = next (both r k) (agreed_sheet (get_or ws 4 0))

  -- a header that is refused
  pub description_unheaded : (q : Refusal) → Err q ≡ header_found ws → Err q ≡ description_found ws
  unfolding read meant relation_lines kind_lines
  description_unheaded q p = go (after_header ws (good ws)) refl p
    where
      go : (r : Reading (List ℕ)) → after_header ws (good ws) ≡ r → Err q ≡ numbers_found ws r → Err q ≡ description_found ws
      go (good us) e f = clash (cc)
      go (refused n k) e f =
          f ∙ sym (ap (λ (r : Reading Sheet). numbers_found ws (next r (agreed_sheet (get_or ws 4 0)))) (header_refused ws ws (both own_lines own_kinds) n k e))

  -- what a good header is
  pub record Headed (h : Header) : Type 0 where
    pub is : h ≡ numbers ws
    pub placed : Placed ws
    pub rest : read ws ≡ lines_read_lem own_lines own_kinds

  pub headed : (h : Header) → Ok h ≡ header_found ws → Headed h
  unfolding read meant relation_lines kind_lines
  headed h p = go (after_header ws (good ws)) refl p
    where
      go : (r : Reading (List ℕ)) → after_header ws (good ws) ≡ r → Ok h ≡ numbers_found ws r → Headed h
      go (refused n k) e f = clash (cc)
      go (good us) e f =
          let (numbered, second) = numbers_out ws (after_offsets ws (good ws)) us e in
          let (placed, third) = places_out ws (good ws) us second in
          record {
            is = cc;
            placed = placed;
            rest =
                ap (λ (r : Reading Sheet). next r (agreed_sheet (get_or ws 4 0)))
                (numbers_in ws (after_offsets ws (both own_lines own_kinds)) numbered ∙ places_in ws (both own_lines own_kinds) placed);
          }

  module _ {h : Header} (good-header : Headed h) where
    -- the kind lines begin after the header and within the words
    pub kinds_after : 6 ≤ h.kinds.at
    kinds_after = subst (λ (g : Header). 6 ≤ g.kinds.at) (sym good-header.is) good-header.placed.after

    pub kinds_inside : h.kinds.at ≤ length ws
    kinds_inside =
        subst (λ (g : Header). g.kinds.at ≤ length ws) (sym good-header.is)
        (subst (λ (k : ℕ). get_or ws 4 0 ≤ k) good-header.placed.total good-header.placed.before)

    -- the parts that code lends are the two sections
    pub relation_part_lem : (s : Result (Unit {0}) Refusal) → s ≡ section_found (section (relation_line h.boards) h.lines.count (take (h.kinds.at - 6) (drop 6 ws)))
        → s ≡ section_found own_lines
    relation_part_lem s e =
        subst (λ (g : Header). s ≡ section_found (section (relation_line g.boards) g.lines.count (take (g.kinds.at - 6) (drop 6 ws)))) good-header.is e

    pub kind_part_lem : (s : Result (Unit {0}) Refusal)
        → s ≡ section_found (next (section (kind_line h.boards) h.kinds.count (take (length ws - h.kinds.at) (drop h.kinds.at ws))) agreed)
        → s ≡ section_found agreed_kinds
    kind_part_lem s e =
        subst (λ (us : List ℕ). s ≡ section_found (next (section (kind_line (get_or ws 0 0)) (get_or ws 2 0) us) agreed)) (tail (get_or ws 4 0) ws)
        (subst (λ (g : Header). s ≡ section_found (next (section (kind_line g.boards) g.kinds.count (take (length ws - g.kinds.at) (drop g.kinds.at ws))) agreed)) good-header.is e)

    -- a refusal in a section has its place within it
    refused_out : {X : Type 0} (r : Reading X) (q : Refusal) → Err q ≡ section_found r → (n k : ℕ) × (r ≡ refused n k) × (q ≡ refusal n k)
    refused_out (good x) q e = clash (cc)
    refused_out (refused n k) q e = (n, k, refl, cc)

    pub lines_place : (q : Refusal) → Err q ≡ section_found own_lines → 6 + q.place ≤ length ws
    lines_place q p =
        let part = take (get_or ws 4 0 - 6) (drop 6 ws) in
        let few : get_or ws 4 0 - 6 ≤ length (drop 6 ws) = omega (arith, good-header.placed.before, good-header.placed.total, length-drop 6 ws) in
        let (n, k, refuses, same) = refused_out own_lines q p in
        let h : k ≤ length part = (placing_relations (get_or ws 0 0) (get_or ws 1 0)).within part n k refuses in
        omega (arith, h, ap (λ (r : Refusal). r.place) same, few, length-take-le (get_or ws 4 0 - 6) (drop 6 ws) few, good-header.placed.after, good-header.placed.before, good-header.placed.total)

    pub kinds_place : (q : Refusal) → Err q ≡ section_found agreed_kinds → h.kinds.at + q.place ≤ length ws
    kinds_place q p =
        let part = drop (get_or ws 4 0) ws in
        let (n, k, refuses, same) = refused_out agreed_kinds q p in
        let place : k ≤ length part = (placing_agreed (get_or ws 0 0) (get_or ws 2 0)).within part n k refuses in
        let at : h.kinds.at ≡ get_or ws 4 0 = ap (λ (g : Header). g.kinds.at) good-header.is in
        omega (arith, place, ap (λ (r : Refusal). r.place) same, at, kinds_inside, length-drop (get_or ws 4 0) ws)

    -- the first section that is refused, or neither
    pub description_no_lines : (q r : Refusal) → Err q ≡ section_found own_lines → r ≡ later_by 6 q → Err r ≡ description_found ws
    description_no_lines q r p moved =
        let (n, k, refuses, same) = refused_out own_lines q p in
        ap Err (moved ∙ ap (later_by 6) same)
        ∙ sym (ap (numbers_found ws) (good-header.rest ∙ ap (λ (x : Reading (List RelationLine)). lines_read_lem x own_kinds) refuses))

    module _ (filled : Ok tt ≡ section_found own_lines) where
      after_lines : (ls : List RelationLine) × (own_lines ≡ good ls)
      after_lines = go own_lines filled
        where
          go : (r : Reading (List RelationLine)) → Ok tt ≡ section_found r → (ls : List RelationLine) × (r ≡ good ls)
          go (good ls) e = (ls, refl)
          go (refused n k) e = clash (cc)

      -- what is found of the kind lines decides
      by_kinds : (P : Result (Unit {0}) Refusal → Result Header Refusal → Type 0) → ((n k : ℕ) → P (Err (refusal n k)) (Err (refusal n (get_or ws 4 0 + k))))
          → P (Ok tt) (Ok (numbers ws)) → P (section_found agreed_kinds) (description_found ws)
      by_kinds P f g = rw (good-header.rest, after_lines.1) (go own_kinds)
        where
          test : (s : Sheet) (r : Reading (List KindLine)) → P (section_found r) (numbers_found ws (next (later (get_or ws 4 0) r) (λ ks. good s)))
          test s (good ks) = g
          test s (refused n k) = f n k

          go : (r : Reading (List KindLine)) → P (section_found (next r agreed)) (numbers_found ws (lines_read_lem (good after_lines.0) r))
          go (good ks) = test (record { boards = get_or ws 0 0; lines = after_lines.0; kinds = ks }) (agreed ks)
          go (refused n k) = f n k

      pub description_no_kinds : (q r : Refusal) → Err q ≡ section_found agreed_kinds → r ≡ later_by h.kinds.at q → Err r ≡ description_found ws
      description_no_kinds q r p moved =
          let at : h.kinds.at ≡ get_or ws 4 0 = ap (λ (g : Header). g.kinds.at) good-header.is in
          ap Err (moved ∙ ap (λ (m : ℕ). later_by m q) at)
          ∙ by_kinds (λ s d. Err q ≡ s → Err (later_by (get_or ws 4 0) q) ≡ d)
          (λ n k e. let same : q ≡ refusal n k = cc in ap (λ (r : Refusal). Err (later_by (get_or ws 4 0) r)) same) (λ e. clash (cc)) p

      pub description_read : Ok tt ≡ section_found agreed_kinds → Ok h ≡ description_found ws
      description_read p = by_kinds (λ s d. Ok tt ≡ s → Ok h ≡ d) (λ n k e. clash (cc)) (λ e. ap Ok good-header.is) p

  -- what was found, as an outcome
  outcome_of : Reading Sheet → Outcome (Unit {0})
  outcome_of r = given r tt (λ s. succeed 0 tt)

  pub reading_good : (h : Header) → Ok h ≡ description_found ws → succeed 0 tt ≡ reading ws
  unfolding reading outcome_of
  reading_good h p = sym (ap outcome_of (described ws h p).1.means)

  pub reading_refused : (q : Refusal) → Err q ≡ description_found ws → refuse (number_of q.fault) q.place tt ≡ reading ws
  unfolding reading outcome_of
  reading_refused q p = sym (ap outcome_of (undescribed ws q p))
