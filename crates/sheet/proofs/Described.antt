-- What is known of a description that was read to its end: what it means, and where its sections stand. Assumes nothing.
use mathlib.Core.Path.{◌≡◌, refl, sym, ap, ◌∙◌, subst}
use mathlib.Core.List.{List}
use Prim.Native.Nat.{ℕ, ◌-◌, ◌^◌, ◌≤◌, ◌<◌}
use native.Mathlib.Omega.{arith}
use lib.ListN.{length, get_or, take, drop}
use Rattle.rules.specs.Descriptions.{most_boards, most_kinds, KindLine, Sheet, Reading, good, refused, relation_line, kind_line, section, relation_lines, kind_lines, read, OneArity}
use Rattle.rules.proofs.Tests.{clash}
use Rattle.rules.proofs.Parts.{tail}
use Rattle.rules.proofs.Readings.{later_out}
use Rattle.rules.proofs.Descriptions.{read_out, read_well_formed}
use Rattle.rules.proofs.Places.{place_small}
use Rattle.answers.specs.declared.refusals.Refusal.{Refusal}
use Rattle.headers.specs.declared.Header.{Header}
use Rattle.std.specs.Prelude.{Ok, Err}
use Rattle.answers.specs.Answers.{number_of, refusal}
use Rattle.answers.proofs.Faults.{read_faulty}
use Rattle.headers.specs.Found.{numbers, numbers_found}
use Rattle.kinds.specs.Sections.{HasAgreed}
use Rattle.sheet.specs.Found.{description_found}

-- the words mean s, and its header is h
pub record Described (ws : List ℕ) (h : Header) (s : Sheet) : Type 0 where
  pub means : read ws ≡ good s
  pub boards : h.boards ≡ s.boards
  pub few : h.boards ≤ most_boards
  pub few_kinds : h.kinds.count ≤ most_kinds
  pub after : 6 ≤ h.kinds.at
  pub within : h.kinds.at ≤ length ws
  pub lines : section (relation_line h.boards) h.lines.count (take (h.kinds.at - 6) (drop 6 ws)) ≡ good s.lines
  pub kinds : section (kind_line h.boards) h.kinds.count (take (length ws - h.kinds.at) (drop h.kinds.at ws)) ≡ good s.kinds

module _ (ws : List ℕ) where
  numbered : (s : Sheet) → read ws ≡ good s → Described ws (numbers ws) s
  unfolding relation_lines kind_lines
  numbered s e =
      let r = (read_out ws s e).taken in
      record {
        means = e;
        boards = r.boards;
        few = r.numbers.boards;
        few_kinds = r.numbers.kinds;
        after = r.places.after;
        within = subst (λ (k : ℕ). get_or ws 4 0 ≤ k) r.places.total r.places.before;
        lines = later_out 6 (section _ _ _) s.lines r.lines;
        kinds = ap (section (kind_line (get_or ws 0 0)) (get_or ws 2 0)) (tail (get_or ws 4 0) ws)
            ∙ later_out (get_or ws 4 0) (section _ _ _) s.kinds r.kinds;
      }

  pub described : (h : Header) → Ok h ≡ description_found ws → (s : Sheet) × Described ws h s
  described h p = go (read ws) refl p
    where
      go : (r : Reading Sheet) → read ws ≡ r → Ok h ≡ numbers_found ws r → (s : Sheet) × Described ws h s
      go (good s) e p = let i : h ≡ numbers ws = cc in (s, subst (λ (j : Header). Described ws j s) (sym i) (numbered s e))
      go (refused n k) e p = clash (cc)

  -- a description that was refused
  pub undescribed : (q : Refusal) → Err q ≡ description_found ws → read ws ≡ refused (number_of q.fault) q.place
  undescribed q p = go (read ws) refl p
    where
      go : (r : Reading Sheet) → read ws ≡ r → Err q ≡ numbers_found ws r → read ws ≡ refused (number_of q.fault) q.place
      go (good s) e p = clash (cc)
      go (refused n k) e p =
          let f : q ≡ refusal n k = cc in
          e ∙ ap (λ (m : ℕ). refused m k) (sym (read_faulty ws n k e)) ∙ ap (λ (r : Refusal). refused (number_of r.fault) r.place) (sym f)

-- its place is a count
pub undescribed_place : (ws : List ℕ) (q : Refusal) → Err q ≡ description_found ws → get_or ws 5 0 < 65536 → q.place < 2 ^ 32
undescribed_place ws q p small = omega (arith, place_small ws (number_of q.fault) q.place (undescribed ws q p), small)

-- words mean one description
pub described_one : {ws : List ℕ} {h : Header} {s u : Sheet} → Described ws h s → read ws ≡ good u → s ≡ u
described_one d e = let m = d.means in cc

-- and one list of kind lines
pub described_kinds : {ws : List ℕ} {h : Header} {s : Sheet} {ks : List KindLine} → Described ws h s
    → section (kind_line h.boards) h.kinds.count (take (length ws - h.kinds.at) (drop h.kinds.at ws)) ≡ good ks → s.kinds ≡ ks
described_kinds d e = let k = d.kinds in cc

-- the kind lines of one code have as many ways
pub described_agreed : {ws : List ℕ} {h : Header} {s : Sheet} → Described ws h s
    → HasAgreed h.boards h.kinds.count (take (length ws - h.kinds.at) (drop h.kinds.at ws))
described_agreed {ws} {h} {s} d = (
  (s.kinds, d.kinds),
  λ ks e. subst OneArity (described_kinds d e) (read_well_formed ws s d.means).arity,
)
