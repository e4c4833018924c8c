-- A run of tries within a budget: what the rule comes to is the tries made and what is still to come. Assumes nothing.
use mathlib.Core.Path.{◌≡◌, refl, sym, ap, ◌∙◌, subst}
use mathlib.Core.List.{List}
use Prim.Native.Nat.{ℕ, ◌+◌, ◌≤◌, ◌<◌}
use native.Mathlib.Nat.{add-zero}
use native.Mathlib.Omega.{arith}
use Rattle.std.specs.Prelude.{Option}
use Rattle.rules.specs.Descriptions.{Sheet}
use Rattle.rules.specs.Closing.{closing}
use Rattle.rules.specs.Search.{Order, End, found, none, later, choose, places, tries, ended}
use Rattle.rules.proofs.Search.{cap_in, cap_out}
use Rattle.choosing.specs.declared.pairs.Pair.{Pair}
use Rattle.choosing.specs.declared.Next.{Next}
use Rattle.choosing.specs.declared.Next.TheVariants.{Try, Found, Spent}
use Rattle.choosing.specs.declared.Ended.TheVariants.{Arranged, Nowhere, RanOut}
use Rattle.choosing.specs.Choices.{NextOpen}
use Rattle.choosing.specs.Standings.{onward, stood, resume, ahead, Whole, Due, due}
use Rattle.choosing.specs.Tries.{Tried, ends}
use Rattle.choosing.proofs.Resuming.{later_zero, later_later, tries_later}
use Rattle.choosing.proofs.Turning.{going_on, one_more}

-- n tries are made, the choices are cs, the cells u, and `next` comes next
pub record Midway (s : Sheet) (ord first : List ℕ) (n : ℕ) (cs u : List ℕ) (next : Next) : Type 0 where
  pub due : due s ord first cs u next
  pub comes : choose (closing s) ord (places s.boards) first ≡ later n (ahead (closing s) ord s.boards first cs u next)

module _ (s : Sheet) {ord : List ℕ} (order : Order ord) (first : List ℕ) where
  -- at the start
  from_first : Whole s first → (cs ds : List ℕ) (next : Option Pair) → NextOpen s.boards first cs 0 ds next → Midway s ord first 0 ds first (onward next)
  unfolding stood resume
  from_first w cs ds next o =
      let g = going_on s order first w cs 0 (record { whole = w; each = λ m l. let z : ⊥ = omega arith in absurd z }) refl ds next o in
      record { due = g.0; comes = g.1 ∙ sym (later_zero (ahead (closing s) ord s.boards first ds first (onward next))) }

  -- as the code has it, with cells that are the first table's
  pub midway_start : {v : ℕ} → v ≡ s.boards → Whole s first → {u : List ℕ} → u ≡ first → (i : ℕ) → i ≡ 0 → (cs ds : List ℕ) (to : Option Pair) → NextOpen v u cs i ds to
      → {next : Next} → next ≡ onward to → Midway s ord first 0 ds u next
  midway_start {v} b w {u} f i z cs ds to o {next} m =
      subst (Midway s ord first 0 ds u) (sym m)
      (subst (λ (x : List ℕ). Midway s ord first 0 ds x (onward to)) (sym f)
      (from_first w cs ds to
      (subst (λ (j : ℕ). NextOpen s.boards first cs j ds to) z
      (subst (λ (x : List ℕ). NextOpen s.boards x cs i ds to) f (subst (λ (n : ℕ). NextOpen n u cs i ds to) b o)))))

  -- after a try
  pub midway_more : (n : ℕ) (cs u : List ℕ) (at : Pair) (ds w : List ℕ) (was next : Next) → was ≡ Try at → Midway s ord first n cs u was → Tried s ord first at cs ds w next
      → Midway s ord first (n + 1) ds w next
  midway_more n cs u at ds w was next is m t =
      record {
        due = t.due;
        comes = (subst (Midway s ord first n cs u) is m).comes ∙ ap (later n) t.ahead ∙ later_later n 1 (ahead (closing s) ord s.boards first ds w next);
      }

  -- what a try needs
  pub midway_due : (n : ℕ) (cs u : List ℕ) (at : Pair) (next : Next) → next ≡ Try at → Midway s ord first n cs u next → Due s ord first cs u at
  midway_due n cs u at next is m = (subst (Midway s ord first n cs u) is m).due

  module _ (n b : ℕ) (cs u : List ℕ) where
    abbrev rule : End
    rule = choose (closing s) ord (places s.boards) first

    -- every pair is settled
    pub midway_found : n ≤ b → (next : Next) → next ≡ Found → Midway s ord first n cs u next → ends rule b u (Arranged n)
    midway_found h next is m =
        let e : rule ≡ found n u = (subst (Midway s ord first n cs u) is m).comes ∙ ap (λ (k : ℕ). found k u) (add-zero n) in
        cap_in b rule (subst (λ (x : End). tries x ≤ b) (sym e) h) ∙ ap ended e

    -- every choice has failed
    pub midway_none : n ≤ b → (next : Next) → next ≡ Spent → Midway s ord first n cs u next → ends rule b u (Nowhere n)
    midway_none h next is m =
        let e : rule ≡ none n = (subst (Midway s ord first n cs u) is m).comes ∙ ap none (add-zero n) in
        cap_in b rule (subst (λ (x : End). tries x ≤ b) (sym e) h) ∙ ap ended e

    -- a try is due, and the budget is spent
    pub midway_out : n ≡ b → (at : Pair) (next : Next) → next ≡ Try at → Midway s ord first n cs u next → ends rule b u RanOut
    midway_out h at next is from =
        let m = subst (Midway s ord first n cs u) is from in
        let x = ahead (closing s) ord s.boards first cs u (Try at) in
        let l : 0 < tries x = one_more s order first cs u at m.due in
        cap_out b rule (subst (λ (e : End). b < tries e) (sym m.comes) (omega (arith, tries_later n x)))
