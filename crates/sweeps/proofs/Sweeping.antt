-- One turn of the loop over third boards: a strike by one rule, after those before it. Assumes nothing.
use mathlib.Core.Path.{◌≡◌, refl, sym, ap₂, ◌∙◌, subst}
use Rattle.std.specs.Prelude.{Ok, Err}
use mathlib.Core.Logic.{inl, inr}
use mathlib.Core.List.{List}
use Prim.Native.Nat.{ℕ, ◌+◌, ◌*◌, ◌<◌}
use borrow.Author.Count.{below_more}
use Rattle.rules.specs.Relations.{◌lies_within◌, converse, compose}
use Rattle.rules.specs.Tables.{cell, Inside}
use Rattle.rules.specs.Closing.{Idle, rules2, rules3}
use Rattle.rules.proofs.Sets.{lies_trans}
use Rattle.rules.proofs.Members.{one_all, append_left, append_right}
use Rattle.rules.proofs.Composition.{compose_mono}
use Rattle.rules.proofs.Inside.{inside_trans}
use Rattle.rules.proofs.Rules.{boards_all}
use Rattle.passes.specs.Passes.{Idles}
use Rattle.moves.specs.Watches.{through}
use Rattle.moves.specs.declared.Emptied.{Emptied}
use Rattle.moves.specs.Moves.{Struck, Moved, Tended, Lost}
use Rattle.moves.proofs.Moving.{moved_then, lost_then, strike_moved, strike_lost, strike_within, tended_moved, moved_inside, lost_inside}
use Rattle.moves.proofs.Passing.{turned}
use Rattle.moves.proofs.Reading.{through_honest}
use Rattle.sweeps.specs.Sweeps.{Evenly}

-- what rule 3 says of a table in which it strikes nothing
pub composed : {v : ℕ} {x : List ℕ} {p q r : ℕ} → Idles v (rules3 v) x → p < v → q < v → r < v → cell v x p r lies_within compose (cell v x p q) (cell v x q r)
unfolding rules3
composed {v} {x} {p} {q} {r} d hp hq hr =
    one_all (Idle v x) (boards_all (Idle v x) v _ (boards_all (Idle v x) v _ (boards_all (Idle v x) v _ d p hp) q hq) r hr)

module _ {v p q r b z : ℕ} {t m u k : List ℕ} (hp : p < v) (hq : q < v) (hr : r < v) (x : z ≡ cell v t p q) (e : b ≡ compose z (cell v u q r))
    (g : Moved (Evenly v) v t m u k) where
  within : (y : List ℕ) → Inside y u × Evenly v y → (cell v y p r lies_within b) × (cell v y r p lies_within converse (cell v y p r))
  within y (i, d) = (
    lies_trans (composed (append_right (Idle v y) (rules2 v) (rules3 v) d) hp hq hr)
        (subst (λ (c : ℕ). compose (cell v y p q) (cell v y q r) lies_within c) (sym (e ∙ ap₂ compose x refl))
        (compose_mono ((inside_trans i g.inside).each (v * p + q)) (i.each (v * q + r)))),
    turned v y (append_left (Idle v y) (rules2 v) (rules3 v) d) p r hp hr,
  )

  pub through_lost : {w n : List ℕ} {d : Emptied} → Struck v p r b u k w n (Err d) → Lost (Evenly v) v t
  through_lost s = lost_then g (lost_inside (strike_lost g.fit g.list hp hr within s))

  module _ {w n : List ℕ} (s : Struck v p r b u k w n (Ok tt)) where
    pub through_went : Moved (Evenly v) v u k w n
    through_went = moved_inside (strike_moved g.fit g.list hp hr within s)

    pub through_turn : ((j : ℕ) → j < r → Tended v k u (through v p q j))
        → Moved (Evenly v) v t m w n × ((j : ℕ) → j < r + 1 → Tended v n w (through v p q j))
    through_turn f = (
      moved_then g through_went,
      below_more (λ j. Tended v n w (through v p q j)) r (λ j h. tended_moved through_went (through v p q j) (through_honest v p q j) (f j h)) here,
    )
      where
        here : Tended v n w (through v p q r)
        here o =
            let first : cell v w p q ≡ cell v t p q = ((moved_then g through_went).off p q (o p q (inl (refl, refl)))).1 in
            let second : cell v w q r ≡ cell v u q r = (through_went.off q r (o q r (inr (refl, refl)))).1 in
            subst (λ (c : ℕ). cell v w p r lies_within c) (e ∙ ap₂ compose (x ∙ sym first) (sym second)) (strike_within g.fit g.list hp hr within s)
