-- One turn of the loop over boards: each is itself. Assumes nothing.
use mathlib.Core.List.{List, flat_map}
use Prim.Native.Nat.{ℕ, ◌+◌, ◌*◌, ◌<◌}
use Rattle.rules.specs.Relations.{E}
use Rattle.rules.specs.Tables.{up_to}
use Rattle.rules.specs.Closing.{Rule, lies}
use Rattle.passes.specs.Passes.{Narrowed, Ready, Once}
use Rattle.passes.proofs.Passes.{once_next, once_strike, ready_place, ready_kept}

abbrev pub itself : ℕ → List Rule
itself p = lies p p (λ t. E)

pub itself_turn : {v : ℕ} {t w x : List ℕ} {p a b n : ℕ} → Ready v t → p < v → Once v (flat_map itself (up_to p)) t a w b → Narrowed w (v * p + p) E x n
    → Once v (flat_map itself (up_to (p + 1))) t a x (b + n)
itself_turn {p = p} r h o m =
    once_next itself p o (once_strike p p E o.kept.table (ready_place (ready_kept r o.kept) h h) m)
