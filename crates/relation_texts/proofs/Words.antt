-- Words that join two operands, and all others. Assumes nothing.
use mathlib.Core.Path.{◌≡◌, refl}
use mathlib.Core.Bool.{false}
use Prim.Native.Nat.{ℕ, zero, suc}
use Rattle.typed.specs.Scanning.{tightness, joins}

pub joins_or_not : (k : ℕ) → (k ≡ 4 → ⊥) → (k ≡ 5 → ⊥) → joins k ≡ false
unfolding tightness
joins_or_not zero f g = refl
joins_or_not (suc zero) f g = refl
joins_or_not (suc (suc zero)) f g = refl
joins_or_not (suc (suc (suc zero))) f g = refl
joins_or_not (suc (suc (suc (suc zero)))) f g = absurd (f refl)
joins_or_not (suc (suc (suc (suc (suc zero))))) f g = absurd (g refl)
joins_or_not (suc (suc (suc (suc (suc (suc zero)))))) f g = refl
joins_or_not (suc (suc (suc (suc (suc (suc (suc zero))))))) f g = refl
joins_or_not (suc (suc (suc (suc (suc (suc (suc (suc k)))))))) f g = refl
