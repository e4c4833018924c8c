-- Any two writers that a contract of this crate leaves have equal texts and places, and so have any two that are made; and any two places told are equal.
-- Assumes nothing.
use mathlib.Core.Path.{◌≡◌, refl, sym, ap₂, ◌∙◌}
use mathlib.Core.List.{List}
use Prim.Native.Nat.{ℕ}
use Rattle.contracts.specs.Promises.{OfTwo, OneResult, OneOutcome}
use Rattle.puts.specs.Texts.{told}
use Rattle.puts.proofs.Putting.{told_once}
use Rattle.puts.proofs.Writer.new.Kinds as new_kinds
use Rattle.puts.proofs.Writer.new.Reads as new
use Rattle.puts.proofs.Writer.at.Kinds as at_kinds
use Rattle.puts.proofs.Writer.at.Reads as at
use Rattle.puts.proofs.Writer.put_byte.Kinds as put_byte_kinds
use Rattle.puts.proofs.Writer.put_byte.Reads as put_byte
use Rattle.puts.proofs.Writer.put_text.Kinds as put_text_kinds
use Rattle.puts.proofs.Writer.put_text.Reads as put-text
use Rattle.puts.proofs.Writer.put_number.Kinds as put_number_kinds
use Rattle.puts.proofs.Writer.put_number.Reads as put-number

pub new_determined : OfTwo 1 new_kinds.ps new_kinds.r new.Asked new.Learnt (λ κs x y d e. told x ≡ told y)
new_determined κs a asked x y d e p q = ap₂ (λ (t : List ℕ) (n : ℕ). (t, n)) (p.1.0 ∙ sym q.1.0) (p.1.1 ∙ sym q.1.1)

pub at_determined : OneResult 2 at_kinds.ps at_kinds.r at.Asked at.Learnt
at_determined κs a asked x y d e p q = p ∙ sym q

pub put_byte_determined : OneOutcome 2 put_byte_kinds.ps put_byte_kinds.r put_byte.Asked put_byte.Learnt (λ κs e. told e.0.now)
put_byte_determined κs a asked x y d e p q = (refl, told_once p q)

pub put_text_determined : OneOutcome 3 put_text_kinds.ps put_text_kinds.r put-text.Asked put-text.Learnt (λ κs e. told e.0.now)
put_text_determined κs a asked x y d e p q = (refl, told_once p q)

pub put_number_determined : OneOutcome 2 put_number_kinds.ps put_number_kinds.r put-number.Asked put-number.Learnt (λ κs e. told e.0.now)
put_number_determined κs a asked x y d e p q = (refl, told_once p q)
