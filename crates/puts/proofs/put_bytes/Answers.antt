-- `put_bytes` meets its contract: the bytes passed are put. Assumes nothing.
use mathlib.Core.Path.{ap, ◌∙◌}
use mathlib.Core.List.{List}
use Prim.Native.Nat.{ℕ, ◌+◌}
use lib.ListN.{get_or, set}
use lib.Seq.{sets, take_all}
use Rattle.puts.specs.Texts.{placed}
use Rattle.puts.proofs.Putting.{bytes_more}
use Rattle.puts.proofs.put_bytes.Goals as goal

pub loop-i-preserved : goal.loop-i-preserved
loop-i-preserved c =
    let bytes = c.args.bytes.now in
    let i = c.loop-i.i in
    ap (λ (l : List ℕ). set l (c.args.at + i) (get_or bytes i 0)) c.loop-i.invariant ∙ bytes_more c.args.text.now c.args.at bytes i c.loop-i-test.true

pub returns : goal.returns
unfolding placed
returns c =
    c.loop-i.invariant ∙ ap (sets c.args.text.now c.args.at) (take_all c.loop-i.i c.args.bytes.now c.loop-i-test.false)
