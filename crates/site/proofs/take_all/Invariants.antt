-- What was read is within the room, and the measure is the room left.
use Rattle.std.proofs.Common.{◌≤◌, ◌-◌, length}
use Rattle.site.proofs.take_all.Given as goal

abbrev pub invariant-loop-n : goal.invariant-loop-n
invariant-loop-n g l = l.n ≤ length l.bytes

abbrev pub decreases-loop-n : goal.decreases-loop-n
decreases-loop-n g l = length l.bytes - l.n
