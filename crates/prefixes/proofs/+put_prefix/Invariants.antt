use lib.ListN.{length}
use Rattle.prefixes.proofs.+put_prefix.Given as goal

abbrev pub decreases-put_prefix : goal.decreases-put_prefix
decreases-put_prefix l = length l.items.now
