use Rattle.std.proofs.Common.{length}
use Rattle.am_swap_codec.proofs.lists.BodyLists.+excess_from.Given as goal

abbrev pub decreases-excess_from : goal.decreases-excess_from
decreases-excess_from l = length l.mapped.now
