use Rattle.std.proofs.Common.{length}
use Rattle.am_swap_codec.proofs.valid.+rise.Given as goal

abbrev pub decreases-rise : goal.decreases-rise
decreases-rise l = length l.awaited.now
