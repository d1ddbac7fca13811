use Rattle.am_laws.proofs.Once.{next_counts}
use Rattle.am_laws.proofs.order.counts_in_order.Goals as goal

pub returns : goal.returns
returns c = next_counts
