use Rattle.am_cluster_running.proofs.Counted.{receipts_count}
use Rattle.am_cluster_running.proofs.uniting.receipts_are_counted.Goals as goal

pub returns : goal.returns
returns c = receipts_count
