use Rattle.std.proofs.Common.{map}
use Rattle.am_cluster_drainer.specs.Reads.{left_of}
use Rattle.am_cluster_calls.specs.Threads.{scripted_in}
use Rattle.am_cluster_calls.proofs.Lowest.{low_fewest, low_nothing}
use Rattle.am_cluster_calls.proofs.lows.low_of.Goals as goal

pub returns-in-Some : goal.returns-in-Some
returns-in-Some c = low_fewest (map scripted_in c.args.threads.now) (left_of c.in-Some.left) c.in-Some.ensures

pub returns-in-None : goal.returns-in-None
returns-in-None c = low_nothing (map scripted_in c.args.threads.now) c.in-None.ensures
