use Rattle.std.proofs.Common.{map}
use Rattle.am_cluster_calls.specs.Threads.{scripted_in}
use Rattle.am_cluster_calls.proofs.Lowest.{low_moved}
use Rattle.am_cluster_calls.proofs.lows.moved.Goals as goal

pub returns-in-Some : goal.returns-in-Some
returns-in-Some c = low_moved (map scripted_in c.args.threads.now) c.args.mark.made c.args.mark.from c.in-Some.place c.requires c.in-Some.ensures
