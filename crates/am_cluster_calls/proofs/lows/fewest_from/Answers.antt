use Rattle.std.proofs.Common.{Option, map, subst}
use Rattle.am_cluster_calls.specs.Lows.{IsLow}
use Rattle.am_cluster_calls.specs.Threads.{scripted_in}
use Rattle.am_cluster_calls.specs.declared.lows.LowMark.{LowMark}
use Rattle.am_cluster_calls.proofs.Lowest.{nothing_left}
use Rattle.am_cluster_calls.proofs.lows.fewest_from.Goals as goal

pub returns-in-None : goal.returns-in-None
returns-in-None c = nothing_left (map scripted_in c.args.threads.now) (subst (λ (o : Option LowMark). IsLow (map scripted_in c.args.threads.now) o) c.in-None.is
    c.requires)
