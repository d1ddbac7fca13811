use Rattle.std.proofs.Common.{map}
use Rattle.am_cluster_calls.specs.Threads.{scripted_in}
use Rattle.am_cluster_scripted.proofs.scripted.drain_owned.Goals as goal

pub invariant_of-machine : goal.invariant_of-machine
invariant_of-machine c =
    record {
      parts = c.requires.parts;
      plan = c.requires.plan;
      fed = c.requires.fed;
      spared = c.requires.spared;
      threads = c.requires.threads;
      low = c.no_low.ensures (map scripted_in c.args.beside.threads.items);
      ends = c.requires.ends;
      pairs = c.requires.pairs;
    }
