use Rattle.std.proofs.Common.{◌≡◌, map, ◌++◌}
use Rattle.am_cluster_running.specs.Parting.{emitted_in}
use Rattle.am_cluster_running.proofs.parting.emitted_of.Given as goal

abbrev pub invariant-loop-link : goal.invariant-loop-link
invariant-loop-link l = l.all.items ++ map emitted_in l.link-iterator.rest.items ≡ map emitted_in l.fn.records.items
