use Rattle.std.proofs.Common.{◌≡◌, [], map, take}
use Rattle.am_cluster_calls.specs.Threads.{begun_by, scripted_in}
use Rattle.am_cluster_calls.proofs.threads.bare_threads.Given as goal

abbrev pub invariant-loop-line : goal.invariant-loop-line
invariant-loop-line l = map scripted_in l.threads.items ≡ map (begun_by []) (take l.line-index l.scenario.threads)
