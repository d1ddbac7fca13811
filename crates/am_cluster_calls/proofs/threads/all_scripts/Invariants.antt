use Rattle.std.proofs.Common.{◌≡◌, map, take}
use Rattle.am_cluster_calls.specs.Threads.{begun_by, scripted_in}
use Rattle.am_cluster_calls.proofs.threads.all_scripts.Given as goal

abbrev pub invariant-loop-call : goal.invariant-loop-call
invariant-loop-call l = map scripted_in l.threads.items ≡ map (begun_by (take l.call-index l.scenario.script)) l.scenario.threads
