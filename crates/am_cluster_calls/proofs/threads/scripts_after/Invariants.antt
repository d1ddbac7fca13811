use Rattle.std.proofs.Common.{◌≡◌, map, take}
use Rattle.am_office_entries.specs.Logged.Behind.{entries_behind}
use Rattle.am_cluster_calls.specs.Threads.{scripted_in, scripted_of}
use Rattle.am_cluster_calls.proofs.threads.scripts_after.Given as goal

abbrev pub invariant-loop-entry : goal.invariant-loop-entry
invariant-loop-entry l = map scripted_in l.threads.items ≡ map (scripted_of l.scenario (take l.entry-index (entries_behind l.entries))) l.scenario.threads
