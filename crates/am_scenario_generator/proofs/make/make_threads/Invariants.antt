use Rattle.std.proofs.Common.{◌≡◌}
use Rattle.am_scenario_generator.proofs.Below.{threads_below}
use Rattle.am_scenario_generator.proofs.make.make_threads.Given as goal

abbrev pub invariant-loop-id : goal.invariant-loop-id
invariant-loop-id l = l.threads.items ≡ threads_below l.id
