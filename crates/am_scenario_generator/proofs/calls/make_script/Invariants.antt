use Rattle.std.proofs.Common.{◌≡◌}
use Rattle.am_scenario_generator.specs.Words.{after_threads}
use Rattle.am_scenario_generator.specs.Calls.{script_below}
use Rattle.am_scenario_generator.proofs.calls.make_script.Given as goal

abbrev pub invariant-loop-thread : goal.invariant-loop-thread
invariant-loop-thread l = record {
  calls : l.script.items ≡ script_below l.fn.rng l.thread;
  words : l.rng ≡ after_threads l.fn.rng l.thread;
}
