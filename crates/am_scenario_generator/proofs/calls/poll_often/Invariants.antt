use Rattle.std.proofs.Common.{◌≡◌, ◌++◌}
use Rattle.am_scenario_generator.specs.Calls.{polls}
use Rattle.am_scenario_generator.proofs.calls.poll_often.Given as goal

abbrev pub invariant-loop-poll : goal.invariant-loop-poll
invariant-loop-poll l = l.script.items ≡ l.fn.script.items ++ polls l.thread l.end l._poll
