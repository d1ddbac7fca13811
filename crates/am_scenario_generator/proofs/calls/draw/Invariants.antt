use Rattle.std.proofs.Common.{◌≡◌, ◌++◌}
use Rattle.am_scenario_generator.specs.Words.{steps}
use Rattle.am_scenario_generator.specs.Calls.{drawn_calls}
use Rattle.am_scenario_generator.proofs.calls.draw.Given as goal

abbrev pub invariant-loop-place : goal.invariant-loop-place
invariant-loop-place l = record {
  calls : l.script.items ≡ l.fn.script.items ++ drawn_calls l.fn.rng l.thread l.place;
  words : l.rng ≡ steps l.fn.rng l.place;
}
