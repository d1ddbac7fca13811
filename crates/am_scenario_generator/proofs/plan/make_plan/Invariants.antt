use Rattle.std.proofs.Common.{◌≡◌}
use Rattle.am_scenario_generator.specs.Words.{steps}
use Rattle.am_scenario_generator.specs.Plan.{plan_after}
use Rattle.am_scenario_generator.proofs.plan.make_plan.Given as goal

abbrev pub invariant-loop-line : goal.invariant-loop-line
invariant-loop-line l = record {
  lines : l.plan.items ≡ plan_after l.fn.rng l._line;
  words : l.rng ≡ steps l.fn.rng l._line;
}
