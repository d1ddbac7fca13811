use Rattle.std.proofs.Common.{◌≡◌}
use Rattle.am_scenario_generator.specs.Words.{steps}
use Rattle.am_lab_scenarios.specs.Faults.Plans.{drawn_lines, seeded}
use Rattle.am_lab_scenarios.proofs.faults.plans.drawn_plan.Given as goal

abbrev pub invariant-loop-place : goal.invariant-loop-place
invariant-loop-place l = record {
  lines : l.plan.items ≡ drawn_lines (seeded l.seed) l.percent l.nodes l.packets l.place;
  words : l.rng ≡ steps (seeded l.seed) l.place;
}
