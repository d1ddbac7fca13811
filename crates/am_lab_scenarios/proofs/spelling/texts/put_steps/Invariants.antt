use Rattle.std.proofs.Common.{◌≡◌, ◌++◌, take}
use Rattle.std.specs.List.{flat_map}
use Rattle.am_lab_scenarios.specs.Spelling.Texts.{step_line}
use Rattle.am_lab_scenarios.proofs.spelling.texts.put_steps.Given as goal

abbrev pub invariant-loop-step : goal.invariant-loop-step
invariant-loop-step l = l.out.items ≡ l.fn.out.items ++ flat_map step_line (take l.step-index l.steps)
