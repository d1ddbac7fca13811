use Rattle.std.proofs.Common.{◌≡◌, ◌++◌, take}
use Rattle.std.specs.List.{flat_map}
use Rattle.am_lab_scenarios.specs.Spelling.Texts.{plan_line}
use Rattle.am_lab_scenarios.proofs.spelling.texts.put_plan.Given as goal

abbrev pub invariant-loop-planned : goal.invariant-loop-planned
invariant-loop-planned l = l.out.items ≡ l.fn.out.items ++ flat_map plan_line (take l.planned-index l.plan)
