use Rattle.std.proofs.Common.{◌≡◌, List, []}
use Rattle.am_scenario_plan.specs.declared.plan.PlanLine.{PlanLine}
use Rattle.am_example_reduce.specs.Rounds.{SendsSum}
use Rattle.am_example_reduce.proofs.reduce.tell.Given as goal

abbrev pub invariant-loop-node : goal.invariant-loop-node
invariant-loop-node l = (plan : List PlanLine) → l.initial.draft.script ≡ [] → l.initial.draft.plan ≡ plan → SendsSum plan l.sum l.draft
