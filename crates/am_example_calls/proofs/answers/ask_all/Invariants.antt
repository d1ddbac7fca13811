use Rattle.std.proofs.Common.{List}
use Rattle.am_scenario_plan.specs.declared.plan.PlanLine.{PlanLine}
use Rattle.am_example_calls.specs.Rounds.{AsksFor, IsSetUp}
use Rattle.am_example_calls.proofs.answers.ask_all.Given as goal

abbrev pub invariant-loop-token : goal.invariant-loop-token
invariant-loop-token l = (plan : List PlanLine) → IsSetUp plan l.initial.draft → AsksFor l.arguments l.answers plan l.token l.draft
