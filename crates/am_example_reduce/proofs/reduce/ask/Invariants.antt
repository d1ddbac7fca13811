use Rattle.std.proofs.Common.{take, List, []}
use Rattle.am_scenario_plan.specs.declared.plan.PlanLine.{PlanLine}
use Rattle.am_example_reduce.specs.Rounds.{Asks}
use Rattle.am_example_reduce.proofs.reduce.ask.Given as goal

abbrev pub invariant-loop-words : goal.invariant-loop-words
invariant-loop-words l = (plan : List PlanLine) → Asks plan [] l.initial.draft → Asks plan (take l.words-index l.numbers) l.draft
