use Rattle.std.proofs.Common.{take}
use Rattle.am_example_calls.specs.Calls.{AreAnswered}
use Rattle.am_example_calls.proofs.answers.answers_to.Given as goal

abbrev pub invariant-loop-plan : goal.invariant-loop-plan
invariant-loop-plan g l = AreAnswered l.arguments (take l.plan-index l.plans) l.answers.items
