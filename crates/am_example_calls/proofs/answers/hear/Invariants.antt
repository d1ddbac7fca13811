use Rattle.std.proofs.Common.{◌≡◌, fold, take}
use Rattle.am_example_calls.specs.Answers.{noted}
use Rattle.am_example_calls.proofs.answers.hear.Given as goal

abbrev pub invariant-loop-run : goal.invariant-loop-run
invariant-loop-run l = l.answers ≡ fold noted l.initial.answers (take l.run-index l.runs)
