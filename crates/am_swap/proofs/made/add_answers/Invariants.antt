use Rattle.std.proofs.Common.{◌≡◌, take}
use Rattle.am_swap.proofs.Adding.{with_answers}
use Rattle.am_swap.proofs.made.add_answers.Given as goal

abbrev pub invariant-loop-answer : goal.invariant-loop-answer
invariant-loop-answer l = l.body ≡ with_answers l.initial.body (take l.answer-index l.queue)
