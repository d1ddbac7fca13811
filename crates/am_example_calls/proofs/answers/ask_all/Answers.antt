use Rattle.std.specs.Prelude.{length, ◌<◌}
use Rattle.std.proofs.Common.{List, subst, arith}
use Rattle.std.proofs.lemmas.List.{get_or_default}
use Rattle.am_names.specs.declared.Words.{Words}
use Rattle.am_scenario_plan.specs.declared.plan.PlanLine.{PlanLine}
use Rattle.am_example_calls.specs.Answers.{answer_at}
use Rattle.am_example_calls.specs.Rounds.{Asks, IsSetUp, open_call}
use Rattle.am_example_calls.specs.declared.answers.Answer.{Answer}
use Rattle.am_example_calls.specs.declared.answers.Answer.TheVariants.{Heard, NeverRan}
use Rattle.am_example_calls.proofs.Asking.{asks_more, asks_none}
use Rattle.am_example_calls.proofs.answers.ask_all.Goals as goal

pub loop-token-init : goal.loop-token-init
loop-token-init c = λ (plan : List PlanLine) (set_up : IsSetUp plan c.args.draft.now).
    asks_none c.args.arguments.now c.args.answers.now plan c.args.draft.now set_up

pub loop-token-preserved : goal.loop-token-preserved
loop-token-preserved c =
    let nought : Words = record { a = 0; b = 0; c = 0; d = 0 } in
    let below : c.loop-token.token < length c.args.answers.now = omega (arith, c.requires) in
    λ (plan : List PlanLine) (set_up : IsSetUp plan c.args.draft.now).
    asks_more c.args.arguments.now c.args.answers.now plan c.loop-token.token c.loop-token.draft c.ask.new.draft (omega arith)
    (c.loop-token.invariant plan set_up)
    (subst (λ (call : Words). Asks (open_call call (answer_at c.args.answers.now c.loop-token.token)) c.loop-token.draft c.ask.new.draft)
    c.two_words-call.ensures
    (subst (λ (answer : Answer). Asks (open_call c.two_words-call.result answer) c.loop-token.draft c.ask.new.draft)
    (get_or_default c.args.answers.now c.loop-token.token (Heard nought) NeverRan below) c.in_ok-ask.ensures))
