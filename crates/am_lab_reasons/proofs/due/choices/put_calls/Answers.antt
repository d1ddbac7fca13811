use Rattle.std.proofs.Common.{◌≡◌, ◌++◌, Option, true, ap, ◌∙◌}
use Rattle.am_scenario_types.specs.declared.parts.ScriptCall.{ScriptCall}
use Rattle.am_scenario_types.specs.declared.parts.ThreadLine.{ThreadLine}
use Rattle.am_model_scripts.specs.Follows.{is_thread}
use Rattle.am_lab_reasons.specs.Due.Choices.{call_line, next_call}
use Rattle.am_lab_reasons.proofs.Joined.{each_there, more_put}
use Rattle.am_lab_reasons.proofs.due.choices.put_calls.Goals as goal

abbrev no_thread : ThreadLine
no_thread = record { id = 0; node = record { 0 = 0 } }

pub next_call-requires : goal.next_call-requires
next_call-requires c =
    each_there (λ (t : ThreadLine). is_thread c.args.run.now.scenario t.id ≡ true) c.args.threads.now c.loop-thread.thread-index no_thread
    c.loop-thread-test.true c.requires

pub loop-thread-preserved : goal.loop-thread-preserved
loop-thread-preserved c =
    more_put (next_call c.args.run.now.scenario c.args.run.now.journal) c.args.threads.now c.loop-thread.thread-index no_thread c.args.out.now.items
    c.loop-thread.out.items c.put_call.new.out.items c.loop-thread-test.true c.loop-thread.invariant
    (c.in_ok-put_call.ensures ∙ ap (λ (call : Option ScriptCall). c.loop-thread.out.items ++ call_line call) c.next_call.ensures)
