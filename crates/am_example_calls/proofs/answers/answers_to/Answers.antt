use Rattle.std.proofs.Common.{rules, ◌≡◌, length}
use Rattle.am_example_calls.proofs.Answering.{HasNoted, Laws, heard, none_answered, round_added}
use Rattle.am_example_calls.proofs.answers.answers_to.Goals as goal

pub loop-plan-preserved : goal.loop-plan-preserved
loop-plan-preserved g c =
    let laws : Laws =
    record {
      lead = c.all_run_where_they_lead.ensures;
      asked = c.each_asked_has_its_end.ensures;
      reply = c.each_reply_has_its_end.ensures;
      echo = c.echoes_are_words.ensures;
      ran = c.what_ran_was_asked_for.ensures;
    } in
    let many : length c.loop-plan.answers.items ≡ c.loop-plan.answers.len = search rules in
    let told : HasNoted c.ask_all.new.draft c.deref_mut.result.now c.hear.new.answers =
    heard c.ask_all.new.draft c.in_ok-finished.finished.journal c.in_ok-journal.journal c.in_ok-runs.runs.items c.deref-in-loop-plan-2.result.now
    c.deref_mut.result.now c.hear.new.answers c.in_ok-finished.ensures.run c.in_ok-journal.ensures c.in_ok-runs.ensures c.deref-in-loop-plan-2.ensures.value
    c.hear.ensures in
    round_added laws c.args.arguments.now c.args.plans.now c.loop-plan.plan-index c.plan-item.result c.loop-plan.answers.len c.loop-plan.answers.items
    c.deref-in-loop-plan.result.now c.deref_mut.result.now c.hear.new.answers c.deref.result.now c.ask_all.new.draft c.loop-plan-test.true
    c.plan-item.is many c.deref-in-loop-plan.ensures.value c.deref.ensures.value c.deref_mut.ensures.value
    (c.in_ok-ask_all.ensures c.deref.result.now (c.in_ok-set_up.ensures c.in_ok-draft.ensures.ok)) told c.loop-plan.invariant
