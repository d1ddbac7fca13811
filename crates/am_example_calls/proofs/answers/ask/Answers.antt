use Rattle.am_example_calls.proofs.Asking.{asks_call, asks_none_more}
use Rattle.am_example_calls.proofs.answers.ask.Goals as goal

pub returns-in-Heard : goal.returns-in-Heard
returns-in-Heard c = rw c.in-Heard.is (asks_none_more c.args.draft.now)

pub returns-in-Unheard : goal.returns-in-Unheard
returns-in-Unheard c =
    asks_call c.scripts_grow.ensures c.args.call c.args.answer c.args.draft.now c.calls.new.self c.request.result c.poll.result c.poll-in-Unheard.result
    c.poll-in-Unheard-2.result c.calls.result c.in-Unheard.is c.calls.ensures.ok c.request.ensures c.poll.ensures c.poll-in-Unheard.ensures
    c.poll-in-Unheard-2.ensures
