use Rattle.am_example_reduce.proofs.Scripts.{asks_sent}
use Rattle.am_example_reduce.proofs.reduce.send.Goals as goal

pub returns : goal.returns
returns c = λ plan numbers asks.
    asks_sent c.scripts_grow.ensures plan numbers c.in-Ok.node (record { 0 = 1 }) c.args.words c.args.draft.now c.calls.new.self c.map.result
    c.request.result c.poll.result c.poll-2.result c.calls.result c.calls.ensures.ok c.map.ensures c.request.ensures c.poll.ensures c.poll-2.ensures asks
