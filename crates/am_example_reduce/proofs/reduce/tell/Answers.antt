use Rattle.std.proofs.Common.{ap}
use Rattle.am_library.specs.Laws.{first_of}
use Rattle.am_example_reduce.proofs.Scripts.{tells_begin, tells_noted}
use Rattle.am_example_reduce.proofs.reduce.tell.Goals as goal

pub loop-node-init : goal.loop-node-init
loop-node-init c = λ plan script planned. tells_begin plan c.args.sum c.args.draft.now script planned

pub loop-node-preserved : goal.loop-node-preserved
loop-node-preserved c = λ plan script planned.
    tells_noted c.scripts_grow.ensures plan c.args.sum c.loop-node.node (record { 0 = 1 }) c.two_words.result c.loop-node.draft c.calls.new.self
    c.handler.result c.map.result c.request.result c.poll.result (ap first_of c.two_words.ensures) c.in_ok-calls.ensures.ok c.handler.ensures
    c.map.ensures c.request.ensures c.poll.ensures (c.loop-node.invariant plan script planned)
