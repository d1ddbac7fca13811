use Rattle.std.proofs.Common.{arith}
use Rattle.std.proofs.lemmas.Result.{err_from_is_err_and}
use Rattle.am_library_drafts.proofs.OnNodes.{no_end, no_thread, nodes_more, nodes_none}
use Rattle.am_library_drafts.proofs.draft.Draft.on_each_node.Goals as goal

pub loop-node-init : goal.loop-node-init
loop-node-init c = nodes_none c.args.self.now c.args.tag

pub loop-node-preserved : goal.loop-node-preserved
loop-node-preserved c =
    nodes_more c.args.self.now c.loop-node.self c.endpoint.new.self c.thread.new.self c.args.tag c.loop-node.node c.loop-node.invariant
    c.in_ok-endpoint.ensures.ok c.in_ok-thread.ensures.ok

pub returns-in_err-endpoint-clause-refused : goal.returns-in_err-endpoint-clause-refused
returns-in_err-endpoint-clause-refused c =
    let p = err_from_is_err_and c.from_residual.result c.from_residual.ensures.1 in
    rw (p.1, p.2)
    (no_end c.args.self.now c.loop-node.self c.endpoint.new.self c.args.tag c.loop-node.node _ (omega (arith, c.nodes-node-end.ensures)) c.loop-node.invariant
    c.in_err-endpoint.ensures.err c.in_err-endpoint.ensures.refused)

pub returns-in_err-thread-clause-refused : goal.returns-in_err-thread-clause-refused
returns-in_err-thread-clause-refused c =
    let p = err_from_is_err_and c.from_residual-in_err-thread.result c.from_residual-in_err-thread.ensures.1 in
    rw (p.1, p.2)
    (no_thread c.args.self.now c.loop-node.self c.endpoint.new.self c.thread.new.self c.args.tag c.loop-node.node _ (omega (arith, c.nodes-node-end.ensures))
    c.loop-node.invariant c.in_ok-endpoint.ensures.ok c.in_err-thread.ensures.err c.in_err-thread.ensures.refused)
