use Rattle.std.proofs.Common.{◌++◌, List, map, ap, ◌∙◌}
use Rattle.std.proofs.lemmas.List.{take_all}
use Rattle.am_machine_journal.specs.Merge.Joined.{lists_of}
use Rattle.am_endpoint.specs.View.{EndpointView}
use Rattle.am_machine.specs.Node.Parts.{log_of}
use Rattle.am_machine.proofs.NodeLogs.{log_added}
use Rattle.am_machine.proofs.logs.add_ends.Goals as goal

pub loop-end-preserved : goal.loop-end-preserved
loop-end-preserved c =
    log_added log_of c.args.ends.now c.loop-end.end-index c.end-item.result (lists_of c.args.logs.now.items) c.loop-end.logs.items c.push.new.self.items
    c.log.result c.loop-end-test.true c.loop-end.invariant (c.log.ensures.log ∙ ap log_of c.end-item.is) c.in_ok-push.ensures.items

pub returns : goal.returns
returns c =
    c.loop-end.invariant
    ∙ ap (λ (vs : List EndpointView). lists_of c.args.logs.now.items ++ map log_of vs) (take_all c.loop-end.end-index c.args.ends.now c.loop-end-test.false)
