use Rattle.std.proofs.Common.{◌++◌, List, map, ap, ◌∙◌}
use Rattle.std.proofs.lemmas.List.{take_all}
use Rattle.am_machine_journal.specs.Merge.Joined.{lists_of}
use Rattle.am_iface.specs.View.{InterfaceView}
use Rattle.am_machine.proofs.NodeLogs.{log_added}
use Rattle.am_machine.proofs.logs.add_interfaces.Goals as goal

pub loop-interface-preserved : goal.loop-interface-preserved
loop-interface-preserved c =
    log_added (λ (i : InterfaceView). i.log) c.args.interfaces.now c.loop-interface.interface-index c.interface-item.result (lists_of c.args.logs.now.items) c.loop-interface.logs.items c.push.new.self.items
    c.log.result c.loop-interface-test.true c.loop-interface.invariant (c.log.ensures.log ∙ ap (λ (i : InterfaceView). i.log) c.interface-item.is) c.in_ok-push.ensures.items

pub returns : goal.returns
returns c =
    c.loop-interface.invariant
    ∙ ap (λ (vs : List InterfaceView). lists_of c.args.logs.now.items ++ map (λ (i : InterfaceView). i.log) vs) (take_all c.loop-interface.interface-index c.args.interfaces.now c.loop-interface-test.false)
