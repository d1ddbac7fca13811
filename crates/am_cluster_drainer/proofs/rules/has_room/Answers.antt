use Rattle.std.proofs.Common.{◌∙◌, ap}
use Rattle.std.specs.Prelude.{◌||◌, nat_lt}
use Rattle.am_model.specs.History.{state_of}
use Rattle.am_model_scripts.specs.Layout.{layout_of}
use Rattle.am_cluster_drainer.proofs.Planned.{room_at, no_room_at}
use Rattle.am_cluster_drainer.proofs.rules.has_room.Goals as goal

pub returns-in-Some : goal.returns-in-Some
returns-in-Some g c =
    let m = g.M.Drainable in
    let layout = layout_of (m.scenario c.args.machine.now) in
    let past = m.journal c.args.machine.now in
    c.is_roomy.ensures ∙ (ap (λ h. h.closed || nat_lt c.received_requests.result 16) c.head_by.ensures
    ∙ (ap (λ n. (state_of layout past c.args.end).head.closed || nat_lt n 16) c.received_requests.ensures
    ∙ room_at layout past c.args.end c.in-Some._node c.in-Some.ensures.value))

pub returns-in-None : goal.returns-in-None
returns-in-None g c =
    let m = g.M.Drainable in
    no_room_at (layout_of (m.scenario c.args.machine.now)) (m.journal c.args.machine.now) c.args.end c.in-None.ensures.value
