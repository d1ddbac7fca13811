use Rattle.std.proofs.Common.{◌∙◌}
use Rattle.am_model_scripts.specs.Layout.{layout_of}
use Rattle.am_model_scripts.specs.Standings.{standings}
use Rattle.am_cluster_drainer.proofs.Finding.{send_some, send_none, sent_in_range}
use Rattle.am_cluster_drainer.proofs.rules.send.Goals as goal

pub returns-in-Some-clause-turn : goal.returns-in-Some-clause-turn
returns-in-Some-clause-turn g c =
    let m = g.M.Drainable in
    let s = m.scenario c.args.machine.now in
    let past = m.journal c.args.machine.now in
    let layout = layout_of s in
    let ends = standings layout past in
    c.send_front.ensures ∙ send_some ends c.in-Some.mail c.in-Some.ensures.value

pub returns-in-Some-clause-in_range : goal.returns-in-Some-clause-in_range
returns-in-Some-clause-in_range g c =
    let m = g.M.Drainable in
    let s = m.scenario c.args.machine.now in
    let past = m.journal c.args.machine.now in
    let layout = layout_of s in
    let ends = standings layout past in
    sent_in_range layout c.in-Some.mail c.in-Some.mail.front c.send_front.result c.in-Some.ensures.seat c.send_front.ensures

pub returns-in-None-clause-turn : goal.returns-in-None-clause-turn
returns-in-None-clause-turn g c =
    let m = g.M.Drainable in
    let s = m.scenario c.args.machine.now in
    let past = m.journal c.args.machine.now in
    let layout = layout_of s in
    let ends = standings layout past in
    send_none ends c.in-None.ensures.value
