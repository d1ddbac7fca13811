use Rattle.am_model_scripts.specs.Layout.{layout_of}
use Rattle.am_model_scripts.proofs.Lawful.{lawful_layout}
use Rattle.am_cluster_scripted.proofs.Looking.{head_read, seat_at, seen_in}
use Rattle.am_cluster_scripted.proofs.looks.head_at.Goals as goal

pub returns-clause-value : goal.returns-clause-value
returns-clause-value c =
    let s = c.args.scenario.now in
    let one = c.end_at-end.result.now in
    head_read (layout_of s) c.args.cluster.now.journal c.args.index one c.id.result c.node.result c.head.result
    (seen_in s c.args.cluster.now c.args.index one c.requires.parts.layout c.end_at-end.ensures.setting c.end_at-end.ensures.state)
    c.id.ensures c.node.ensures c.head.ensures

pub returns-clause-seat : goal.returns-clause-seat
returns-clause-seat c =
    let s = c.args.scenario.now in
    let one = c.end_at-end.result.now in
    seat_at (layout_of s) c.args.cluster.now.journal c.args.index one c.node.result c.id.result (lawful_layout s c.requires.parts.lawful)
    (seen_in s c.args.cluster.now c.args.index one c.requires.parts.layout c.end_at-end.ensures.setting c.end_at-end.ensures.state)
    c.node.ensures c.id.ensures
