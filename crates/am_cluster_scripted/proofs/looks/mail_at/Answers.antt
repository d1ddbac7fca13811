use Rattle.std.proofs.Common.{subst}
use Rattle.am_model.specs.History.{IsHistory}
use Rattle.am_model.specs.Layout.{Layout}
use Rattle.am_model_scripts.specs.Layout.{layout_of}
use Rattle.am_model_scripts.proofs.Lawful.{lawful_layout}
use Rattle.am_laws_runs.proofs.Away.{away_is_settled}
use Rattle.am_laws_runs.proofs.Enabled.{of_packets}
use Rattle.am_cluster_scripted.proofs.Looking.{mail_read, quiet_at, seat_at, seen_in}
use Rattle.am_cluster_scripted.proofs.looks.mail_at.Goals as goal

pub returns-clause-value : goal.returns-clause-value
returns-clause-value c =
    let s = c.args.scenario.now in
    let past = c.args.cluster.now.journal in
    let one = c.end_at-end.result.now in
    let seen = seen_in s c.args.cluster.now c.args.index one c.requires.parts.layout c.end_at-end.ensures.setting c.end_at-end.ensures.state in
    mail_read (layout_of s) past c.args.index one c.id.result c.node.result c.front_of.result c.has_reply_of.result c.has_arrivals_of.result seen
    (quiet_at (layout_of s) past c.args.index one away_is_settled (of_packets s c.requires.parts.packet)
    (subst (λ (l : Layout). IsHistory l past) c.requires.parts.layout c.laws.ensures.history) c.requires.none_missed seen)
    c.id.ensures c.node.ensures (record { front_is = c.front_of.ensures; reply_is = c.has_reply_of.ensures; arrivals_is = c.has_arrivals_of.ensures })

pub returns-clause-seat : goal.returns-clause-seat
returns-clause-seat c =
    let s = c.args.scenario.now in
    let one = c.end_at-end.result.now in
    seat_at (layout_of s) c.args.cluster.now.journal c.args.index one c.node.result c.id.result (lawful_layout s c.requires.parts.lawful)
    (seen_in s c.args.cluster.now c.args.index one c.requires.parts.layout c.end_at-end.ensures.setting c.end_at-end.ensures.state)
    c.node.ensures c.id.ensures
