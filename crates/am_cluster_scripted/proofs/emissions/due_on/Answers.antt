use Rattle.std.specs.Prelude.{slice_get, slice_index_or}
use Rattle.std.proofs.Common.{ℕ, ◌∙◌, ap, map, subst, arith}
use Rattle.am_model.specs.History.{IsHistory}
use Rattle.am_model.specs.Layout.{Layout}
use Rattle.am_laws_runs.proofs.Receipts.{dues_are_counted}
use Rattle.am_cluster_scripted.specs.Links.{nothing, released_in}
use Rattle.am_cluster_scripted.proofs.Due.{due_counted, due_read}
use Rattle.am_cluster_scripted.proofs.emissions.due_on.Goals as goal

pub returns-clause-value : goal.returns-clause-value
returns-clause-value c =
    let rs = map released_in c.args.links.now in
    let few = c.requires.parts.lawful.settings.nodes.1 in
    let from = c.requires.peer in
    let to = c.requires.node in
    c.due_at.ensures
    ∙ ap (λ (k : ℕ). slice_get (slice_index_or rs k nothing).numbers c.received-received.result) c.link_place.ensures
    ∙ due_read c.args.scenario.now c.args.cluster.now.journal rs c.args.peer c.args.node c.received-received.result c.requires.fed (omega (arith, few, from))
    (omega (arith, few, to)) c.received-received.ensures

pub returns-clause-counted : goal.returns-clause-counted
returns-clause-counted c =
    due_counted c.args.scenario.now c.args.cluster.now.journal c.args.node c.args.peer c.due_at.result dues_are_counted
    (subst (λ (l : Layout). IsHistory l c.args.cluster.now.journal) c.requires.parts.layout c.laws.ensures.history)
    (returns-clause-value c)
