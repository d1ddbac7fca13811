use Rattle.std.proofs.Common.{◌≡◌, ◌∙◌, map, ap, arith}
use Rattle.am_endpoint.specs.View.{EndpointView}
use Rattle.am_cluster_opening.proofs.NodesOpened.{as_many, both_ok, homely_books, named_all, places_are}
use Rattle.am_cluster_opening.proofs.node.nodes.open_places.Goals as goal

pub new-requires-clause-ids : goal.new-requires-clause-ids
new-requires-clause-ids c κs =
    let named : c.in_ok-ids.ids.items ≡ map (λ (e : EndpointView). e.settings.id) c.args.ends.now.items = c.in_ok-ids.ensures
    ∙ ap (map (λ (e : EndpointView). e.settings.id)) c.deref.ensures.value in
    named_all c.args.ends.now.items c.in_ok-books.books.items c.in_ok-books.ensures c.in_ok-ids.ids.items named

pub new-requires-clause-few : goal.new-requires-clause-few
new-requires-clause-few c κs =
    let all = as_many c.args.ends.now.items c.in_ok-books.books.items c.in_ok-books.ensures in
    let few = c.requires.few in
    (omega (arith, all, few), c.requires.frames)

pub new-requires-clause-homely : goal.new-requires-clause-homely
new-requires-clause-homely c κs = homely_books c.args.ends.now.items c.in_ok-books.books.items c.in_ok-books.ensures c.requires.homely

pub returns : goal.returns
returns c =
    let named : c.in_ok-ids.ids.items ≡ map (λ (e : EndpointView). e.settings.id) c.args.ends.now.items = c.in_ok-ids.ensures
    ∙ ap (map (λ (e : EndpointView). e.settings.id)) c.deref.ensures.value in
    both_ok c.new.result _ _ _ c.new.ensures.places c.new.ensures.seats
    (λ r told sat. places_are c.args.ends.now.items c.in_ok-books.books.items c.in_ok-books.ensures c.in_ok-ids.ids.items c.args.frames c.args.seats r.0
    r.1.items named told sat)
