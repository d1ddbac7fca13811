use Rattle.std.proofs.Common.{rules, ◌≡◌, ◌+◌, length, ap, arith}
use Rattle.am_scenario_types.specs.Lists.{ScenarioLists}
use Rattle.am_cluster_opening.specs.Node.Openings.{ArePlacesOf}
use Rattle.am_cluster_opening.proofs.NodesOpened.{ends_books, ends_few, ends_homely, opening_is}
use Rattle.am_cluster_opening.proofs.node.nodes.open_node.Goals as goal

pub overflow_cast-count : goal.overflow_cast-count
overflow_cast-count c =
    let n : c.len.result ≡ length c.in_ok-read.read.threads.items = search rules in
    let low = c.in_ok-read.ensures.few in
    omega (arith, low, n)

pub overflow_add-count : goal.overflow_add-count
overflow_add-count c =
    let n : c.len.result ≡ length c.in_ok-read.read.threads.items = search rules in
    let low = c.in_ok-read.ensures.few in
    omega (arith, low, n)

pub open_places-requires-clause-books : goal.open_places-requires-clause-books
open_places-requires-clause-books c = ends_books c.args.scenario.now c.args.part c.requires.lawful c.requires.packet c.requires.part

pub open_places-requires-clause-homely : goal.open_places-requires-clause-homely
open_places-requires-clause-homely c = ends_homely c.args.scenario.now c.args.part c.requires.lawful c.requires.packet c.requires.part

pub open_places-requires-clause-few : goal.open_places-requires-clause-few
open_places-requires-clause-few c = ends_few c.args.scenario.now c.args.part c.requires.lawful c.requires.packet c.requires.part

pub open_places-requires-clause-frames : goal.open_places-requires-clause-frames
open_places-requires-clause-frames c =
    let same = ap (λ (w : ScenarioLists). w.frames) c.scenario.view_is in
    let most = c.requires.lawful.settings.frames.1 in
    omega (arith, same, most)

pub returns : goal.returns
returns c =
    let p = c.args.part in
    let r = c.in_ok-read.read in
    let frames = ap (λ (w : ScenarioLists). w.frames) c.scenario.view_is in
    let n : c.len.result ≡ length r.threads.items = search rules in
    opening_is c.args.scenario.now p c.requires.lawful c.requires.packet c.requires.part r c.in_ok-places.places c.in_ok-places.seats c.in_ok-read.ensures
    (coe 0 1 (i. ArePlacesOf p.ends.items (frames i) (n i + 2) c.in_ok-places.places c.in_ok-places.seats.items) c.in_ok-places.ensures)
