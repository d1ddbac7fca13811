use Rattle.std.proofs.Common.{Some, ap, sym, ◌∙◌}
use Rattle.std.proofs.lemmas.Option.{slice_get-get_or}
use Rattle.am_machine.proofs.Apart.{node_found, node_missing}
use Rattle.am_machine.proofs.Places.{found}
use Rattle.am_machine.proofs.ways.node_of.Goals as goal

pub returns-in-Some : goal.returns-in-Some
returns-in-Some c =
    let vs = c.args.ends.now in
    let place = c.in-Some.place in
    let one = c.index-ends-place.result in
    let at = sym c.place_of.ensures ∙ c.in-Some.is in
    let f = found vs c.args.id place at in
    ap Some c.node.ensures ∙ node_found vs c.args.id place one at (slice_get-get_or vs place one f.within ∙ ap Some (sym c.index-ends-place.is))

pub returns-in-None : goal.returns-in-None
returns-in-None c = node_missing c.args.ends.now c.args.id (sym c.place_of.ensures ∙ c.in-None.is)
