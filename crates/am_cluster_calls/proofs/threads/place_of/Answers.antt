use Rattle.std.proofs.Common.{◌<◌, ◌∙◌, ap, sym, length, Some, eqb-true, rules}
use Rattle.std.proofs.lemmas.Option.{slice_get-get_or}
use Rattle.am_cluster_calls.proofs.threads.place_of.Goals as goal

pub returns-then-has_id : goal.returns-then-has_id
returns-then-has_id c =
    let ts = c.args.threads.now in
    let one = c.index-threads-place.result in
    let lt : c.args.id < length ts = search rules in
    (one, slice_get-get_or ts c.args.id one lt ∙ ap Some (sym c.index-threads-place.is), eqb-true one.id c.args.id (sym c.has_id.ensures ∙ c.if-has_id.true))
