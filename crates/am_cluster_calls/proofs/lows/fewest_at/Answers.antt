use Rattle.std.specs.Prelude.{option_map}
use Rattle.std.proofs.Common.{◌∙◌, ap, sym, map, arith, Some}
use Rattle.std.proofs.lemmas.List.{length-map}
use Rattle.std.proofs.lemmas.Option.{slice_get_within, slice_get-get_or}
use Rattle.am_lemmas.proofs.Lists.{slice_get-map_Some}
use Rattle.am_cluster_drainer.specs.Reads.{left_of}
use Rattle.am_cluster_calls.specs.Threads.{scripted_in}
use Rattle.am_cluster_calls.proofs.Lowest.{fewest_low}
use Rattle.am_cluster_calls.proofs.lows.fewest_at.Goals as goal

pub returns-in-Some : goal.returns-in-Some
returns-in-Some c =
    let ts = c.args.threads.now in
    let k = c.in-Some.place in
    let next = c.in-Some.ensures in
    let within = slice_get_within (map scripted_in ts) k next.one next.at_place in
    let len = length-map ts scripted_in in
    let one = c.index-threads-place.result in
    fewest_low (map scripted_in ts) c.args.mark.made c.args.mark.from k (scripted_in one) (option_map left_of c.left_to.result) c.requires next
    (slice_get-map_Some scripted_in ts k one (slice_get-get_or ts k one (omega (arith, within, len)) ∙ ap Some (sym c.index-threads-place.is)))
    c.left_to.ensures
