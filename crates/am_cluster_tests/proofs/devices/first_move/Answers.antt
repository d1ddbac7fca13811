use Rattle.std.proofs.Common.{length, refl}
use Rattle.std.proofs.lemmas.Option.{slice_get_read}
use Rattle.am_cluster_tests.proofs.devices.first_move.Goals as goal

pub turn_with-requires : goal.turn_with-requires
turn_with-requires c =
    let crews = c.in-Ok.crews.items in let item = c.in-Some.ensures.item in
    record { crew = c.in-Ok.ensures.crews.each 0 c.in-Some.crew.now (slice_get_read crews (length crews) 0 c.in-Some.crew.now refl item.3.0 item.1) }
