use Rattle.std.proofs.Common.{◌≡◌, map, sym, ap, ◌∙◌, arith}
use Rattle.std.proofs.lemmas.List.{length-map}
use Rattle.am_lemmas.proofs.Lists.{slice_get-set_elsewhere}
use Rattle.am_machine_journal.proofs.Lists.{index_map, map_set, set_same}
use Rattle.am_cluster_scripted.specs.Links.{released_in}
use Rattle.am_cluster_scripted.proofs.Rooms.{on_ok, room_written}
use Rattle.am_cluster_scripted.proofs.links.make_room_at.Goals as goal

pub returns-clause-same : goal.returns-clause-same
returns-clause-same c =
    let vs = c.args.links.now.items in
    let was = c.index_mut-link.result.now in
    let all = length-map vs released_in in
    let same : released_in c.room.new.self ≡ released_in was = λ i. record { numbers = c.room.ensures.released i; held = c.room.ensures.held i } in
    map_set released_in vs c.args.index c.room.new.self
    ∙ set_same (map released_in vs) c.args.index (released_in c.room.new.self) (released_in was)
    (same ∙ ap released_in c.index_mut-link.ensures.value ∙ sym (index_map released_in vs c.args.index was (released_in was) c.requires))
    (omega (arith, all, c.requires))

pub returns-clause-room : goal.returns-clause-room
returns-clause-room c =
    on_ok c.room.result c.room.ensures.spare (room_written c.args.links.now.items c.args.index c.room.new.self)

pub returns-clause-others : goal.returns-clause-others
returns-clause-others c = λ k apart. slice_get-set_elsewhere c.args.links.now.items c.args.index k c.room.new.self apart
