use Rattle.std.specs.Prelude.{slice_set}
use Rattle.std.proofs.Common.{◌≡◌, map, sym, ap, ◌∙◌, arith}
use Rattle.std.proofs.lemmas.List.{length-set}
use Rattle.am_lemmas.proofs.Lists.{slice_get-set_elsewhere}
use Rattle.am_machine_journal.proofs.Lists.{index_map, map_set}
use Rattle.am_cluster_scripted.specs.Links.{fed, nothing, released_in}
use Rattle.am_cluster_scripted.proofs.Rooms.{room_elsewhere}
use Rattle.am_cluster_scripted.proofs.links.feed_at.Goals as goal

pub returns-clause-fed : goal.returns-clause-fed
returns-clause-fed c =
    let vs = c.args.table.now.all.items in
    let k = c.args.index in
    let was = c.index_mut-link.result.now in
    let more : released_in c.emit.new.self ≡ fed c.args.place c.args.fault c.args.number (released_in was) = λ i. record {
      numbers = c.emit.ensures.released i;
      held = c.emit.ensures.held i;
    } in
    map_set released_in vs k c.emit.new.self
    ∙ ap (slice_set (map released_in vs) k)
    (more
    ∙ ap (fed c.args.place c.args.fault c.args.number)
    (ap released_in c.index_mut-link.ensures.value ∙ sym (index_map released_in vs k was nothing c.requires.within)))

pub returns-clause-spared : goal.returns-clause-spared
returns-clause-spared c =
    let vs = c.args.table.now.all.items in
    let k = c.args.index in
    record {
      within = omega (arith, length-set vs k c.emit.new.self, c.requires.within);
      others = room_elsewhere vs (slice_set vs k c.emit.new.self) k (λ j apart. c.requires.room j)
          (λ j apart. slice_get-set_elsewhere vs k j c.emit.new.self apart);
    }
