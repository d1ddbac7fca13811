use Rattle.std.proofs.Common.{ℕ, ◌<◌, length, sym, subst}
use Rattle.am_workers.proofs.Linking.{at_index, outs_set, room_but, sent_more}
use Rattle.am_workers.proofs.ways.send_packet.Goals as goal

pub returns-clause-same : goal.returns-clause-same
returns-clause-same c =
    let outs = c.args.outs.now.items in let at = c.way_of-at.result in let was = c.index_mut-link.result.now in
    outs_set outs at was c.offer_ready.new.self
    (at_index outs at was (subst (λ (n : ℕ). n < length outs) (sym c.way_of-at.ensures) c.requires.to) c.index_mut-link.ensures.value)
    c.offer_ready.ensures.same

pub returns-clause-room : goal.returns-clause-room
returns-clause-room c = room_but c.args.outs.now.items c.way_of-at.result c.offer_ready.new.self c.requires.room

pub returns-clause-sent : goal.returns-clause-sent
returns-clause-sent c =
    let outs = c.args.outs.now.items in let at = c.way_of-at.result in let was = c.index_mut-link.result.now in
    sent_more outs at was c.offer_ready.new.self c.args.packet c.way_of-at.ensures
    (at_index outs at was (subst (λ (n : ℕ). n < length outs) (sym c.way_of-at.ensures) c.requires.to) c.index_mut-link.ensures.value)
    c.offer_ready.ensures.emitted

pub offer_ready-requires : goal.offer_ready-requires
offer_ready-requires c =
    let outs = c.args.outs.now.items in let at = c.way_of-at.result in let was = c.index_mut-link.result.now in
    record {
      spare = c.requires.room at was
          (at_index outs at was (subst (λ (n : ℕ). n < length outs) (sym c.way_of-at.ensures) c.requires.to) c.index_mut-link.ensures.value);
    }
