use Rattle.am_workers.proofs.Linking.{at_index, kept_set, room_set}
use Rattle.am_workers.proofs.Looking.{whole_set}
use Rattle.am_workers.proofs.ways.pump_at.Goals as goal

pub returns-clause-kept : goal.returns-clause-kept
returns-clause-kept c =
    let outs = c.args.outs.now.items in let was = c.index_mut-link.result.now in
    kept_set outs c.args.at was c.pump.new.self (at_index outs c.args.at was c.requires c.index_mut-link.ensures.value) c.pump.ensures.same
    c.pump.ensures.emitted

pub returns-clause-room : goal.returns-clause-room
returns-clause-room c =
    let outs = c.args.outs.now.items in let was = c.index_mut-link.result.now in
    room_set outs c.args.at was c.pump.new.self (at_index outs c.args.at was c.requires c.index_mut-link.ensures.value) c.pump.ensures.spare

pub returns-clause-whole : goal.returns-clause-whole
returns-clause-whole c = λ whole. whole_set c.args.outs.now.items c.args.at c.pump.new.self c.pump.ensures.whole whole
