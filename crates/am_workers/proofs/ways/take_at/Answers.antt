use Rattle.std.proofs.Common.{refl}
use Rattle.am_workers.proofs.Linking.{at_index, ins_set, taken_none, taken_one}
use Rattle.am_workers.proofs.Looking.{others_set}
use Rattle.am_workers.proofs.ways.take_at.Goals as goal

pub returns-in-None-clause-taken : goal.returns-in-None-clause-taken
returns-in-None-clause-taken c =
    let ins = c.args.ins.now.items in let was = c.index_mut-link.result.now in
    taken_none ins c.args.at was c.next.new.self (at_index ins c.args.at was c.requires.at c.index_mut-link.ensures.value) c.in-None.ensures.received

pub returns-in-Some-clause-same : goal.returns-in-Some-clause-same
returns-in-Some-clause-same c =
    let ins = c.args.ins.now.items in let was = c.index_mut-link.result.now in
    ins_set ins c.args.at was c.next.new.self (at_index ins c.args.at was c.requires.at c.index_mut-link.ensures.value) c.in-Some.ensures.same

pub returns-in-Some-clause-taken : goal.returns-in-Some-clause-taken
returns-in-Some-clause-taken c =
    let ins = c.args.ins.now.items in let was = c.index_mut-link.result.now in
    taken_one ins c.args.at was c.next.new.self (record { 0 = c.args.at }) c.in-Some.packet refl
    (at_index ins c.args.at was c.requires.at c.index_mut-link.ensures.value) c.in-Some.ensures.received

pub returns-in-None-clause-same : goal.returns-in-None-clause-same
returns-in-None-clause-same c =
    let ins = c.args.ins.now.items in let was = c.index_mut-link.result.now in
    ins_set ins c.args.at was c.next.new.self (at_index ins c.args.at was c.requires.at c.index_mut-link.ensures.value) c.in-None.ensures.same

pub returns-in-None-clause-others : goal.returns-in-None-clause-others
returns-in-None-clause-others c k apart = others_set c.args.ins.now.items c.args.at c.next.new.self k apart

pub returns-in-Some-clause-others : goal.returns-in-Some-clause-others
returns-in-Some-clause-others c k apart = others_set c.args.ins.now.items c.args.at c.next.new.self k apart
