use Rattle.std.proofs.Common.{refl}
use Rattle.am_cluster_schedule.proofs.Linked.{at_index}
use Rattle.am_cluster_schedule.proofs.turns.thread_turn_at.Goals as goal

pub turn_as_thread-requires : goal.turn_as_thread-requires
turn_as_thread-requires c =
    let was = c.index_mut-worker.result.now in
    record { at_work = c.requires.at_work was (at_index c.args.threads.now.items c.args.at was c.requires.at c.index_mut-worker.ensures.value) }

pub returns : goal.returns
returns c =
    let was = c.index_mut-worker.result.now in let t = c.turn_as_thread in
    record {
      before = was;
      after = t.new.worker;
      here = at_index c.args.threads.now.items c.args.at was c.requires.at c.index_mut-worker.ensures.value;
      turned = record { turn = t.ensures.turn; stopped = t.ensures.stopped };
      at_work = t.ensures.at_work;
      same = record { seat = t.ensures.seat; thread = t.ensures.thread };
      others = refl;
    }
