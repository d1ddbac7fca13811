use Rattle.am_workers.specs.WorkerTurns.{AreWholeTo}
use Rattle.am_workers.specs.Ways.{AreKept, HaveRoom}
use Rattle.am_workers.proofs.ways.pump_all.Given as goal

abbrev pub invariant-loop-at : goal.invariant-loop-at
invariant-loop-at l = record {
  kept : AreKept l.initial.outs.items l.outs.items;
  whole : AreWholeTo l.at l.outs.items;
  room : HaveRoom l.initial.outs.items → HaveRoom l.outs.items;
}
