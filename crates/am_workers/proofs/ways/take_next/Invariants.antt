use Rattle.std.proofs.Common.{◌≡◌, ◌<◌, length}
use Rattle.am_names.specs.declared.NodeId.{NodeId}
use Rattle.am_workers.specs.AtWork.{SameIns, taken_by}
use Rattle.am_workers.specs.WorkerTurns.{NoneIsKnown, place_on}
use Rattle.am_workers.proofs.Looking.{RestIsSame}
use Rattle.am_workers.proofs.ways.take_next.Given as goal

abbrev pub invariant-loop-step : goal.invariant-loop-step
invariant-loop-step l = record {
  within : l.from < l.count;
  all : l.count ≡ length l.ins.items;
  same : SameIns l.initial.ins.items l.ins.items;
  here : l.from ≡ place_on l.initial.from (length l.initial.ins.items) l.step;
  none : NoneIsKnown l.initial.ins.items l.initial.from l.step;
  rest : RestIsSame l.initial.ins.items l.ins.items l.initial.from l.step;
  taken : (node : NodeId) → taken_by l.ins.items node ≡ taken_by l.initial.ins.items node;
}
