use Rattle.std.proofs.Common.{◌≡◌, length}
use Rattle.am_block.specs.Pools.{IsBlock}
use Rattle.am_block.specs.Walk.{from_slot, StandsIn}
use Rattle.am_endpoint_body.proofs.Marked.{all_answered, answered_from}
use Rattle.am_endpoint_body.proofs.walks.answer_flights.Given as goal

abbrev pub invariant-loop-next : goal.invariant-loop-next
invariant-loop-next l = record {
  block : IsBlock l.block;
  stands : StandsIn l.block.in_flight l.next;
  answered : answered_from l.request l.block l.next ≡ all_answered l.request l.fn.block;
}

abbrev pub decreases-loop-next : goal.decreases-loop-next
decreases-loop-next l = length (from_slot l.block.in_flight l.next)
