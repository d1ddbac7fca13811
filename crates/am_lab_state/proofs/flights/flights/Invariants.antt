use Rattle.std.proofs.Common.{◌≡◌, ◌++◌, length}
use Rattle.am_block.specs.Pools.{IsBlock, slots}
use Rattle.am_block.specs.Walk.{from_slot, StandsIn}
use Rattle.am_endpoint_body.specs.Views.{flying_in, seen}
use Rattle.am_lab_state.proofs.flights.flights.Given as goal

abbrev pub invariant-loop-next : goal.invariant-loop-next
invariant-loop-next l = record {
  block : IsBlock l.block;
  stands : StandsIn (slots l.block l.fn.list) l.next;
  copied : l.copy.items ++ seen flying_in l.block.descriptors (from_slot (slots l.block l.fn.list) l.next) ≡ seen flying_in l.block.descriptors
      (slots l.block l.fn.list);
}

abbrev pub decreases-loop-next : goal.decreases-loop-next
decreases-loop-next l = length (from_slot (slots l.block l.fn.list) l.next)
