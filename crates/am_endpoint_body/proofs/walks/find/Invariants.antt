use Rattle.std.proofs.Common.{◌≡◌, length}
use Rattle.std.specs.List.{find}
use Rattle.am_block.specs.Pools.{IsBlock, slots}
use Rattle.am_block.specs.Walk.{from_slot, StandsIn}
use Rattle.am_endpoint_body.specs.Walks.{is_sought_at}
use Rattle.am_endpoint_body.proofs.walks.find.Given as goal

abbrev pub invariant-loop-next : goal.invariant-loop-next
invariant-loop-next l = record {
  block : IsBlock l.block;
  stands : StandsIn (slots l.block l.fn.list) l.next;
  found : find (λ s. is_sought_at l.sought l.block s) (slots l.block l.fn.list) ≡ find (λ s. is_sought_at l.sought l.block s)
      (from_slot (slots l.block l.fn.list) l.next);
}

abbrev pub decreases-loop-next : goal.decreases-loop-next
decreases-loop-next l = length (from_slot (slots l.block l.fn.list) l.next)
