use Rattle.std.proofs.Common.{◌≡◌, ◌+◌, ◌≤◌, ◌++◌, map, take, length}
use Rattle.std.specs.Prelude.{vec_len, vec_capacity}
use Rattle.am_wire_relay.proofs.stamping.release_stamped.Given as goal

abbrev pub invariant-loop-item : goal.invariant-loop-item
invariant-loop-item g l = record {
  items : l.released.items ≡ l.fn.released.items ++ map (g.S.Stamping.restamped l.stamp) (take l.item-index l.freed);
  capacity : vec_capacity l.released ≡ vec_capacity l.fn.released;
  room : vec_len l.released + length l.freed ≤ vec_capacity l.released + l.item-index;
}
