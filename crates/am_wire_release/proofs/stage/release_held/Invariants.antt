use Rattle.std.proofs.Common.{◌≡◌, ◌+◌, ◌≤◌, ◌++◌, take, length}
use Rattle.std.specs.Prelude.{vec_len, vec_capacity}
use Rattle.std.specs.List.{flat_map}
use Rattle.am_wire_release.specs.Stages.{falls_due}
use Rattle.am_wire_release.proofs.stage.release_held.Given as goal

abbrev pub invariant-loop-one : goal.invariant-loop-one
invariant-loop-one g l = record {
  items : l.released.items ≡ l.fn.released.items ++ flat_map (falls_due l.place) (take l.one-index l.held);
  len : vec_len l.released ≤ vec_len l.fn.released + l.one-index;
  capacity : vec_capacity l.released ≡ vec_capacity l.fn.released;
  room : vec_len l.released + length l.held ≤ vec_capacity l.released + l.one-index;
}
