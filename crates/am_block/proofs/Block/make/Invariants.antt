use Rattle.std.proofs.Common.{◌≡◌, ℕ, ◌+◌, ◌<◌, ◌≤◌, length, get_or}
use Rattle.am_block.specs.Lengths.{head}
use Rattle.am_block.specs.Ring.{Ring}
use Rattle.am_block.specs.Pools.{slots}
use Rattle.am_block.specs.declared.List.{List as Which}
use Rattle.am_block.proofs.Filling.{partly}
use Rattle.am_block.proofs.Shifts.{Tagged}
use Rattle.am_block.proofs.Block.make.Given as goal

abbrev pub invariant-loop-head : goal.invariant-loop-head
invariant-loop-head l = record {
  next : length l.nodes.next ≡ l.size + 6;
  prev : length l.nodes.prev ≡ l.size + 6;
  lists : length l.nodes.lists ≡ l.size + 6;
  descriptors : length l.nodes.descriptors ≡ l.size + 6;
  done : (h : ℕ) → l.size ≤ h → h < l.head → (get_or l.nodes.next h 0 ≡ h) × (get_or l.nodes.prev h 0 ≡ h);
}

abbrev pub invariant-loop-slot : goal.invariant-loop-slot
invariant-loop-slot l = record {
  next : length l.nodes.next ≡ l.size + 6;
  prev : length l.nodes.prev ≡ l.size + 6;
  lists : length l.nodes.lists ≡ l.size + 6;
  descriptors : length l.nodes.descriptors ≡ l.size + 6;
  rings : (w : Which) → Ring l.nodes.next l.nodes.prev (head l.size w) (slots (partly l.slot) w);
  tags : Tagged l.nodes.lists (partly l.slot);
}
