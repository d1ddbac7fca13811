use Rattle.std.proofs.Common.{◌≡◌, ◌≤◌, ◌<◌, ℕ, length, get_or, Some, None}
use Rattle.am_block.proofs.nodes.Nodes.new.Given as goal

abbrev pub invariant-loop-slot : goal.invariant-loop-slot
invariant-loop-slot l = record {
  at : l.base.ptr ≡ l.row.at;
  len : length l.row.places ≡ l.len;
  done : (k : ℕ) → k < l.slot → get_or l.row.places k None ≡ Some l.node;
  rest : (k : ℕ) → l.slot ≤ k → get_or l.row.places k None ≡ None;
}
