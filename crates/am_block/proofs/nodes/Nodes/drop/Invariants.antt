use Rattle.std.proofs.Common.{◌≡◌, ◌≤◌, ◌<◌, ℕ, length, get_or, None}
use Rattle.am_block_row.specs.Places.{IsFilled}
use Rattle.am_block.proofs.nodes.Nodes.drop.Given as goal

abbrev pub invariant-loop-slot : goal.invariant-loop-slot
invariant-loop-slot l = record {
  at : l.base.ptr ≡ l.row.at;
  len : length l.row.places ≡ l.len;
  done : (k : ℕ) → k < l.slot → get_or l.row.places k None ≡ None;
  rest : (k : ℕ) → l.slot ≤ k → k < l.len → IsFilled l.row.places k;
}
