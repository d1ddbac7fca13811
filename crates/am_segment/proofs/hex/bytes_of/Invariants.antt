use Rattle.std.proofs.Common.{◌≡◌, ◌+◌, ◌*◌, length}
use Rattle.am_segment.specs.Hex.{bytes_of}
use Rattle.am_segment.proofs.Spelled.{after}
use Rattle.am_segment.proofs.hex.bytes_of.Given as goal

abbrev pub invariant-loop-high : goal.invariant-loop-high
invariant-loop-high l = (after l.bytes.items (bytes_of l.rest) ≡ bytes_of l.word) × (2 * length l.bytes.items + length l.rest ≡ length l.word)

abbrev pub decreases-loop-high : goal.decreases-loop-high
decreases-loop-high l = length l.rest
