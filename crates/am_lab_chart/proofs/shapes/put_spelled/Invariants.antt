use Rattle.std.proofs.Common.{◌≡◌, ◌++◌, flat_map, take}
use Rattle.am_lab_chart.specs.Shapes.{spelled_byte}
use Rattle.am_lab_chart.proofs.shapes.put_spelled.Given as goal

abbrev pub invariant-loop-byte : goal.invariant-loop-byte
invariant-loop-byte l = l.out.items ≡ l.fn.out.items ++ flat_map (spelled_byte l.front) (take l.byte-index l.text)
