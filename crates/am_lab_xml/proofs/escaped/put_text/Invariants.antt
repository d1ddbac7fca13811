use Rattle.std.proofs.Common.{◌≡◌, ◌++◌, take}
use Rattle.am_lab_xml.specs.Escaped.{escaped}
use Rattle.am_lab_xml.proofs.escaped.put_text.Given as goal

abbrev pub invariant-loop-byte : goal.invariant-loop-byte
invariant-loop-byte l = l.out.items ≡ l.fn.out.items ++ escaped (take l.byte-index l.text)
