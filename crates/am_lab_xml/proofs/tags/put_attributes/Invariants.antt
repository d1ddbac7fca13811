use Rattle.std.proofs.Common.{◌≡◌, ◌++◌, drop, map}
use Rattle.am_lab_xml.specs.Attributes.{attribute_of}
use Rattle.am_lab_xml.specs.Trees.{attributes}
use Rattle.am_lab_xml.proofs.tags.put_attributes.Given as goal

abbrev pub invariant-loop-one : goal.invariant-loop-one
invariant-loop-one l = l.out.items ++ attributes (map attribute_of (drop l.one-index l.given)) ≡ l.fn.out.items ++ attributes (map attribute_of l.given)
