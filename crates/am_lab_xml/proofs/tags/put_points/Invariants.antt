use Rattle.std.proofs.Common.{◌≡◌, ◌++◌, flat_map, take}
use Rattle.am_lab_xml.specs.Attributes.{point}
use Rattle.am_lab_xml.specs.Escaped.{escaped}
use Rattle.am_lab_xml.specs.declared.tags.Point.{Point}
use Rattle.am_lab_xml.proofs.tags.put_points.Given as goal

abbrev pub invariant-loop-place : goal.invariant-loop-place
invariant-loop-place l = l.out.items ≡ l.fn.out.items ++ flat_map (λ (p : Point). escaped (point p)) (take l.place-index l.places)
