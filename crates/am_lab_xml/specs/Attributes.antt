-- What the attributes of the program stand for.
use Rattle.std.specs.Prelude.{ℕ, List, ◌++◌, codes, flat_map}
use Rattle.std.specs.Fmt.{decimal}
use Rattle.am_lab_xml.specs.declared.tags.Point.{Point}
use Rattle.am_lab_xml.specs.declared.tags.Attribute.{Attribute}
use Rattle.am_lab_xml.specs.declared.tags.Attribute.TheVariants as Attributes
use Rattle.am_lab_xml.specs.Trees.{Named}

-- a place: a text, and two numbers with a space between them
unfoldable pub place : List ℕ → ℕ → ℕ → List ℕ
place lead x y = lead ++ decimal x ++ codes " " ++ decimal y

abbrev pub point : Point → List ℕ
point p = place p.lead.now p.x p.y

abbrev pub points : List Point → List ℕ
points places = flat_map point places

abbrev pub attribute_of : Attribute → Named
attribute_of (Attributes.Word name value) = record { name = name.now; value = value.now }
attribute_of (Attributes.Number name number) = record { name = name.now; value = decimal number }
attribute_of (Attributes.Path name places) = record { name = name.now; value = points places.now }
