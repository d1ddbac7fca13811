-- The text of the shapes spells them.
use Rattle.std.proofs.Common.{◌≡◌, Bool, true, false, codes, refl, if◌then◌else◌, [], flat_map}
use Rattle.am_lab_picture.specs.Data.{PictureLists}
use Rattle.am_lab_picture.specs.Layout.Layout.{has_text}
use Rattle.am_lab_xml.specs.Escaped.{escaped_byte}
use Rattle.am_lab_xml.specs.Trees.{attribute, each, printed}
use Rattle.am_lab_xml.specs.Trees.{Content as Contents}
use Rattle.am_lab_chart.specs.declared.tables.TheConstants.{DEFINITIONS}
use Rattle.am_lab_chart.specs.Drawing.{definitions, scale, shapes}
use Rattle.am_lab_chart.specs.Legends.{arrow_head, head_attributes, shape}
use Rattle.am_lab_chart.specs.Shapes.{scaled, spelled, spelled_byte}
use Rattle.am_lab_chart.specs.Tables.{call_shapes, ending_shapes, event_shapes, fate_shapes, heads, legend_shapes}

by_size : (large : Bool) →
    flat_map (spelled_byte (if large then codes "\" transform=\"scale(1)\"><path class=\"area\" d=\""
    else codes "\" transform=\"scale(.4)\"><path class=\"area\" d=\"")) DEFINITIONS.now
    ≡ printed (Contents.Element (codes "defs") [] (Contents.Both (shapes (if large then codes "scale(1)" else codes "scale(.4)")) (each arrow_head heads)))
unfolding spelled_byte shapes call_shapes event_shapes ending_shapes fate_shapes legend_shapes heads shape arrow_head head_attributes attribute escaped_byte
by_size true = refl
by_size false = refl

pub definitions_spelled : (p : PictureLists) → spelled (scaled p) DEFINITIONS.now ≡ printed (definitions p)
unfolding spelled scaled definitions scale
definitions_spelled p = by_size (has_text p)
