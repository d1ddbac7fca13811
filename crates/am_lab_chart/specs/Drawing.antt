-- The whole picture as a tree, and as a text.
use Rattle.std.specs.Prelude.{ℕ, ◌-◌, List, [], ◌∷◌, codes, if◌then◌else◌}
use Rattle.am_lab_picture.specs.Data.{PictureLists}
use Rattle.am_lab_xml.specs.Attributes.{place}
use Rattle.am_lab_xml.specs.Trees.{Content, Named, each, printed}
use Rattle.am_lab_xml.specs.Trees.{Content as Contents}
use Rattle.am_lab_chart.specs.declared.tables.TheConstants.{STYLE}
use Rattle.am_lab_chart.specs.Tables.{bar_meanings, call_meanings, call_shapes, ending_shapes, event_meanings, event_shapes, fate_meanings, fate_shapes, heads}
use Rattle.am_lab_chart.specs.Tables.{legend_shapes, way_meanings}
use Rattle.am_lab_picture.specs.Layout.Layout.{has_text, height, left_edge, width}
use Rattle.am_lab_chart.specs.Captions.{holding, joined, number, word}
use Rattle.am_lab_chart.specs.Legends.{arrow_head, below, meanings, shape, style}
use Rattle.am_lab_chart.specs.Lanes.{end_head, nodes}
use Rattle.am_lab_chart.specs.Bars.{lane_bars}
use Rattle.am_lab_chart.specs.Ways.{drawn_arrow, drawn_cross}
use Rattle.am_lab_chart.specs.Rows.{placed_row}

-- signs are small, and lines thin, where rows have no text
unfoldable pub scale : PictureLists → List ℕ
scale p = if has_text p then codes "scale(1)" else codes "scale(.4)"

unfoldable pub size_class : PictureLists → List ℕ
size_class p = if has_text p then codes "large" else codes "small"

abbrev pub description : List ℕ → Content
description summary = holding (codes "desc") [] summary

-- the shapes of all signs
unfoldable pub shapes : List ℕ → Content
shapes scaled =
    Contents.Both (each (shape scaled) call_shapes)
    (Contents.Both (each (shape scaled) event_shapes)
    (Contents.Both (each (shape scaled) ending_shapes) (Contents.Both (each (shape scaled) fate_shapes) (each (shape scaled) legend_shapes))))

unfoldable pub definitions : PictureLists → Content
definitions p = Contents.Element (codes "defs") [] (Contents.Both (shapes (scale p)) (each arrow_head heads))

unfoldable pub page : ℕ → ℕ → Content
page wide high =
    Contents.Empty (codes "rect") (word (codes "class") (codes "page") ∷ number (codes "width") wide ∷ number (codes "height") high ∷ [])

-- what is the same in every picture
unfoldable pub front : PictureLists → Content
front p = Contents.Both (description p.summary) (Contents.Both (style STYLE.now) (definitions p))

abbrev pub totals : ℕ → List ℕ → Content
totals y summary = holding (codes "text") (number (codes "x") 20 ∷ number (codes "y") y ∷ word (codes "class") (codes "plain") ∷ []) summary

-- up to five lines, of what occurs in the picture, each below the one before it, and the summary below the last
unfoldable pub legend : PictureLists → Content
legend p =
    Contents.Both (meanings p 20 18 fate_meanings)
    (Contents.Both (meanings p 20 bars bar_meanings)
    (Contents.Both (meanings p 20 calls call_meanings)
    (Contents.Both (meanings p 20 events event_meanings)
    (Contents.Both (meanings p 20 ways way_meanings) (totals (below p ways way_meanings - 4) p.summary)))))
  where
    bars : ℕ
    bars = below p 18 fate_meanings

    calls : ℕ
    calls = below p bars bar_meanings

    events : ℕ
    events = below p calls call_meanings

    ways : ℕ
    ways = below p events event_meanings

-- what stands behind the rows
unfoldable pub lanes_of : PictureLists → ℕ → Content
lanes_of p left =
    Contents.Both (nodes p left p.nodes) (Contents.Both (each (lane_bars p left) p.lanes) (each (end_head p left) p.lanes))

-- the ways of the packets, and the rows of the entries
unfoldable pub entries_of : PictureLists → ℕ → Content
entries_of p left =
    Contents.Both (each (drawn_arrow p left) p.arrows) (Contents.Both (each (drawn_cross p left) p.crosses) (each (placed_row p left) p.rows))

unfoldable pub inside : PictureLists → ℕ → Content
inside p left =
    Contents.Both (front p) (Contents.Both (page (width p left) (height p)) (Contents.Both (legend p) (Contents.Both (lanes_of p left) (entries_of p left))))

abbrev pub svg_attributes : List ℕ → ℕ → ℕ → List Named
svg_attributes class wide high =
    word (codes "xmlns") (codes "http://www.w3.org/2000/svg") ∷ word (codes "class") class ∷
    number (codes "width") wide ∷ number (codes "height") high ∷ word (codes "viewBox") (joined (place [] 0 0 ∷
    place (codes " ") wide high ∷ [])) ∷ word (codes "font-family") (codes "sans-serif") ∷
    word (codes "font-size") (codes "9") ∷ []

-- a picture whose first band begins at `left`
unfoldable pub drawing : PictureLists → ℕ → Content
drawing p left = Contents.Element (codes "svg") (svg_attributes (size_class p) (width p left) (height p)) (inside p left)

-- the text of a picture
abbrev pub svg_of : PictureLists → List ℕ
svg_of p = printed (Contents.Both (drawing p (left_edge p)) Contents.Break)
