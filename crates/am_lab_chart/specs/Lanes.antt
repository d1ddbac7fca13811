-- The bands of the nodes, and the heads of their lanes.
use Rattle.std.specs.Prelude.{ℕ, zero, suc, ◌+◌, ◌-◌, ◌*◌, ◌/◌, ◌&&◌, ◌^◌, nat_lt, nat_le, List, [], ◌∷◌, codes, length, if◌then◌else◌}
use Rattle.std.specs.Fmt.{decimal}
use Rattle.am_names.specs.declared.Tag.{Tag}
use Rattle.am_office_text.specs.Words.{tag}
use Rattle.am_lab_picture.specs.Data.{LaneLists, PictureLists}
use Rattle.am_lab_xml.specs.Trees.{Content}
use Rattle.am_lab_xml.specs.Trees.{Content as Contents}
use Rattle.am_lab_picture.specs.Layout.Layout.{band_left, band_width, bottom, has_interfaces, pages, top, x_of_end, x_of_interface}
use Rattle.am_lab_chart.specs.Captions.{Word, number, titled, word}

-- words in the middle of a lane or a band
unfoldable pub head : Word → ℕ → ℕ → Word → List Word → List Word → Content
head class x y size told words =
    titled (codes "text") (number (codes "x") x ∷ number (codes "y") y ∷ word (codes "class") class ∷ word (codes "font-size") size ∷ []) told words

-- so many times again, behind each page of rows: the rows of a page take 900 pixels, and the heads behind them 18
abbrev pub repeated : ℕ → List Word → List Word → ℕ → Content
repeated x told words zero = Contents.Nothing
repeated x told words (suc page) =
    Contents.Both (repeated x told words page) (head (codes "again") x (top + 912 + 918 * page) (codes "9") told words)

abbrev pub pages_of : PictureLists → ℕ
pages_of p = pages p (length p.rows)

-- ---- endpoints

-- tags of many digits are written small, so that they fit into the lane
unfoldable pub tag_size : Tag → List ℕ
tag_size t = if nat_le (10 ^ 11) t.0 && nat_lt t.0 18446744073709551615 then codes "5" else codes "9"

abbrev pub end_title : LaneLists → List Word
end_title lane = codes "endpoint " ∷ decimal lane.id.0 ∷ codes " of node " ∷ decimal lane.node.0 ∷ codes ", tag " ∷ tag lane.tag ∷ []

abbrev pub end_words : LaneLists → List Word
end_words lane = codes "endpoint " ∷ decimal lane.id.0 ∷ []

abbrev pub tag_words : LaneLists → List Word
tag_words lane = codes "tag " ∷ tag lane.tag ∷ []

-- an endpoint's number and tag, and its number again
unfoldable pub end_head : PictureLists → ℕ → LaneLists → Content
end_head p left lane =
    Contents.Both (head (codes "head") x (top - 20) (codes "9") (end_title lane) (end_words lane))
    (Contents.Both (head (codes "head") x (top - 8) (tag_size lane.tag) (end_title lane) (tag_words lane))
    (repeated x (end_title lane) (end_words lane) (pages_of p)))
  where
    x : ℕ
    x = x_of_end p left lane.id

-- ---- nodes

abbrev pub node_words : ℕ → List Word
node_words node = codes "node " ∷ decimal node ∷ []

abbrev pub interface_title : ℕ → List Word
interface_title node = codes "interface of node " ∷ decimal node ∷ []

abbrev pub interface_words : ℕ → List Word
interface_words node = codes "i" ∷ decimal node ∷ []

unfoldable pub band : PictureLists → ℕ → ℕ → Content
band p left node =
    Contents.Both
    (Contents.Empty (codes "rect")
    (word (codes "class") (codes "band") ∷ number (codes "x") (band_left p left node) ∷ number (codes "y") (top - 36) ∷
    number (codes "width") (band_width p node) ∷ number (codes "height") (bottom p - top + 44) ∷ []))
    (head (codes "head") (band_left p left node + band_width p node / 2) (top - 42) (codes "12") (node_words node) (node_words node))

-- the interface's dotted lane
unfoldable pub dotted : PictureLists → ℕ → List Word → Content
dotted p x told =
    titled (codes "line")
    (word (codes "class") (codes "lane") ∷ number (codes "x1") x ∷ number (codes "y1") top ∷ number (codes "x2") x ∷ number (codes "y2") (bottom p) ∷ [])
    told []

-- its number, its lane, and its number again
unfoldable pub interface_lane : PictureLists → ℕ → ℕ → Content
interface_lane p x node =
    Contents.Both (head (codes "head") x (top - 8) (codes "9") (interface_title node) (interface_words node))
    (Contents.Both (dotted p x (interface_title node)) (repeated x (interface_title node) (interface_words node) (pages_of p)))

abbrev pub interface : PictureLists → ℕ → ℕ → Content
interface p left node =
    if has_interfaces p.network then interface_lane p (x_of_interface p left (record { 0 = node })) node else Contents.Nothing

abbrev pub node_lane : PictureLists → ℕ → ℕ → Content
node_lane p left node = Contents.Both (band p left node) (interface p left node)

-- the bands of so many nodes
abbrev pub nodes : PictureLists → ℕ → ℕ → Content
nodes p left zero = Contents.Nothing
nodes p left (suc node) = Contents.Both (nodes p left node) (node_lane p left node)
