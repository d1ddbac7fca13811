-- Where things lie in the picture. All lengths are pixels; x grows to the right, y downwards.
use Rattle.std.specs.Prelude.{ℕ, ◌≤◌, Bool, true, false, ◌+◌, ◌*◌, ◌/◌, ◌%◌, ◌&&◌, ◌==◌, nat_lt, nat_le, min, max, List, [], ◌∷◌, length, count_by}
use Rattle.std.specs.Prelude.{if◌then◌else◌}
use Rattle.am_names.specs.declared.EndpointId.{EndpointId}
use Rattle.am_names.specs.declared.NodeId.{NodeId}
use Rattle.am_scenario_types.specs.declared.parts.Network.{Network}
use Rattle.am_scenario_types.specs.declared.parts.Network.TheVariants as Networks
use Rattle.am_check_lines.specs.Grammar.{printed}
use Rattle.am_lab_picture.specs.Data.{LaneLists, PictureLists}
use Rattle.am_lab_picture.specs.Rows.{AreInOrder, has_row, rows_before}
use Rattle.am_lab_picture.specs.declared.data.PlacedRow.{PlacedRow}

-- what is drawn has at most 20,000 rows, in the order of their lines, and at most 256 lanes
pub record IsDrawable (p : PictureLists) : Type 0 where
  pub rows : length p.rows ≤ 20000
  pub order : AreInOrder p.rows
  pub lanes : length p.lanes ≤ 256

-- ---- rows: 18 pixels each, or 3 pixels and no text where there are more than 400

abbrev pub has_text : PictureLists → Bool
has_text p = nat_le (length p.rows) 400

-- of so many rows, how many times the heads of the lanes stand behind a page of them: of 50 rows, or of 300 low ones
abbrev pub pages : PictureLists → ℕ → ℕ
pages p rows = if has_text p then rows / 50 else rows / 300

-- the height of so many rows, with 18 pixels for the heads behind each page
abbrev pub height_of : PictureLists → ℕ → ℕ
height_of p rows = (if has_text p then 18 * rows else 3 * rows) + 18 * pages p rows

abbrev pub half_row : PictureLists → ℕ
half_row p = if has_text p then 9 else 1

-- the upper edge of the first row, and the lower edge of the last
abbrev pub top : ℕ
top = 190

unfoldable pub bottom : PictureLists → ℕ
bottom p = top + height_of p (length p.rows)

-- the upper edge of a line's row, or where it would stand: below the rows of earlier lines
abbrev pub edge_of : PictureLists → ℕ → ℕ
edge_of p line = top + height_of p (rows_before p.rows line)

-- The y of a line of the report: the middle of its row. A line without one is between the rows of earlier lines and those of later
-- ones, so what lies in front of the first row is at the upper edge, and what lies behind the last at the lower edge.
unfoldable pub y_of : PictureLists → ℕ → ℕ
y_of p line = if has_row p.rows line then edge_of p line + half_row p else edge_of p line

-- ---- lanes: each node's endpoints, ascending, and its interface: on their right at even nodes, on their left at odd ones

abbrev pub has_interfaces : Network → Bool
has_interfaces Networks.Direct = false
has_interfaces Networks.Packet = true

abbrev pub interface_width : PictureLists → ℕ
interface_width p = if has_interfaces p.network then 44 else 0

abbrev pub is_odd : ℕ → Bool
is_odd node = node % 2 == 1

-- the endpoints of the nodes in front of a node, and its own
abbrev pub ends_before : List LaneLists → ℕ → ℕ
ends_before lanes node = count_by (λ (lane : LaneLists). nat_lt lane.node.0 node) lanes

abbrev pub ends_at : List LaneLists → ℕ → ℕ
ends_at lanes node = count_by (λ (lane : LaneLists). lane.node.0 == node) lanes

-- the endpoints of a node that stand in front of one
abbrev pub ends_left : List LaneLists → ℕ → ℕ → ℕ
ends_left lanes node end = count_by (λ (lane : LaneLists). (lane.node.0 == node) && nat_lt lane.id.0 end) lanes

-- the node of an endpoint
abbrev pub node_of : List LaneLists → ℕ → ℕ
node_of [] end = 0
node_of (lane ∷ lanes) end = if lane.id.0 == end then lane.node.0 else node_of lanes end

-- what the interfaces of the nodes in front of a node take, and the gaps behind their bands
abbrev pub gaps : PictureLists → ℕ → ℕ
gaps p node = if has_interfaces p.network then 78 * node else 34 * node

-- the left edge of a node's band, where that of the first node is `left`
unfoldable pub band_left : PictureLists → ℕ → ℕ → ℕ
band_left p left node = left + gaps p node + 66 * ends_before p.lanes node

unfoldable pub band_width : PictureLists → ℕ → ℕ
band_width p node = 66 * ends_at p.lanes node + interface_width p

-- what an interface takes in front of a node's endpoints
abbrev pub skipped : PictureLists → ℕ → ℕ
skipped p node = if is_odd node then interface_width p else 0

-- the left edge of an endpoint's lane at its node; its middle is 33 further
unfoldable pub left_at : PictureLists → ℕ → ℕ → ℕ → ℕ
left_at p left node end = band_left p left node + skipped p node + 66 * ends_left p.lanes node end

abbrev pub left_of : PictureLists → ℕ → EndpointId → ℕ
left_of p left end = left_at p left (node_of p.lanes end.0) end.0

abbrev pub x_of_end : PictureLists → ℕ → EndpointId → ℕ
x_of_end p left end = left_of p left end + 33

-- what a node's endpoints take in front of its interface
abbrev pub ends_passed : PictureLists → ℕ → ℕ
ends_passed p node = if is_odd node then 0 else 66 * ends_at p.lanes node

-- the middle of an interface's lane
unfoldable pub x_of_interface : PictureLists → ℕ → NodeId → ℕ
x_of_interface p left node = band_left p left node.0 + ends_passed p node.0 + 22

-- the right edge of the last band
abbrev pub right : PictureLists → ℕ → ℕ
right p left = band_left p left p.nodes

-- ---- the text at the left: 7 pixels for each byte of the longest line, of which 400 count at most

abbrev pub longest : List PlacedRow → ℕ
longest [] = 0
longest (placed ∷ rows) = max (length (printed placed.row.entry)) (longest rows)

-- the left edge of the first band
unfoldable pub left_edge : PictureLists → ℕ
left_edge p = if has_text p then 84 + 7 * min (longest p.rows) 400 else 30

abbrev pub width : PictureLists → ℕ → ℕ
width p left = max (right p left) 860

abbrev pub height : PictureLists → ℕ
height p = bottom p + 24
