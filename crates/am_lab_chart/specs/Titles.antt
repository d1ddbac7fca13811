-- The titles that a picture has, in order.
use Rattle.std.specs.Prelude.{ℕ, zero, suc, ◌==◌, List, [], ◌∷◌, ◌++◌, codes, flat_map, map, replicate, if◌then◌else◌}
use Rattle.am_check_lines.specs.Grammar.{printed}
use Rattle.am_lab_picture.specs.Data.{LaneLists, PictureLists}
use Rattle.am_lab_picture.specs.declared.data.Arrow.{Arrow}
use Rattle.am_lab_picture.specs.declared.data.Cross.{Cross}
use Rattle.am_lab_picture.specs.declared.data.PlacedRow.{PlacedRow}
use Rattle.am_lab_picture.specs.declared.data.Residency.{Residency}
use Rattle.am_lab_picture.specs.declared.data.Span.{Span}
use Rattle.am_lab_picture.specs.Layout.Layout.{has_interfaces}
use Rattle.am_names.specs.declared.EndpointId.{EndpointId}
use Rattle.am_lab_chart.specs.Bars.{level_title, place_title}
use Rattle.am_lab_chart.specs.Captions.{Word, joined}
use Rattle.am_lab_chart.specs.Lanes.{end_title, interface_title, node_words, pages_of}
use Rattle.am_lab_chart.specs.Ways.{arrow_title, cross_title}

-- of an interface's head, of its lane, and of its head again
abbrev pub interface_titles : PictureLists → ℕ → List Word
interface_titles p node =
    if has_interfaces p.network
    then joined (interface_title node) ∷ joined (interface_title node) ∷ replicate (pages_of p) (joined (interface_title node))
    else []

-- of the heads of so many nodes, and of what their interfaces have
abbrev pub nodes_titles : PictureLists → ℕ → List Word
nodes_titles p zero = []
nodes_titles p (suc node) = nodes_titles p node ++ (joined (node_words node) ∷ interface_titles p node)

-- of a level that isn't none
abbrev pub level_titles : EndpointId → Word → Span ℕ → List Word
level_titles end shown span = if span.value == 0 then [] else joined (level_title end shown span) ∷ []

-- of the bars of a lane
abbrev pub lane_titles : LaneLists → List Word
lane_titles lane =
    map (λ (span : Span Residency). joined (place_title lane.id span)) lane.residency ++
    (flat_map (level_titles lane.id (codes "records ")) lane.records ++ flat_map (level_titles lane.id (codes "received ")) lane.received)

-- of an endpoint's two heads, and of its head again
abbrev pub head_titles : PictureLists → LaneLists → List Word
head_titles p lane = joined (end_title lane) ∷ joined (end_title lane) ∷ replicate (pages_of p) (joined (end_title lane))

-- of what stands in front of the rows
abbrev pub titles_before : PictureLists → List Word
titles_before p =
    (nodes_titles p p.nodes ++ (flat_map lane_titles p.lanes ++ flat_map (head_titles p) p.lanes)) ++
    (map (λ (a : Arrow). joined (arrow_title a)) p.arrows ++ map (λ (c : Cross). joined (cross_title c)) p.crosses)

-- and of the rows: the lines of their entries
abbrev pub row_titles : PictureLists → List Word
row_titles p = map (λ (placed : PlacedRow). printed placed.row.entry) p.rows
