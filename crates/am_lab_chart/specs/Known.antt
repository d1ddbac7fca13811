-- What occurs in a picture, by the words that the legend has for it: a sign, the class of a fate or of a bar, or how a packet's line
-- is dashed.
use Rattle.std.specs.Prelude.{ℕ, Bool, ◌&&◌, ◌||◌, ◌==◌, not, List, [], codes, bytes_eq, Option, Some, None}
use Rattle.std.specs.List.{list_any}
use Rattle.am_lab_picture.specs.Data.{LaneLists, PictureLists}
use Rattle.am_lab_picture.specs.declared.data.Arrow.{Arrow}
use Rattle.am_lab_picture.specs.declared.data.Cross.{Cross}
use Rattle.am_lab_picture.specs.declared.data.PlacedRow.{PlacedRow}
use Rattle.am_lab_picture.specs.declared.data.Residency.{Residency}
use Rattle.am_lab_picture.specs.declared.data.Row.{Row}
use Rattle.am_lab_picture.specs.declared.data.Span.{Span}
use Rattle.am_lab_picture.specs.declared.layout.signs.Link.{Link}
use Rattle.am_lab_picture.specs.Layout.Signs.{ending_sign, link_of, sign_of}
use Rattle.am_lab_picture.specs.Layout.Words.{class_of, packet_dashes, place_class}

-- the sign at the end of a row's line
abbrev pub link_sign : Option Link → List ℕ
link_sign None = []
link_sign (Some to) = ending_sign to.ending

-- a row: the fate of its message, its sign, and the sign at the end of its line
abbrev pub is_in_row : List ℕ → Row → Bool
is_in_row key row =
    bytes_eq (class_of row.about) key || bytes_eq (sign_of row.entry.event row.entry.outcome) key ||
    bytes_eq (link_sign (link_of row.entry.event row.entry.outcome)) key

abbrev pub is_in_placed : List ℕ → PlacedRow → Bool
is_in_placed key placed = is_in_row key placed.row

-- an arrow: how it is dashed
abbrev pub is_in_arrow : List ℕ → Arrow → Bool
is_in_arrow key arrow = bytes_eq (packet_dashes arrow.packet) key

-- a cross: the same, and that it is one
abbrev pub is_in_cross : List ℕ → Cross → Bool
is_in_cross key cross = bytes_eq (packet_dashes cross.packet) key || bytes_eq (codes "#lost-left") key

abbrev pub is_at : List ℕ → Span Residency → Bool
is_at key span = bytes_eq (place_class span.value) key

abbrev pub is_some_level : Span ℕ → Bool
is_some_level span = not (span.value == 0)

abbrev pub is_level : List ℕ → List ℕ → List (Span ℕ) → Bool
is_level key name spans = bytes_eq name key && list_any is_some_level spans

-- a lane: the places of its endpoint, and whether it has records or received messages
abbrev pub is_in_lane : List ℕ → LaneLists → Bool
is_in_lane key lane =
    list_any (is_at key) lane.residency || is_level key (codes "records") lane.records || is_level key (codes "received") lane.received

abbrev pub occurs : PictureLists → List ℕ → Bool
occurs p key =
    list_any (is_in_placed key) p.rows || list_any (is_in_arrow key) p.arrows || list_any (is_in_cross key) p.crosses || list_any (is_in_lane key) p.lanes
