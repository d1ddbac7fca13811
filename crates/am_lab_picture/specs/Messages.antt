-- The picture of one message: of the rows that touch it.
use Rattle.std.specs.Prelude.{◌+◌, Bool, false, ◌||◌, Option, Some, None, List, filter, map}
use Rattle.am_names.specs.Names.{same_serial}
use Rattle.am_names.specs.declared.Serial.{Serial}
use Rattle.am_lab_picture.specs.Data.{LaneLists, PictureLists}
use Rattle.am_lab_picture.specs.Rows.{has_row, stands_between}
use Rattle.am_lab_picture.specs.declared.data.Arrow.{Arrow}
use Rattle.am_lab_picture.specs.declared.data.Cross.{Cross}
use Rattle.am_lab_picture.specs.declared.data.Named.{Named}
use Rattle.am_lab_picture.specs.declared.data.PlacedRow.{PlacedRow}
use Rattle.am_lab_picture.specs.declared.data.Row.{Row}
use Rattle.am_lab_picture.specs.declared.data.Span.{Span}

abbrev pub is_named : Serial → Option Named → Bool
is_named s None = false
is_named s (Some named) = same_serial s named.serial

-- a row touches a message that it is about, or that is the reply of its run
abbrev pub is_touching : Serial → Row → Bool
is_touching s row = is_named s row.about || is_named s row.reply

-- the rows that touch a message
abbrev pub touching : Serial → List PlacedRow → List PlacedRow
touching s rows = filter (λ (placed : PlacedRow). is_touching s placed.row) rows

-- whether an arrow begins or ends at one of these rows
abbrev pub leads : List PlacedRow → Arrow → Bool
leads rows a = has_row rows a.from || has_row rows a.to

-- whether a cross stands in one of them
abbrev pub is_crossed : List PlacedRow → Cross → Bool
is_crossed rows c = has_row rows c.line

-- whether a value stands in front of one of them, or behind it
abbrev pub is_seen : {X : Type 0} → List PlacedRow → Span X → Bool
is_seen rows span = stands_between rows span.from (span.until + 1)

-- a lane, as far as it is seen at these rows
abbrev pub lane_seen : List PlacedRow → LaneLists → LaneLists
lane_seen rows lane =
    record {
      id = lane.id;
      node = lane.node;
      tag = lane.tag;
      residency = filter (is_seen rows) lane.residency;
      records = filter (is_seen rows) lane.records;
      received = filter (is_seen rows) lane.received;
    }

-- what a picture shows at some of its rows
abbrev pub shown_at : PictureLists → List PlacedRow → PictureLists
shown_at p rows =
    record {
      network = p.network;
      nodes = p.nodes;
      rows = rows;
      arrows = filter (leads rows) p.arrows;
      crosses = filter (is_crossed rows) p.crosses;
      lanes = map (lane_seen rows) p.lanes;
      summary = p.summary;
    }

-- what it shows of a message: the rows that touch the message, the ways of packets that begin or end at them, and what stands there
abbrev pub message_picture : PictureLists → Serial → PictureLists
message_picture p s = shown_at p (touching s p.rows)
