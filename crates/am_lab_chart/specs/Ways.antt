-- The ways of packets: an arrow for each receipt, a cross where there is none.
use Rattle.std.specs.Prelude.{ℕ, Bool, true, false, ◌+◌, ◌==◌, nat_lt, List, [], ◌∷◌, codes, Option, Some, None, if◌then◌else◌}
use Rattle.std.specs.Fmt.{decimal}
use Rattle.am_names.specs.Packets.{from_of, number_of, receiver_of}
use Rattle.am_names.specs.declared.Packet.{Packet}
use Rattle.am_lab_picture.specs.Data.{PictureLists}
use Rattle.am_lab_picture.specs.declared.data.Arrow.{Arrow}
use Rattle.am_lab_picture.specs.declared.data.Cross.{Cross}
use Rattle.am_lab_picture.specs.declared.data.Named.{Named}
use Rattle.am_office_text.specs.Words.{serial}
use Rattle.am_lab_xml.specs.Attributes.{place}
use Rattle.am_lab_xml.specs.Trees.{Content}
use Rattle.am_lab_picture.specs.Layout.Layout.{x_of_interface, y_of}
use Rattle.am_lab_picture.specs.Layout.Words.{class_of, head_of, opacity, packet_dashes}
use Rattle.am_lab_chart.specs.Captions.{Word, joined, number, titled, word}

-- ---- titles

-- the message that a packet carries, or whose verdict it tells
abbrev pub message : Option Named → Word
message None = codes "-"
message (Some about) = serial about.serial

-- the message of a packet, its number, its link, the line in which it was sent, and what came of it
abbrev pub way_title : Option Named → Packet → ℕ → Word → Word → List Word
way_title about packet line came end =
    message about ∷ codes " packet " ∷ decimal (number_of packet) ∷ codes ", " ∷ decimal (from_of packet).0 ∷
    codes " to " ∷ decimal (receiver_of packet).0 ∷ codes ", line " ∷ decimal line ∷ came ∷ end ∷ []

abbrev pub arrow_title : Arrow → List Word
arrow_title a = way_title a.about a.packet a.from (codes " to ") (decimal a.to)

abbrev pub cross_title : Cross → List Word
cross_title c = way_title c.about c.packet c.line (codes ", not received") []

-- ---- arrows

-- where a packet is emitted and where it is received
abbrev pub begin_x : PictureLists → ℕ → Packet → ℕ
begin_x p left packet = x_of_interface p left (from_of packet)

abbrev pub end_x : PictureLists → ℕ → Packet → ℕ
end_x p left packet = x_of_interface p left (receiver_of packet)

-- from node to node: a line from the row of the emission to that of the receipt
unfoldable pub straight : PictureLists → ℕ → Arrow → Content
straight p left a =
    titled (codes "line")
    (word (codes "class") (class_of a.about) ∷ number (codes "x1") (begin_x p left a.packet) ∷
    number (codes "y1") (y_of p a.from) ∷ number (codes "x2") (end_x p left a.packet) ∷
    number (codes "y2") (y_of p a.to) ∷ word (codes "stroke-dasharray") (packet_dashes a.packet) ∷
    word (codes "marker-end") (head_of a.about) ∷ word (codes "opacity") (opacity a.counts) ∷ [])
    (arrow_title a) []

-- to its own node: an arc between these rows
unfoldable pub arc : PictureLists → ℕ → Arrow → Content
arc p left a =
    titled (codes "path")
    (word (codes "class") (class_of a.about) ∷ word (codes "d") (joined (place (codes "M") x y ∷
    place (codes "C") (x + 26) y ∷ place (codes " ") (x + 26) end ∷ place (codes " ") (x + 3) end ∷ [])) ∷
    word (codes "stroke-dasharray") (packet_dashes a.packet) ∷ word (codes "marker-end") (head_of a.about) ∷
    word (codes "opacity") (opacity a.counts) ∷ [])
    (arrow_title a) []
  where
    x : ℕ
    x = begin_x p left a.packet

    y : ℕ
    y = y_of p a.from

    end : ℕ
    end = y_of p a.to

-- whether a packet goes to the node that it comes from
abbrev pub is_own : Packet → Bool
is_own packet = (from_of packet).0 == (receiver_of packet).0

abbrev pub drawn_arrow : PictureLists → ℕ → Arrow → Content
drawn_arrow p left a = if is_own a.packet then arc p left a else straight p left a

-- ---- crosses

-- the sign of a packet that is never received leans towards its receiver
abbrev pub lost_sign : Bool → List ℕ
lost_sign true = codes "#lost-left"
lost_sign false = codes "#lost-right"

unfoldable pub drawn_cross : PictureLists → ℕ → Cross → Content
drawn_cross p left c =
    titled (codes "use")
    (word (codes "href") (lost_sign (nat_lt (end_x p left c.packet) (begin_x p left c.packet))) ∷
    number (codes "x") (begin_x p left c.packet) ∷ number (codes "y") (y_of p c.line) ∷
    word (codes "class") (class_of c.about) ∷ word (codes "stroke-dasharray") (packet_dashes c.packet) ∷ [])
    (cross_title c) []
