-- The classes that the style sheet gives colours to, and how lines are dashed.
use Rattle.std.specs.Prelude.{ℕ, Bool, true, false, List, codes, Option, Some, None}
use Rattle.am_names.specs.declared.MsgKind.{MsgKind}
use Rattle.am_names.specs.declared.MsgKind.TheVariants as Kinds
use Rattle.am_names.specs.declared.Packet.{Packet}
use Rattle.am_names.specs.declared.Packet.TheVariants as Packets
use Rattle.am_office_entries.specs.declared.endings.Fate.{Fate}
use Rattle.am_office_entries.specs.declared.endings.Fate.TheVariants as Fates
use Rattle.am_lab_picture.specs.declared.data.Named.{Named}
use Rattle.am_lab_picture.specs.declared.data.Residency.{Residency}
use Rattle.am_lab_picture.specs.declared.data.Residency.TheVariants as Places

abbrev pub Word : Type 0
Word = List ℕ

-- the class of a fate; a message that no entry accepts has none
unfoldable pub fate_class : Option Fate → Word
fate_class None = codes "plain"
fate_class (Some Fates.Ran) = codes "ran"
fate_class (Some (Fates.Returned cause)) = codes "returned"
fate_class (Some Fates.Unknown) = codes "unknown"
fate_class (Some Fates.UnknownButRan) = codes "unknown-but-ran"
fate_class (Some Fates.Pending) = codes "pending"

abbrev pub class_of : Option Named → Word
class_of None = codes "plain"
class_of (Some about) = fate_class about.fate

-- the sign of a fate
unfoldable pub fate_sign : Option Fate → Word
fate_sign None = codes "#no-fate"
fate_sign (Some Fates.Ran) = codes "#fate-ran"
fate_sign (Some (Fates.Returned cause)) = codes "#fate-returned"
fate_sign (Some Fates.Unknown) = codes "#fate-unknown"
fate_sign (Some Fates.UnknownButRan) = codes "#fate-unknown-but-ran"
fate_sign (Some Fates.Pending) = codes "#fate-pending"

-- the arrow head of a fate's colour
unfoldable pub fate_head : Option Fate → Word
fate_head None = codes "url(#head-plain)"
fate_head (Some Fates.Ran) = codes "url(#head-ran)"
fate_head (Some (Fates.Returned cause)) = codes "url(#head-returned)"
fate_head (Some Fates.Unknown) = codes "url(#head-unknown)"
fate_head (Some Fates.UnknownButRan) = codes "url(#head-unknown-but-ran)"
fate_head (Some Fates.Pending) = codes "url(#head-pending)"

abbrev pub head_of : Option Named → Word
head_of None = codes "url(#head-plain)"
head_of (Some about) = fate_head about.fate

-- a request's line is whole, a reply's has long dashes, an answer's has dots
unfoldable pub kind_dashes : MsgKind → Word
kind_dashes Kinds.Request = codes "none"
kind_dashes Kinds.Reply = codes "9 3"
kind_dashes Kinds.Empty = codes "9 3"

abbrev pub packet_dashes : Packet → Word
packet_dashes (Packets.Parcel parcel) = kind_dashes parcel.message.kind
packet_dashes (Packets.Answer answer) = codes "2 3"

-- what counts is drawn full, what doesn't is pale
unfoldable pub opacity : Bool → Word
opacity true = codes "1"
opacity false = codes "0.4"

-- where an endpoint lies
unfoldable pub place_class : Residency → Word
place_class Places.Direct = codes "direct"
place_class (Places.Frame frame) = codes "frame"
place_class (Places.Draining frame) = codes "draining"
place_class Places.Host = codes "host"
place_class Places.Disk = codes "disk"

-- the frame that it holds
abbrev pub frame_of : Residency → Option ℕ
frame_of (Places.Frame frame) = Some frame
frame_of (Places.Draining frame) = Some frame
frame_of other = None
