-- Tests on names and messages.
use Rattle.std.specs.Prelude.{Bool, true, false, ◌==◌, ◌&&◌, is_none, is_some, if◌then◌else◌}
use Rattle.std.specs.declared.cmp.Ordering.{Ordering}
use Rattle.std.specs.Ordering.{nat_cmp, ordering_then}
use Rattle.am_names.specs.declared.EndpointId.{EndpointId}
use Rattle.am_names.specs.declared.NodeId.{NodeId}
use Rattle.am_names.specs.declared.Serial.{Serial}
use Rattle.am_names.specs.declared.Words.{Words}
use Rattle.am_names.specs.declared.MsgKind.{MsgKind}
use Rattle.am_names.specs.declared.MsgKind.TheVariants as Kind
use Rattle.am_names.specs.declared.Message.{Message}

abbrev pub same_end : EndpointId → EndpointId → Bool
same_end a b = a.0 == b.0

abbrev pub same_node : NodeId → NodeId → Bool
same_node a b = a.0 == b.0

abbrev pub same_serial : Serial → Serial → Bool
same_serial a b = same_end a.source b.source && (a.count == b.count)

-- by source, and those of one source by count
abbrev pub serial_order : Serial → Serial → Ordering
serial_order a b = ordering_then (nat_cmp a.source.0 b.source.0) (nat_cmp a.count b.count)

-- whether the message has this serial
abbrev pub has_serial : Serial → Message → Bool
has_serial s m = same_serial s m.serial

abbrev pub is_request_kind : MsgKind → Bool
is_request_kind Kind.Request = true
is_request_kind Kind.Reply = false
is_request_kind Kind.Empty = false

abbrev pub is_request : Message → Bool
is_request m = is_request_kind m.kind

-- whether the message is a reply or an empty reply
abbrev pub is_reply : Message → Bool
is_reply m = if is_request m then false else true

abbrev pub are_zero : Words → Bool
are_zero w = (w.a == 0) && (w.b == 0) && (w.c == 0) && (w.d == 0)

-- a request names no request; a reply or an empty reply names one and has no reply tag;
-- an empty reply has handler 0 and words 0
abbrev pub is_formed_as : MsgKind → Message → Bool
is_formed_as Kind.Request m = is_none m.about
is_formed_as Kind.Reply m = is_some m.about && (m.reply_tag.0 == 0)
is_formed_as Kind.Empty m = is_some m.about && (m.reply_tag.0 == 0) && (m.handler == 0) && are_zero m.words

-- whether the message has the form of its kind
abbrev pub is_well_formed : Message → Bool
is_well_formed m = is_formed_as m.kind m
