-- The bytes of a body that goes to disk. Numbers are written high byte first.
use Rattle.std.specs.Prelude.{ℕ, ◌+◌, ◌*◌, Bool, true, false, Option, Some, None, List, [], ◌∷◌, ◌++◌, length, flat_map, sum_by}
use Rattle.std.specs.Int.{w32, w64, to_be_bytes}
use Rattle.am_names.specs.declared.Serial.{Serial}
use Rattle.am_names.specs.declared.Words.{Words}
use Rattle.am_names.specs.declared.MsgKind.{MsgKind}
use Rattle.am_names.specs.declared.MsgKind.TheVariants as Kind
use Rattle.am_names.specs.declared.Cause.{Cause}
use Rattle.am_names.specs.declared.Cause.TheVariants as Causes
use Rattle.am_names.specs.declared.Why.{Why}
use Rattle.am_names.specs.declared.Why.TheVariants as Whys
use Rattle.am_names.specs.declared.Message.{Message}
use Rattle.am_office_entries.specs.declared.HandlerKind.{HandlerKind}
use Rattle.am_office_entries.specs.declared.HandlerKind.TheVariants.{Note, Echo, Add}
use Rattle.am_model.specs.declared.Mapping.{Mapping}
use Rattle.am_model.specs.declared.Awaited.{Awaited}
use Rattle.am_model.specs.declared.Queued.{Queued}
use Rattle.am_model.specs.declared.Notice.{Notice}
use Rattle.am_model.specs.Endpoint.{Body}

-- some parts, one after another
abbrev pub in_turn : List (List ℕ) → List ℕ
in_turn [] = []
in_turn (part ∷ parts) = part ++ in_turn parts

-- a number in one byte, in four, in eight
abbrev pub byte : ℕ → List ℕ
byte n = n ∷ []

abbrev pub short : ℕ → List ℕ
short n = to_be_bytes w32 n

abbrev pub long : ℕ → List ℕ
long n = to_be_bytes w64 n

-- how many there are, and each
abbrev pub counted : {X : Type 0} → (X → List ℕ) → List X → List ℕ
counted bytes xs = in_turn (byte (length xs) ∷ flat_map bytes xs ∷ [])

-- the letters AM2I, and the version
abbrev pub magic : List ℕ
magic = 65 ∷ 77 ∷ 50 ∷ 73 ∷ 1 ∷ []

abbrev pub mapping_bytes : Option Mapping → List ℕ
mapping_bytes None = byte 0
mapping_bytes (Some m) = in_turn (byte 1 ∷ byte m.name.0 ∷ long m.tag.0 ∷ byte m.credits ∷ [])

abbrev pub state_number : Bool → ℕ
state_number false = 0
state_number true = 1

-- a record, whose request is the endpoint's own: its source isn't written
abbrev pub record_bytes : Awaited → List ℕ
record_bytes a = in_turn (byte a.index ∷ short a.serial.count ∷ byte (state_number a.arrived) ∷ [])

abbrev pub handler_bytes : Option HandlerKind → List ℕ
handler_bytes None = byte 0
handler_bytes (Some Note) = byte 1
handler_bytes (Some (Echo to)) = in_turn (byte 2 ∷ byte to ∷ [])
handler_bytes (Some (Add to)) = in_turn (byte 3 ∷ byte to ∷ [])

abbrev pub kind_number : MsgKind → ℕ
kind_number Kind.Request = 0
kind_number Kind.Reply = 1
kind_number Kind.Empty = 2

abbrev pub cause_number : Cause → ℕ
cause_number Causes.NoEndpoint = 1
cause_number Causes.NotResident = 2
cause_number Causes.BadTag = 3
cause_number Causes.BadHandler = 4
cause_number Causes.QueueFull = 5
cause_number Causes.NoRequest = 6

abbrev pub why_number : Why → ℕ
why_number Whys.Unknown = 0
why_number (Whys.Refused cause) = cause_number cause

abbrev pub serial_bytes : Serial → List ℕ
serial_bytes s = in_turn (byte s.source.0 ∷ short s.count ∷ [])

abbrev pub words_bytes : Words → List ℕ
words_bytes w = in_turn (long w.a ∷ long w.b ∷ long w.c ∷ long w.d ∷ [])

abbrev pub about_bytes : Option Serial → List ℕ
about_bytes None = byte 0
about_bytes (Some request) = in_turn (byte 1 ∷ serial_bytes request ∷ [])

-- a message with its bounces
abbrev pub message_bytes : Message → ℕ → List ℕ
message_bytes m bounces =
    in_turn (
    serial_bytes m.serial
    ∷ byte (kind_number m.kind)
    ∷ byte m.dest.0
    ∷ long m.tag.0
    ∷ byte m.handler
    ∷ words_bytes m.words
    ∷ long m.reply_tag.0
    ∷ about_bytes m.about
    ∷ byte bounces
    ∷ [])

abbrev pub queued_bytes : Queued → List ℕ
queued_bytes q = message_bytes q.message q.bounces

abbrev pub notice_bytes : Notice → List ℕ
notice_bytes n = in_turn (message_bytes n.message n.bounces ∷ byte (why_number n.why) ∷ [])

abbrev pub received_bytes : Message → List ℕ
received_bytes m = message_bytes m 0

-- the image of a body
abbrev pub image : Body → List ℕ
image b =
    in_turn (
    magic
    ∷ long b.tag.0
    ∷ long b.sum
    ∷ short b.accepted
    ∷ flat_map mapping_bytes b.mapped
    ∷ counted record_bytes b.awaited
    ∷ flat_map handler_bytes b.handlers
    ∷ counted queued_bytes b.requests
    ∷ counted queued_bytes b.replies
    ∷ counted notice_bytes b.notices
    ∷ counted received_bytes b.received
    ∷ [])

-- how many bytes the parts take
abbrev pub mapping_size : Option Mapping → ℕ
mapping_size None = 1
mapping_size (Some m) = 11

abbrev pub handler_size : Option HandlerKind → ℕ
handler_size None = 1
handler_size (Some Note) = 1
handler_size (Some (Echo to)) = 2
handler_size (Some (Add to)) = 2

abbrev pub about_size : Option Serial → ℕ
about_size None = 1
about_size (Some request) = 6

-- 58 bytes where the message names no request, and else 63
abbrev pub message_size : Message → ℕ
message_size m = 57 + about_size m.about

abbrev pub queued_size : Queued → ℕ
queued_size q = message_size q.message

abbrev pub notice_size : Notice → ℕ
notice_size n = message_size n.message + 1

abbrev pub image_size : Body → ℕ
image_size b =
    30 + sum_by mapping_size b.mapped + 6 * length b.awaited + sum_by handler_size b.handlers + sum_by queued_size b.requests + sum_by queued_size b.replies + sum_by notice_size b.notices + sum_by message_size b.received
