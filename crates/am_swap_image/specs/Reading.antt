-- What stands at the front of some bytes, and the bytes behind it.
use Rattle.std.specs.Prelude.{ℕ, zero, suc, ◌==◌, nat_eq, nat_le, Bool, true, false, Option, Some, None, List, [], ◌∷◌, length, take, drop, if◌then◌else◌}
use Rattle.std.specs.List.{starts_with}
use Rattle.std.specs.Int.{Width, w32, w64, byte_len, from_be_bytes}
use Rattle.am_lemmas.specs.Options.{◌>>=◌}
use Rattle.am_names.specs.declared.EndpointId.{EndpointId}
use Rattle.am_names.specs.declared.Serial.{Serial}
use Rattle.am_names.specs.declared.Words.{Words}
use Rattle.am_names.specs.declared.MsgKind.{MsgKind}
use Rattle.am_names.specs.declared.MsgKind.TheVariants as Kind
use Rattle.am_names.specs.declared.Cause.TheVariants as Causes
use Rattle.am_names.specs.declared.Why.{Why}
use Rattle.am_names.specs.declared.Why.TheVariants as Whys
use Rattle.am_names.specs.declared.Message.{Message}
use Rattle.am_office_entries.specs.declared.HandlerKind.{HandlerKind}
use Rattle.am_office_entries.specs.declared.HandlerKind.TheVariants.{Note, Echo, Add}
use Rattle.am_model.specs.declared.Mapping.{Mapping}
use Rattle.am_model.specs.declared.Awaited.{Awaited}
use Rattle.am_model.specs.declared.Queued.{Queued}
use Rattle.am_model.specs.declared.Notice.{Notice}
use Rattle.am_model.specs.Endpoint.{Body}
use Rattle.am_swap_image.specs.Image.{magic}

-- a value with the bytes behind it, if it stands at the front
abbrev pub Read : Type 0 → Type 0
Read X = Option (X × List ℕ)

unfoldable pub byte_at : List ℕ → Read ℕ
byte_at [] = None
byte_at (n ∷ rest) = Some (n, rest)

-- a number of this width, high byte first
abbrev pub number_at : Width → List ℕ → Read ℕ
number_at w bytes = if nat_le (byte_len w) (length bytes) then Some (from_be_bytes w (take (byte_len w) bytes), drop (byte_len w) bytes) else None

unfoldable pub short_at : List ℕ → Read ℕ
short_at bytes = number_at w32 bytes

unfoldable pub long_at : List ℕ → Read ℕ
long_at bytes = number_at w64 bytes

unfoldable pub serial_at : List ℕ → Read Serial
serial_at bytes = do
  source ← byte_at bytes
  count ← short_at source.1
  Some (record { source = record { 0 = source.0 }; count = count.0 }, count.1)

unfoldable pub words_at : List ℕ → Read Words
words_at bytes = do
  a ← long_at bytes
  b ← long_at a.1
  c ← long_at b.1
  d ← long_at c.1
  Some (record { a = a.0; b = b.0; c = c.0; d = d.0 }, d.1)

-- a serial that is there
unfoldable pub some_serial_at : List ℕ → Read (Option Serial)
some_serial_at bytes = do
  request ← serial_at bytes
  Some (Some request.0, request.1)

-- none, or a serial
unfoldable pub about_at : List ℕ → Read (Option Serial)
about_at bytes = do
  mark ← byte_at bytes
  if mark.0 == 0 then Some (None, mark.1) else (if mark.0 == 1 then some_serial_at mark.1 else None)

unfoldable pub kind_of : ℕ → Option MsgKind
kind_of number =
    if number == 0 then Some Kind.Request else (if number == 1 then Some Kind.Reply else (if number == 2 then Some Kind.Empty else None))

unfoldable pub why_of : ℕ → Option Why
why_of number =
    if number == 0
    then Some Whys.Unknown
    else
    (if number == 1
    then Some (Whys.Refused Causes.NoEndpoint)
    else
    (if number == 2
    then Some (Whys.Refused Causes.NotResident)
    else
    (if number == 3
    then Some (Whys.Refused Causes.BadTag)
    else
    (if number == 4
    then Some (Whys.Refused Causes.BadHandler)
    else (if number == 5 then Some (Whys.Refused Causes.QueueFull) else (if number == 6 then Some (Whys.Refused Causes.NoRequest) else None))))))

-- a message of its parts, in their order
abbrev pub made : Serial → MsgKind → ℕ → ℕ → ℕ → Words → ℕ → Option Serial → Message
made serial kind dest tag handler words reply_tag about =
    record {
      serial = serial;
      kind = kind;
      dest = record { 0 = dest };
      tag = record { 0 = tag };
      reply_tag = record { 0 = reply_tag };
      handler = handler;
      words = words;
      about = about;
    }

-- a message with its bounces
unfoldable pub message_at : List ℕ → Read Queued
message_at bytes = do
  serial ← serial_at bytes
  number ← byte_at serial.1
  kind ← kind_of number.0
  dest ← byte_at number.1
  tag ← long_at dest.1
  handler ← byte_at tag.1
  words ← words_at handler.1
  reply_tag ← long_at words.1
  about ← about_at reply_tag.1
  bounces ← byte_at about.1
  Some (record { message = made serial.0 kind dest.0 tag.0 handler.0 words.0 reply_tag.0 about.0; bounces = bounces.0 }, bounces.1)

unfoldable pub notice_at : List ℕ → Read Notice
notice_at bytes = do
  came ← message_at bytes
  number ← byte_at came.1
  why ← why_of number.0
  Some (record { message = came.0.message; bounces = came.0.bounces; why = why }, number.1)

-- a message that didn't bounce
unfoldable pub received_at : List ℕ → Read Message
received_at bytes = do
  came ← message_at bytes
  if came.0.bounces == 0 then Some (came.0.message, came.1) else None

-- an index that is mapped
unfoldable pub some_mapping_at : List ℕ → Read (Option Mapping)
some_mapping_at bytes = do
  name ← byte_at bytes
  tag ← long_at name.1
  credits ← byte_at tag.1
  Some (Some (record { name = record { 0 = name.0 }; tag = record { 0 = tag.0 }; credits = credits.0 }), credits.1)

unfoldable pub mapping_at : List ℕ → Read (Option Mapping)
mapping_at bytes = do
  mark ← byte_at bytes
  if mark.0 == 0 then Some (None, mark.1) else (if mark.0 == 1 then some_mapping_at mark.1 else None)

unfoldable pub state_of : ℕ → Option Bool
state_of number = if number == 0 then Some false else (if number == 1 then Some true else None)

-- a record of the endpoint e
unfoldable pub record_at : EndpointId → List ℕ → Read Awaited
record_at e bytes = do
  index ← byte_at bytes
  count ← short_at index.1
  number ← byte_at count.1
  arrived ← state_of number.0
  Some (record { index = index.0; serial = record { source = e; count = count.0 }; arrived = arrived }, number.1)

unfoldable pub echo_at : List ℕ → Read (Option HandlerKind)
echo_at bytes = do
  to ← byte_at bytes
  Some (Some (Echo to.0), to.1)

unfoldable pub add_at : List ℕ → Read (Option HandlerKind)
add_at bytes = do
  to ← byte_at bytes
  Some (Some (Add to.0), to.1)

-- what stands behind a handler's mark
unfoldable pub handler_by : ℕ → List ℕ → Read (Option HandlerKind)
handler_by mark rest =
    if mark == 0
    then Some (None, rest)
    else (if mark == 1 then Some (Some Note, rest) else (if mark == 2 then echo_at rest else (if mark == 3 then add_at rest else None)))

unfoldable pub handler_at : List ℕ → Read (Option HandlerKind)
handler_at bytes = do
  mark ← byte_at bytes
  handler_by mark.0 mark.1

-- so many, each behind the one before it
unfoldable pub many_at : {X : Type 0} → (List ℕ → Read X) → ℕ → List ℕ → Read (List X)
many_at at zero bytes = Some ([], bytes)
many_at at (suc n) bytes = do
  first ← at bytes
  more ← many_at at n first.1
  Some (first.0 ∷ more.0, more.1)

-- how many there are, and each
unfoldable pub counted_at : {X : Type 0} → (List ℕ → Read X) → List ℕ → Read (List X)
counted_at at bytes = do
  number ← byte_at bytes
  many_at at number.0 number.1

-- the bytes behind the letters AM2I and the version
unfoldable pub magic_at : List ℕ → Option (List ℕ)
magic_at bytes = if starts_with nat_eq bytes magic then Some (drop 5 bytes) else None

-- a body of its parts, in their order, with nothing in flight
abbrev pub body_of : ℕ → ℕ → ℕ → List (Option Mapping) → List Awaited → List (Option HandlerKind) → List Queued → List Queued → List Notice → List Message → Body
body_of tag sum accepted mapped awaited handlers requests replies notices received =
    record {
      tag = record { 0 = tag };
      sum = sum;
      accepted = accepted;
      mapped = mapped;
      awaited = awaited;
      handlers = handlers;
      requests = requests;
      replies = replies;
      in_flight = [];
      notices = notices;
      received = received;
    }

-- a body of the endpoint e
unfoldable pub body_at : EndpointId → List ℕ → Read Body
body_at e bytes = do
  head ← magic_at bytes
  tag ← long_at head
  sum ← long_at tag.1
  accepted ← short_at sum.1
  mapped ← many_at mapping_at 16 accepted.1
  awaited ← counted_at (record_at e) mapped.1
  handlers ← many_at handler_at 16 awaited.1
  requests ← counted_at message_at handlers.1
  replies ← counted_at message_at requests.1
  notices ← counted_at notice_at replies.1
  received ← counted_at received_at notices.1
  Some (body_of tag.0 sum.0 accepted.0 mapped.0 awaited.0 handlers.0 requests.0 replies.0 notices.0 received.0, received.1)

-- the body of the endpoint e that all of the bytes are
unfoldable pub whole_body : EndpointId → List ℕ → Option Body
whole_body e bytes = do
  body ← body_at e bytes
  if length body.1 == 0 then Some body.0 else None
