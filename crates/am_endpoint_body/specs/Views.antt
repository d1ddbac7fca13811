-- What contracts see of a body, and how the descriptors of a block are seen as lists of messages.
use Rattle.std.specs.Prelude.{ℕ, ◌+◌, ◌≤◌, false, Option, None, List, map, length, slice_index_or}
use Rattle.am_names.specs.declared.Message.{Message}
use Rattle.am_names.specs.declared.MsgKind.TheVariants.{Empty}
use Rattle.am_names.specs.declared.Tag.{Tag}
use Rattle.am_names.specs.declared.Why.TheVariants.{Unknown}
use Rattle.am_office_entries.specs.declared.HandlerKind.{HandlerKind}
use Rattle.am_block.specs.Pools.{Pools}
use Rattle.am_block.specs.declared.Descriptor.{Descriptor}
use Rattle.am_model.specs.declared.Flying.{Flying}
use Rattle.am_model.specs.declared.Notice.{Notice}
use Rattle.am_model.specs.declared.Queued.{Queued}
use Rattle.am_model.specs.Calls.{messages_held}
use Rattle.am_office_entries.specs.declared.Place.TheVariants.{Host}
use Rattle.am_model.specs.Endpoint.{Body, State, fresh}
use Rattle.am_translate.specs.Tables.{Table}

-- the credits that the indexes share, if they share any, the body, and the slots of its messages in flight, in order
pub record View : Type 0 where
  pub pool : Option ℕ
  pub body : Body
  pub flights : List ℕ

-- what is read where there is no such slot
abbrev pub blank : Descriptor
blank =
    record {
      message =
          record {
            serial = record { source = record { 0 = 0 }; count = 0 };
            kind = Empty;
            dest = record { 0 = 0 };
            tag = record { 0 = 0 };
            reply_tag = record { 0 = 0 };
            handler = 0;
            words = record { a = 0; b = 0; c = 0; d = 0 };
            about = None;
          };
      used = 0;
      answered = false;
      why = Unknown;
    }

abbrev pub descriptor_at : List Descriptor → ℕ → Descriptor
descriptor_at ds s = slice_index_or ds s blank

-- the descriptors of some slots, seen by f
abbrev pub seen : {X : Type 0} → (Descriptor → X) → List Descriptor → List ℕ → List X
seen f ds xs = map (λ s. f (descriptor_at ds s)) xs

abbrev pub queued_in : Descriptor → Queued
queued_in d = record { message = d.message; bounces = d.used }

abbrev pub flying_in : Descriptor → Flying
flying_in d = record { message = d.message; bounces = d.used; answered = d.answered }

abbrev pub notice_in : Descriptor → Notice
notice_in d = record { message = d.message; bounces = d.used; why = d.why }

abbrev pub message_in : Descriptor → Message
message_in d = d.message

-- the body with these parts
abbrev pub body_over : Tag → ℕ → ℕ → Table → List (Option HandlerKind) → Pools → Body
body_over tag sum accepted table handlers p =
    record {
      tag = tag;
      sum = sum;
      accepted = accepted;
      mapped = table.mapped;
      awaited = table.awaited;
      handlers = handlers;
      requests = seen queued_in p.descriptors p.requests;
      replies = seen queued_in p.descriptors p.replies;
      in_flight = seen flying_in p.descriptors p.in_flight;
      notices = seen notice_in p.descriptors p.notices;
      received = seen message_in p.descriptors p.received;
    }

-- how many slots hold a message
abbrev pub slots_held : Body → ℕ
slots_held b = messages_held b + length b.received

-- each message of the body has a slot of its own
abbrev pub Fits : Body → Type 0
Fits b = slots_held b ≤ 80

-- the translation table of a body
abbrev pub table_of : View → Table
table_of v = record { pool = v.pool; mapped = v.body.mapped; awaited = v.body.awaited }

-- an endpoint on the host that has this body
abbrev pub on_host : Body → State
on_host b = record { head = (fresh b.tag Host).head; body = b }
