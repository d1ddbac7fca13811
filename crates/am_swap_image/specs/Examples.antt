-- A fresh body, and one with an index and a request.
use Rattle.std.specs.Prelude.{ℕ, None, List, [], ◌∷◌, replicate}
use Rattle.am_names.specs.declared.MsgKind.TheVariants as Kind
use Rattle.am_names.specs.declared.Message.{Message}
use Rattle.am_office_entries.specs.declared.Place.TheVariants.{Host}
use Rattle.am_office_entries.specs.declared.Actor.TheVariants.{Outside}
use Rattle.am_office_entries.specs.declared.Call.TheVariants as Calls
use Rattle.am_office_entries.specs.declared.Event.TheVariants as Events
use Rattle.am_office_entries.specs.declared.Outcome.TheVariants as Out
use Rattle.am_office_entries.specs.declared.Entry.{Entry}
use Rattle.am_model.specs.Endpoint.{Body, fresh}
use Rattle.am_model.specs.Changes.{replay}
use Rattle.am_model.specs.ThinPath.{zero_end}

-- the body of a fresh endpoint with tag 7
abbrev pub fresh_body : Body
fresh_body = (fresh (record { 0 = 7 }) Host).body

abbrev pub fresh_image : List ℕ
fresh_image = 0x41 ∷ 0x4d ∷ 0x32 ∷ 0x49 ∷ 1 ∷ 0 ∷ 0 ∷ 0 ∷ 0 ∷ 0 ∷ 0 ∷ 0 ∷ 7 ∷ replicate 49 0

abbrev pub request : Message
request =
    record {
      serial = record { source = zero_end; count = 1 };
      kind = Kind.Request;
      dest = record { 0 = 1 };
      tag = record { 0 = 7 };
      reply_tag = record { 0 = 7 };
      handler = 1;
      words = record { a = 1; b = 2; c = 3; d = 4 };
      about = None;
    }

-- the endpoint maps index 0 to endpoint 1 under tag 7 with one credit, and makes a request by it
abbrev pub calls : List Entry
calls =
    record { stamp = 1; event = Events.Call Outside zero_end (Calls.Map 0 (record { 0 = 1 }) (record { 0 = 7 }) 1); outcome = Out.Done }
    ∷ record { stamp = 2; event = Events.Call Outside zero_end (Calls.Request 0 1 request.words); outcome = Out.Requested request }
    ∷ []

abbrev pub asking_body : Body
asking_body = (replay zero_end (fresh (record { 0 = 7 }) Host) calls).body

-- its image: the tag is 7, the sum is 0, and one message was accepted; index 0 is mapped and the others aren't; the
-- record of request 0.1 is of index 0 and waits; no handler is set; the request is queued, and nothing else is there
abbrev pub asking_image : List ℕ
asking_image =
    0x41 ∷ 0x4d ∷ 0x32 ∷ 0x49 ∷ 1
    ∷ 0 ∷ 0 ∷ 0 ∷ 0 ∷ 0 ∷ 0 ∷ 0 ∷ 7
    ∷ 0 ∷ 0 ∷ 0 ∷ 0 ∷ 0 ∷ 0 ∷ 0 ∷ 0
    ∷ 0 ∷ 0 ∷ 0 ∷ 1
    ∷ 1 ∷ 1 ∷ 0 ∷ 0 ∷ 0 ∷ 0 ∷ 0 ∷ 0 ∷ 0 ∷ 7 ∷ 1
    ∷ 0 ∷ 0 ∷ 0 ∷ 0 ∷ 0 ∷ 0 ∷ 0 ∷ 0 ∷ 0 ∷ 0 ∷ 0 ∷ 0 ∷ 0 ∷ 0 ∷ 0
    ∷ 1 ∷ 0 ∷ 0 ∷ 0 ∷ 0 ∷ 1 ∷ 0
    ∷ 0 ∷ 0 ∷ 0 ∷ 0 ∷ 0 ∷ 0 ∷ 0 ∷ 0 ∷ 0 ∷ 0 ∷ 0 ∷ 0 ∷ 0 ∷ 0 ∷ 0 ∷ 0
    ∷ 1
    ∷ 0 ∷ 0 ∷ 0 ∷ 0 ∷ 1
    ∷ 0
    ∷ 1
    ∷ 0 ∷ 0 ∷ 0 ∷ 0 ∷ 0 ∷ 0 ∷ 0 ∷ 7
    ∷ 1
    ∷ 0 ∷ 0 ∷ 0 ∷ 0 ∷ 0 ∷ 0 ∷ 0 ∷ 1
    ∷ 0 ∷ 0 ∷ 0 ∷ 0 ∷ 0 ∷ 0 ∷ 0 ∷ 2
    ∷ 0 ∷ 0 ∷ 0 ∷ 0 ∷ 0 ∷ 0 ∷ 0 ∷ 3
    ∷ 0 ∷ 0 ∷ 0 ∷ 0 ∷ 0 ∷ 0 ∷ 0 ∷ 4
    ∷ 0 ∷ 0 ∷ 0 ∷ 0 ∷ 0 ∷ 0 ∷ 0 ∷ 7
    ∷ 0
    ∷ 0
    ∷ 0 ∷ 0 ∷ 0 ∷ []
