-- The shortest journal in which a message runs.
use Rattle.std.specs.Prelude.{true, false, Some, None, List, [], ◌∷◌}
use Rattle.am_names.specs.declared.EndpointId.{EndpointId}
use Rattle.am_names.specs.declared.NodeId.{NodeId}
use Rattle.am_names.specs.declared.MsgKind.TheVariants as Kind
use Rattle.am_names.specs.declared.Message.{Message}
use Rattle.am_office_entries.specs.declared.HandlerKind.TheVariants.{Note}
use Rattle.am_office_entries.specs.declared.Actor.TheVariants.{Outside}
use Rattle.am_office_entries.specs.declared.Call.TheVariants as Calls
use Rattle.am_office_entries.specs.declared.Event.TheVariants as Events
use Rattle.am_office_entries.specs.declared.Outcome.TheVariants as Out
use Rattle.am_office_entries.specs.declared.Entry.{Entry}
use Rattle.am_model.specs.Layout.{Layout, end_at, node_at}

abbrev pub zero_end : EndpointId
zero_end = end_at 0

abbrev pub one_end : EndpointId
one_end = end_at 1

abbrev pub node : NodeId
node = node_at 0

abbrev pub layout : Layout
layout =
    record {
      direct = true;
      nodes = 1;
      frames = 16;
      channels = 1;
      tries = 4;
      bounces = 3;
      pool = None;
      log = 65536;
      ends = record { id = zero_end; node = node; tag = record { 0 = 5 }; disk = false } ∷ record { id = one_end; node = node; tag = record { 0 = 7 }; disk = false } ∷ [];
      faults = [];
    }

abbrev pub request : Message
request =
    record {
      serial = record { source = zero_end; count = 1 };
      kind = Kind.Request;
      dest = one_end;
      tag = record { 0 = 7 };
      reply_tag = record { 0 = 5 };
      handler = 1;
      words = record { a = 10; b = 20; c = 30; d = 40 };
      about = None;
    }

abbrev pub empty_reply : Message
empty_reply =
    record {
      serial = record { source = one_end; count = 1 };
      kind = Kind.Empty;
      dest = zero_end;
      tag = record { 0 = 5 };
      reply_tag = record { 0 = 0 };
      handler = 0;
      words = record { a = 0; b = 0; c = 0; d = 0 };
      about = Some request.serial;
    }

abbrev pub journal : List Entry
journal =
    record { stamp = 1; event = Events.Call Outside one_end (Calls.SetHandler 1 Note); outcome = Out.Done }
    ∷ record { stamp = 2; event = Events.Call Outside zero_end (Calls.Map 0 one_end (record { 0 = 7 }) 1); outcome = Out.Done }
    ∷ record { stamp = 3; event = Events.Call Outside zero_end (Calls.Request 0 1 (record { a = 10; b = 20; c = 30; d = 40 })); outcome = Out.Requested request }
    ∷ record { stamp = 4; event = Events.Carry zero_end; outcome = Out.Accepted request }
    ∷ record { stamp = 5; event = Events.Call Outside one_end Calls.Poll; outcome = Out.Ran (Some 1) request (Some empty_reply) }
    ∷ []
