-- A first attempt comes after the second was taken, and is answered as taken.
use Rattle.std.specs.Prelude.{false, None, List, [], ◌∷◌}
use Rattle.am_names.specs.declared.Verdict.TheVariants as Verdicts
use Rattle.am_names.specs.declared.MsgKind.TheVariants as Kind
use Rattle.am_names.specs.declared.Message.{Message}
use Rattle.am_names.specs.declared.AnswerPacket.{AnswerPacket}
use Rattle.am_office_entries.specs.declared.HandlerKind.TheVariants.{Note}
use Rattle.am_office_entries.specs.declared.Actor.TheVariants.{Outside}
use Rattle.am_office_entries.specs.declared.Call.TheVariants as Calls
use Rattle.am_office_entries.specs.declared.Event.TheVariants as Events
use Rattle.am_office_entries.specs.declared.Received.TheVariants as Got
use Rattle.am_office_entries.specs.declared.Outcome.TheVariants as Out
use Rattle.am_office_entries.specs.declared.Entry.{Entry}
use Rattle.am_model.specs.Layout.{Layout, end_at, node_at}

abbrev pub layout : Layout
layout =
    record {
      direct = false;
      nodes = 2;
      frames = 16;
      channels = 1;
      tries = 3;
      bounces = 2;
      pool = None;
      log = 65536;
      ends = record { id = end_at 0; node = node_at 0; tag = record { 0 = 5 }; disk = false } ∷ record { id = end_at 1; node = node_at 1; tag = record { 0 = 7 }; disk = false } ∷ [];
      faults = [];
    }

abbrev pub request : Message
request =
    record {
      serial = record { source = end_at 0; count = 1 };
      kind = Kind.Request;
      dest = end_at 1;
      tag = record { 0 = 7 };
      reply_tag = record { 0 = 5 };
      handler = 1;
      words = record { a = 9; b = 0; c = 0; d = 0 };
      about = None;
    }

abbrev pub journal : List Entry
journal =
    record { stamp = 1; event = Events.Call Outside (end_at 1) (Calls.SetHandler 1 Note); outcome = Out.Done }
    ∷ record { stamp = 2; event = Events.Call Outside (end_at 0) (Calls.Map 0 (end_at 1) (record { 0 = 7 }) 4); outcome = Out.Done }
    ∷ record { stamp = 3; event = Events.Load (node_at 0) (end_at 0) 0; outcome = Out.Silent }
    ∷ record { stamp = 4; event = Events.Load (node_at 1) (end_at 1) 0; outcome = Out.Silent }
    ∷ record { stamp = 5; event = Events.Call Outside (end_at 0) (Calls.Request 0 1 (record { a = 9; b = 0; c = 0; d = 0 })); outcome = Out.Requested request }
    ∷ record { stamp = 6; event = Events.Bind (node_at 0) (end_at 0); outcome = Out.Sent request (node_at 1) 0 1 0 1 }
    ∷ record { stamp = 7; event = Events.Expire (node_at 0) (node_at 1) 0; outcome = Out.Sent request (node_at 1) 0 1 1 2 }
    ∷ record { stamp = 8; event = Events.Receive (node_at 1) (node_at 0) 2; outcome = Out.Received 0 1 1 (Got.Accepted request 1) }
    ∷ record { stamp = 9; event = Events.Receive (node_at 1) (node_at 0) 1; outcome = Out.Received 0 1 0 (Got.Again request.serial Verdicts.Accepted 2) }
    ∷ []

-- the answer to the first attempt
abbrev pub answer : AnswerPacket
answer = record { from = node_at 1; to = node_at 0; channel = 0; seq = 1; attempt = 0; number = 2; stamp = 9; verdict = Verdicts.Accepted }
