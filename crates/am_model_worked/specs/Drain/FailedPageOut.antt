-- A page-out fails, and the endpoint stays on the host.
use Rattle.std.specs.Prelude.{false, None, List, [], ◌∷◌}
use Rattle.am_names.specs.declared.Message.{Message}
use Rattle.am_names.specs.declared.MsgKind.TheVariants as Kind
use Rattle.am_names.specs.declared.Cause.TheVariants.{BadHandler}
use Rattle.am_names.specs.declared.Why.TheVariants as Whys
use Rattle.am_office_entries.specs.declared.Actor.TheVariants.{Thread, Outside}
use Rattle.am_office_entries.specs.declared.Call.TheVariants as Calls
use Rattle.am_office_entries.specs.declared.Event.TheVariants as Events
use Rattle.am_office_entries.specs.declared.Received.TheVariants as Got
use Rattle.am_office_entries.specs.declared.Outcome.TheVariants as Out
use Rattle.am_office_entries.specs.declared.Entry.{Entry}
use Rattle.am_scenario_types.specs.declared.parts.Network.TheVariants as Networks
use Rattle.am_scenario_types.specs.Lists.{ScenarioLists}

abbrev pub scenario : ScenarioLists
scenario =
    record {
      network = Networks.Packet;
      nodes = 1;
      frames = 2;
      channels = 1;
      tries = 4;
      bounces = 3;
      pool = None;
      keep = 0;
      log = 65536;
      turns = 0;
      ends =
          record { id = record { 0 = 0 }; node = record { 0 = 0 }; tag = record { 0 = 5 }; disk = false }
          ∷ record { id = record { 0 = 1 }; node = record { 0 = 0 }; tag = record { 0 = 7 }; disk = false }
          ∷ record { id = record { 0 = 2 }; node = record { 0 = 0 }; tag = record { 0 = 9 }; disk = false }
          ∷ [];
      bundles = [];
      threads =
          record { id = 0; node = record { 0 = 0 } }
          ∷ [];
      plan = [];
      faults =
          record { node = record { 0 = 0 }; number = 1 }
          ∷ [];
      script =
          record { thread = 0; endpoint = record { 0 = 0 }; call = Calls.Map 0 (record { 0 = 1 }) (record { 0 = 7 }) 1 }
          ∷ record { thread = 0; endpoint = record { 0 = 0 }; call = Calls.Map 1 (record { 0 = 2 }) (record { 0 = 9 }) 1 }
          ∷ record { thread = 0; endpoint = record { 0 = 0 }; call = Calls.Request 0 1 (record { a = 1; b = 0; c = 0; d = 0 }) }
          ∷ record { thread = 0; endpoint = record { 0 = 0 }; call = Calls.Request 1 1 (record { a = 2; b = 0; c = 0; d = 0 }) }
          ∷ [];
      steps = [];
    }

abbrev pub message_0_1 : Message
message_0_1 =
    record {
      serial = record { source = record { 0 = 0 }; count = 1 };
      kind = Kind.Request;
      dest = record { 0 = 1 };
      tag = record { 0 = 7 };
      reply_tag = record { 0 = 5 };
      handler = 1;
      words = record { a = 1; b = 0; c = 0; d = 0 };
      about = None;
    }

abbrev pub message_0_2 : Message
message_0_2 =
    record {
      serial = record { source = record { 0 = 0 }; count = 2 };
      kind = Kind.Request;
      dest = record { 0 = 2 };
      tag = record { 0 = 9 };
      reply_tag = record { 0 = 5 };
      handler = 1;
      words = record { a = 2; b = 0; c = 0; d = 0 };
      about = None;
    }

abbrev pub journal : List Entry
journal =
    record { stamp = 1; event = Events.Call (Thread 0) (record { 0 = 0 }) (Calls.Map 0 (record { 0 = 1 }) (record { 0 = 7 }) 1); outcome = Out.Done }
    ∷ record { stamp = 2; event = Events.Call (Thread 0) (record { 0 = 0 }) (Calls.Map 1 (record { 0 = 2 }) (record { 0 = 9 }) 1); outcome = Out.Done }
    ∷ record { stamp = 3; event = Events.Call (Thread 0) (record { 0 = 0 }) (Calls.Request 0 1 (record { a = 1; b = 0; c = 0; d = 0 })); outcome = Out.Requested message_0_1 }
    ∷ record { stamp = 4; event = Events.Load (record { 0 = 0 }) (record { 0 = 0 }) 0; outcome = Out.Silent }
    ∷ record { stamp = 5; event = Events.Load (record { 0 = 0 }) (record { 0 = 1 }) 1; outcome = Out.Silent }
    ∷ record { stamp = 6; event = Events.Bind (record { 0 = 0 }) (record { 0 = 0 }); outcome = Out.Sent message_0_1 (record { 0 = 0 }) 0 1 0 1 }
    ∷ record { stamp = 7; event = Events.Receive (record { 0 = 0 }) (record { 0 = 0 }) 1; outcome = Out.Received 0 1 0 (Got.Refused message_0_1 BadHandler 2) }
    ∷ record { stamp = 8; event = Events.Receive (record { 0 = 0 }) (record { 0 = 0 }) 2; outcome = Out.Received 0 1 0 (Got.Returned message_0_1.serial BadHandler) }
    ∷ record { stamp = 9; event = Events.Call (Thread 0) (record { 0 = 0 }) (Calls.Request 1 1 (record { a = 2; b = 0; c = 0; d = 0 })); outcome = Out.Requested message_0_2 }
    ∷ record { stamp = 10; event = Events.Drain (record { 0 = 0 }) (record { 0 = 1 }); outcome = Out.Silent }
    ∷ record { stamp = 11; event = Events.Unload (record { 0 = 0 }) (record { 0 = 1 }); outcome = Out.Silent }
    ∷ record { stamp = 12; event = Events.PageOut (record { 0 = 0 }) (record { 0 = 1 }); outcome = Out.Failed }
    ∷ record { stamp = 13; event = Events.Load (record { 0 = 0 }) (record { 0 = 2 }) 1; outcome = Out.Silent }
    ∷ record { stamp = 14; event = Events.Bind (record { 0 = 0 }) (record { 0 = 0 }); outcome = Out.Sent message_0_2 (record { 0 = 0 }) 0 2 0 3 }
    ∷ record { stamp = 15; event = Events.Receive (record { 0 = 0 }) (record { 0 = 0 }) 3; outcome = Out.Received 0 2 0 (Got.Refused message_0_2 BadHandler 4) }
    ∷ record { stamp = 16; event = Events.Receive (record { 0 = 0 }) (record { 0 = 0 }) 4; outcome = Out.Received 0 2 0 (Got.Returned message_0_2.serial BadHandler) }
    ∷ record { stamp = 17; event = Events.Call Outside (record { 0 = 0 }) Calls.Poll; outcome = Out.Zero message_0_1.serial (Whys.Refused BadHandler) }
    ∷ record { stamp = 18; event = Events.Call Outside (record { 0 = 0 }) Calls.Poll; outcome = Out.Zero message_0_2.serial (Whys.Refused BadHandler) }
    ∷ []
