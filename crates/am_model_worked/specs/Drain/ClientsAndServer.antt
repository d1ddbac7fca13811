-- Two clients and a server, whose second packet is lost: 29 entries.
use Rattle.std.specs.Prelude.{false, Some, None, List, [], ◌∷◌}
use Rattle.am_names.specs.declared.Message.{Message}
use Rattle.am_names.specs.declared.MsgKind.TheVariants as Kind
use Rattle.am_office_entries.specs.declared.HandlerKind.TheVariants.{Note, Add}
use Rattle.am_office_entries.specs.declared.Actor.TheVariants.{Thread, Outside}
use Rattle.am_office_entries.specs.declared.Call.TheVariants as Calls
use Rattle.am_office_entries.specs.declared.Event.TheVariants as Events
use Rattle.am_office_entries.specs.declared.Received.TheVariants as Got
use Rattle.am_office_entries.specs.declared.Outcome.TheVariants as Out
use Rattle.am_office_entries.specs.declared.Entry.{Entry}
use Rattle.am_scenario_types.specs.declared.parts.Network.TheVariants as Networks
use Rattle.am_scenario_plan.specs.declared.plan.LinkFault.TheVariants.{Lose}
use Rattle.am_scenario_types.specs.Lists.{ScenarioLists}

abbrev pub scenario : ScenarioLists
scenario =
    record {
      network = Networks.Packet;
      nodes = 2;
      frames = 2;
      channels = 2;
      tries = 4;
      bounces = 3;
      pool = None;
      keep = 64;
      log = 65536;
      turns = 0;
      ends =
          record { id = record { 0 = 0 }; node = record { 0 = 0 }; tag = record { 0 = 11 }; disk = false }
          ∷ record { id = record { 0 = 1 }; node = record { 0 = 0 }; tag = record { 0 = 12 }; disk = false }
          ∷ record { id = record { 0 = 2 }; node = record { 0 = 1 }; tag = record { 0 = 20 }; disk = false }
          ∷ [];
      bundles = [];
      threads =
          record { id = 0; node = record { 0 = 0 } }
          ∷ record { id = 1; node = record { 0 = 0 } }
          ∷ record { id = 2; node = record { 0 = 1 } }
          ∷ [];
      plan =
          record { from = record { 0 = 0 }; to = record { 0 = 1 }; number = 2; fault = Lose }
          ∷ [];
      faults = [];
      script =
          record { thread = 0; endpoint = record { 0 = 0 }; call = Calls.SetHandler 4 Note }
          ∷ record { thread = 0; endpoint = record { 0 = 0 }; call = Calls.Map 0 (record { 0 = 2 }) (record { 0 = 20 }) 2 }
          ∷ record { thread = 0; endpoint = record { 0 = 0 }; call = Calls.Request 0 3 (record { a = 100; b = 0; c = 0; d = 0 }) }
          ∷ record { thread = 0; endpoint = record { 0 = 0 }; call = Calls.Poll }
          ∷ record { thread = 1; endpoint = record { 0 = 1 }; call = Calls.SetHandler 4 Note }
          ∷ record { thread = 1; endpoint = record { 0 = 1 }; call = Calls.Map 0 (record { 0 = 2 }) (record { 0 = 20 }) 2 }
          ∷ record { thread = 1; endpoint = record { 0 = 1 }; call = Calls.Request 0 3 (record { a = 23; b = 0; c = 0; d = 0 }) }
          ∷ record { thread = 1; endpoint = record { 0 = 1 }; call = Calls.Poll }
          ∷ record { thread = 2; endpoint = record { 0 = 2 }; call = Calls.SetHandler 3 (Add 4) }
          ∷ record { thread = 2; endpoint = record { 0 = 2 }; call = Calls.Poll }
          ∷ record { thread = 2; endpoint = record { 0 = 2 }; call = Calls.Poll }
          ∷ record { thread = 2; endpoint = record { 0 = 2 }; call = Calls.Poll }
          ∷ [];
      steps = [];
    }

abbrev pub message_0_1 : Message
message_0_1 =
    record {
      serial = record { source = record { 0 = 0 }; count = 1 };
      kind = Kind.Request;
      dest = record { 0 = 2 };
      tag = record { 0 = 20 };
      reply_tag = record { 0 = 11 };
      handler = 3;
      words = record { a = 100; b = 0; c = 0; d = 0 };
      about = None;
    }

abbrev pub message_1_1 : Message
message_1_1 =
    record {
      serial = record { source = record { 0 = 1 }; count = 1 };
      kind = Kind.Request;
      dest = record { 0 = 2 };
      tag = record { 0 = 20 };
      reply_tag = record { 0 = 12 };
      handler = 3;
      words = record { a = 23; b = 0; c = 0; d = 0 };
      about = None;
    }

abbrev pub message_2_1 : Message
message_2_1 =
    record {
      serial = record { source = record { 0 = 2 }; count = 1 };
      kind = Kind.Reply;
      dest = record { 0 = 0 };
      tag = record { 0 = 11 };
      reply_tag = record { 0 = 0 };
      handler = 4;
      words = record { a = 100; b = 0; c = 0; d = 0 };
      about = Some message_0_1.serial;
    }

abbrev pub message_2_2 : Message
message_2_2 =
    record {
      serial = record { source = record { 0 = 2 }; count = 2 };
      kind = Kind.Reply;
      dest = record { 0 = 1 };
      tag = record { 0 = 12 };
      reply_tag = record { 0 = 0 };
      handler = 4;
      words = record { a = 123; b = 0; c = 0; d = 0 };
      about = Some message_1_1.serial;
    }

abbrev pub journal : List Entry
journal =
    record { stamp = 1; event = Events.Call (Thread 0) (record { 0 = 0 }) (Calls.SetHandler 4 Note); outcome = Out.Done }
    ∷ record { stamp = 2; event = Events.Call (Thread 1) (record { 0 = 1 }) (Calls.SetHandler 4 Note); outcome = Out.Done }
    ∷ record { stamp = 3; event = Events.Call (Thread 2) (record { 0 = 2 }) (Calls.SetHandler 3 (Add 4)); outcome = Out.Done }
    ∷ record { stamp = 4; event = Events.Call (Thread 0) (record { 0 = 0 }) (Calls.Map 0 (record { 0 = 2 }) (record { 0 = 20 }) 2); outcome = Out.Done }
    ∷ record { stamp = 5; event = Events.Call (Thread 1) (record { 0 = 1 }) (Calls.Map 0 (record { 0 = 2 }) (record { 0 = 20 }) 2); outcome = Out.Done }
    ∷ record { stamp = 6; event = Events.Call (Thread 2) (record { 0 = 2 }) Calls.Poll; outcome = Out.Empty }
    ∷ record { stamp = 7; event = Events.Call (Thread 0) (record { 0 = 0 }) (Calls.Request 0 3 (record { a = 100; b = 0; c = 0; d = 0 })); outcome = Out.Requested message_0_1 }
    ∷ record { stamp = 8; event = Events.Load (record { 0 = 0 }) (record { 0 = 0 }) 0; outcome = Out.Silent }
    ∷ record { stamp = 9; event = Events.Load (record { 0 = 1 }) (record { 0 = 2 }) 0; outcome = Out.Silent }
    ∷ record { stamp = 10; event = Events.Bind (record { 0 = 0 }) (record { 0 = 0 }); outcome = Out.Sent message_0_1 (record { 0 = 1 }) 0 1 0 1 }
    ∷ record { stamp = 11; event = Events.Receive (record { 0 = 1 }) (record { 0 = 0 }) 1; outcome = Out.Received 0 1 0 (Got.Accepted message_0_1 1) }
    ∷ record { stamp = 12; event = Events.Receive (record { 0 = 0 }) (record { 0 = 1 }) 1; outcome = Out.Received 0 1 0 (Got.Delivered message_0_1.serial) }
    ∷ record { stamp = 13; event = Events.Call (Thread 1) (record { 0 = 1 }) (Calls.Request 0 3 (record { a = 23; b = 0; c = 0; d = 0 })); outcome = Out.Requested message_1_1 }
    ∷ record { stamp = 14; event = Events.Load (record { 0 = 0 }) (record { 0 = 1 }) 1; outcome = Out.Silent }
    ∷ record { stamp = 15; event = Events.Bind (record { 0 = 0 }) (record { 0 = 1 }); outcome = Out.Sent message_1_1 (record { 0 = 1 }) 0 2 0 2 }
    ∷ record { stamp = 16; event = Events.Expire (record { 0 = 0 }) (record { 0 = 1 }) 0; outcome = Out.Sent message_1_1 (record { 0 = 1 }) 0 2 1 3 }
    ∷ record { stamp = 17; event = Events.Receive (record { 0 = 1 }) (record { 0 = 0 }) 3; outcome = Out.Received 0 2 1 (Got.Accepted message_1_1 2) }
    ∷ record { stamp = 18; event = Events.Receive (record { 0 = 0 }) (record { 0 = 1 }) 2; outcome = Out.Received 0 2 1 (Got.Delivered message_1_1.serial) }
    ∷ record { stamp = 19; event = Events.Call (Thread 2) (record { 0 = 2 }) Calls.Poll; outcome = Out.Ran (Some 3) message_0_1 (Some message_2_1) }
    ∷ record { stamp = 20; event = Events.Bind (record { 0 = 1 }) (record { 0 = 2 }); outcome = Out.Sent message_2_1 (record { 0 = 0 }) 0 1 0 3 }
    ∷ record { stamp = 21; event = Events.Receive (record { 0 = 0 }) (record { 0 = 1 }) 3; outcome = Out.Received 0 1 0 (Got.Accepted message_2_1 4) }
    ∷ record { stamp = 22; event = Events.Receive (record { 0 = 1 }) (record { 0 = 0 }) 4; outcome = Out.Received 0 1 0 (Got.Delivered message_2_1.serial) }
    ∷ record { stamp = 23; event = Events.Call (Thread 0) (record { 0 = 0 }) Calls.Poll; outcome = Out.Ran (Some 4) message_2_1 None }
    ∷ record { stamp = 24; event = Events.Call (Thread 1) (record { 0 = 1 }) Calls.Poll; outcome = Out.Empty }
    ∷ record { stamp = 25; event = Events.Call (Thread 2) (record { 0 = 2 }) Calls.Poll; outcome = Out.Ran (Some 3) message_1_1 (Some message_2_2) }
    ∷ record { stamp = 26; event = Events.Bind (record { 0 = 1 }) (record { 0 = 2 }); outcome = Out.Sent message_2_2 (record { 0 = 0 }) 0 2 0 4 }
    ∷ record { stamp = 27; event = Events.Receive (record { 0 = 0 }) (record { 0 = 1 }) 4; outcome = Out.Received 0 2 0 (Got.Accepted message_2_2 5) }
    ∷ record { stamp = 28; event = Events.Receive (record { 0 = 1 }) (record { 0 = 0 }) 5; outcome = Out.Received 0 2 0 (Got.Delivered message_2_2.serial) }
    ∷ record { stamp = 29; event = Events.Call Outside (record { 0 = 1 }) Calls.Poll; outcome = Out.Ran (Some 4) message_2_2 None }
    ∷ []
