-- The answer to the last try is lost.
use Rattle.std.specs.Prelude.{false, Some, None, List, [], ◌∷◌}
use Rattle.am_names.specs.declared.Message.{Message}
use Rattle.am_names.specs.declared.MsgKind.TheVariants as Kind
use Rattle.am_names.specs.declared.Cause.TheVariants.{NoRequest}
use Rattle.am_names.specs.declared.Why.TheVariants as Whys
use Rattle.am_office_entries.specs.declared.HandlerKind.TheVariants.{Note}
use Rattle.am_office_entries.specs.declared.Actor.TheVariants.{Thread, Outside}
use Rattle.am_office_entries.specs.declared.Call.TheVariants as Calls
use Rattle.am_office_entries.specs.declared.Event.TheVariants as Events
use Rattle.am_office_entries.specs.declared.Received.TheVariants as Got
use Rattle.am_office_entries.specs.declared.Outcome.TheVariants as Out
use Rattle.am_office_entries.specs.declared.Entry.{Entry}
use Rattle.am_scenario_types.specs.declared.parts.Network.TheVariants as Networks
use Rattle.am_scenario_plan.specs.declared.plan.LinkFault.TheVariants.{Lose}
use Rattle.am_scenario_types.specs.Lists.{ScenarioLists}
use Rattle.am_model.specs.DelayedTry.{request}

abbrev pub scenario : ScenarioLists
scenario =
    record {
      network = Networks.Packet;
      nodes = 1;
      frames = 16;
      channels = 1;
      tries = 2;
      bounces = 1;
      pool = None;
      keep = 64;
      log = 65536;
      turns = 0;
      ends =
          record { id = record { 0 = 0 }; node = record { 0 = 0 }; tag = record { 0 = 5 }; disk = false }
          ∷ record { id = record { 0 = 1 }; node = record { 0 = 0 }; tag = record { 0 = 7 }; disk = false }
          ∷ [];
      bundles = [];
      threads =
          record { id = 0; node = record { 0 = 0 } }
          ∷ [];
      plan =
          record { from = record { 0 = 0 }; to = record { 0 = 0 }; number = 1; fault = Lose }
          ∷ record { from = record { 0 = 0 }; to = record { 0 = 0 }; number = 3; fault = Lose }
          ∷ [];
      faults = [];
      script =
          record { thread = 0; endpoint = record { 0 = 1 }; call = Calls.SetHandler 1 Note }
          ∷ record { thread = 0; endpoint = record { 0 = 0 }; call = Calls.Map 0 (record { 0 = 1 }) (record { 0 = 7 }) 1 }
          ∷ record { thread = 0; endpoint = record { 0 = 0 }; call = Calls.Request 0 1 (record { a = 9; b = 0; c = 0; d = 0 }) }
          ∷ record { thread = 0; endpoint = record { 0 = 1 }; call = Calls.Poll }
          ∷ [];
      steps = [];
    }

abbrev pub message_1_1 : Message
message_1_1 =
    record {
      serial = record { source = record { 0 = 1 }; count = 1 };
      kind = Kind.Empty;
      dest = record { 0 = 0 };
      tag = record { 0 = 5 };
      reply_tag = record { 0 = 0 };
      handler = 0;
      words = record { a = 0; b = 0; c = 0; d = 0 };
      about = Some request.serial;
    }

abbrev pub journal : List Entry
journal =
    record { stamp = 1; event = Events.Call (Thread 0) (record { 0 = 1 }) (Calls.SetHandler 1 Note); outcome = Out.Done }
    ∷ record { stamp = 2; event = Events.Call (Thread 0) (record { 0 = 0 }) (Calls.Map 0 (record { 0 = 1 }) (record { 0 = 7 }) 1); outcome = Out.Done }
    ∷ record { stamp = 3; event = Events.Call (Thread 0) (record { 0 = 0 }) (Calls.Request 0 1 (record { a = 9; b = 0; c = 0; d = 0 })); outcome = Out.Requested request }
    ∷ record { stamp = 4; event = Events.Load (record { 0 = 0 }) (record { 0 = 0 }) 0; outcome = Out.Silent }
    ∷ record { stamp = 5; event = Events.Load (record { 0 = 0 }) (record { 0 = 1 }) 1; outcome = Out.Silent }
    ∷ record { stamp = 6; event = Events.Bind (record { 0 = 0 }) (record { 0 = 0 }); outcome = Out.Sent request (record { 0 = 0 }) 0 1 0 1 }
    ∷ record { stamp = 7; event = Events.Expire (record { 0 = 0 }) (record { 0 = 0 }) 0; outcome = Out.Sent request (record { 0 = 0 }) 0 1 1 2 }
    ∷ record { stamp = 8; event = Events.Receive (record { 0 = 0 }) (record { 0 = 0 }) 2; outcome = Out.Received 0 1 1 (Got.Accepted request 3) }
    ∷ record { stamp = 9; event = Events.Expire (record { 0 = 0 }) (record { 0 = 0 }) 0; outcome = Out.Unknown request.serial }
    ∷ record { stamp = 10; event = Events.Call (Thread 0) (record { 0 = 1 }) Calls.Poll; outcome = Out.Ran (Some 1) request (Some message_1_1) }
    ∷ record { stamp = 11; event = Events.Bind (record { 0 = 0 }) (record { 0 = 1 }); outcome = Out.Sent message_1_1 (record { 0 = 0 }) 0 2 0 4 }
    ∷ record { stamp = 12; event = Events.Receive (record { 0 = 0 }) (record { 0 = 0 }) 4; outcome = Out.Received 0 2 0 (Got.Refused message_1_1 NoRequest 5) }
    ∷ record { stamp = 13; event = Events.Receive (record { 0 = 0 }) (record { 0 = 0 }) 5; outcome = Out.Received 0 2 0 (Got.Returned message_1_1.serial NoRequest) }
    ∷ record { stamp = 14; event = Events.Call Outside (record { 0 = 0 }) Calls.Poll; outcome = Out.Zero request.serial Whys.Unknown }
    ∷ record { stamp = 15; event = Events.Call Outside (record { 0 = 1 }) Calls.Poll; outcome = Out.Zero message_1_1.serial (Whys.Refused NoRequest) }
    ∷ []
