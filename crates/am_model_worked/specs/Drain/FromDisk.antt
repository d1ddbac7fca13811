-- A page-in that fails, a repeated packet and a late answer, with a pool.
use Rattle.std.specs.Prelude.{true, false, Some, List, [], ◌∷◌}
use Rattle.am_names.specs.declared.Cause.TheVariants.{BadHandler}
use Rattle.am_names.specs.declared.Verdict.TheVariants as Verdicts
use Rattle.am_names.specs.declared.Why.TheVariants as Whys
use Rattle.am_office_entries.specs.declared.HandlerKind.TheVariants.{Note}
use Rattle.am_office_entries.specs.declared.Actor.TheVariants.{Thread, Outside}
use Rattle.am_office_entries.specs.declared.Call.TheVariants as Calls
use Rattle.am_office_entries.specs.declared.Event.TheVariants as Events
use Rattle.am_office_entries.specs.declared.Received.TheVariants as Got
use Rattle.am_office_entries.specs.declared.Outcome.TheVariants as Out
use Rattle.am_office_entries.specs.declared.Entry.{Entry}
use Rattle.am_scenario_types.specs.declared.parts.Network.TheVariants as Networks
use Rattle.am_scenario_plan.specs.declared.plan.LinkFault.TheVariants.{Late, Repeat}
use Rattle.am_scenario_types.specs.Lists.{ScenarioLists}
use Rattle.am_model.specs.DelayedTry.{request}

abbrev pub scenario : ScenarioLists
scenario =
    record {
      network = Networks.Packet;
      nodes = 1;
      frames = 16;
      channels = 1;
      tries = 2;
      bounces = 1;
      pool = Some 1;
      keep = 64;
      log = 65536;
      turns = 0;
      ends =
          record { id = record { 0 = 0 }; node = record { 0 = 0 }; tag = record { 0 = 5 }; disk = false }
          ∷ record { id = record { 0 = 1 }; node = record { 0 = 0 }; tag = record { 0 = 7 }; disk = true }
          ∷ [];
      bundles = [];
      threads =
          record { id = 0; node = record { 0 = 0 } }
          ∷ [];
      plan =
          record { from = record { 0 = 0 }; to = record { 0 = 0 }; number = 1; fault = Repeat }
          ∷ record { from = record { 0 = 0 }; to = record { 0 = 0 }; number = 2; fault = (Late 1) }
          ∷ [];
      faults =
          record { node = record { 0 = 0 }; number = 1 }
          ∷ [];
      script =
          record { thread = 0; endpoint = record { 0 = 0 }; call = Calls.Map 0 (record { 0 = 1 }) (record { 0 = 7 }) 0 }
          ∷ record { thread = 0; endpoint = record { 0 = 0 }; call = Calls.Request 0 1 (record { a = 9; b = 0; c = 0; d = 0 }) }
          ∷ record { thread = 0; endpoint = record { 0 = 1 }; call = Calls.SetHandler 1 Note }
          ∷ [];
      steps = [];
    }

abbrev pub journal : List Entry
journal =
    record { stamp = 1; event = Events.Call (Thread 0) (record { 0 = 0 }) (Calls.Map 0 (record { 0 = 1 }) (record { 0 = 7 }) 0); outcome = Out.Done }
    ∷ record { stamp = 2; event = Events.Call (Thread 0) (record { 0 = 0 }) (Calls.Request 0 1 (record { a = 9; b = 0; c = 0; d = 0 })); outcome = Out.Requested request }
    ∷ record { stamp = 3; event = Events.Load (record { 0 = 0 }) (record { 0 = 0 }) 0; outcome = Out.Silent }
    ∷ record { stamp = 4; event = Events.PageIn (record { 0 = 0 }) (record { 0 = 1 }); outcome = Out.Failed }
    ∷ record { stamp = 5; event = Events.PageIn (record { 0 = 0 }) (record { 0 = 1 }); outcome = Out.Done }
    ∷ record { stamp = 6; event = Events.Load (record { 0 = 0 }) (record { 0 = 1 }) 1; outcome = Out.Silent }
    ∷ record { stamp = 7; event = Events.Bind (record { 0 = 0 }) (record { 0 = 0 }); outcome = Out.Sent request (record { 0 = 0 }) 0 1 0 1 }
    ∷ record { stamp = 8; event = Events.Receive (record { 0 = 0 }) (record { 0 = 0 }) 1; outcome = Out.Received 0 1 0 (Got.Refused request BadHandler 2) }
    ∷ record { stamp = 9; event = Events.Receive (record { 0 = 0 }) (record { 0 = 0 }) 1; outcome = Out.Received 0 1 0 (Got.Again request.serial (Verdicts.Refused BadHandler) 3) }
    ∷ record { stamp = 10; event = Events.Receive (record { 0 = 0 }) (record { 0 = 0 }) 3; outcome = Out.Received 0 1 0 (Got.Returned request.serial BadHandler) }
    ∷ record { stamp = 11; event = Events.Receive (record { 0 = 0 }) (record { 0 = 0 }) 2; outcome = Out.Received 0 1 0 Got.Nothing }
    ∷ record { stamp = 12; event = Events.Call (Thread 0) (record { 0 = 1 }) (Calls.SetHandler 1 Note); outcome = Out.Done }
    ∷ record { stamp = 13; event = Events.Call Outside (record { 0 = 0 }) Calls.Poll; outcome = Out.Zero request.serial (Whys.Refused BadHandler) }
    ∷ []
