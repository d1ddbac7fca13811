-- A run with late, repeated and lost packets, endpoints on disk, page calls that fail, and few frames.
use Rattle.std.specs.Prelude.{true, false, None, List, [], ◌∷◌, unwrap_or}
use Rattle.am_office_entries.specs.declared.HandlerKind.TheVariants.{Note, Echo, Add}
use Rattle.am_office_entries.specs.declared.Call.TheVariants as Calls
use Rattle.am_office_entries.specs.declared.Entry.{Entry}
use Rattle.am_scenario_types.specs.declared.parts.Network.TheVariants as Networks
use Rattle.am_scenario_plan.specs.declared.plan.LinkFault.TheVariants.{Late, Lose, Repeat}
use Rattle.am_scenario_types.specs.Lists.{ScenarioLists}
use Rattle.am_model_drain.specs.Drain.{after_turns}

abbrev pub scenario : ScenarioLists
scenario =
    record {
      network = Networks.Packet;
      nodes = 2;
      frames = 2;
      channels = 2;
      tries = 2;
      bounces = 1;
      pool = None;
      keep = 0;
      log = 65536;
      turns = 0;
      ends =
          record { id = record { 0 = 0 }; node = record { 0 = 0 }; tag = record { 0 = 5 }; disk = false }
          ∷ record { id = record { 0 = 1 }; node = record { 0 = 0 }; tag = record { 0 = 18446744073709551615 }; disk = true }
          ∷ record { id = record { 0 = 2 }; node = record { 0 = 0 }; tag = record { 0 = 9 }; disk = true }
          ∷ record { id = record { 0 = 3 }; node = record { 0 = 1 }; tag = record { 0 = 20 }; disk = false }
          ∷ record { id = record { 0 = 4 }; node = record { 0 = 1 }; tag = record { 0 = 21 }; disk = true }
          ∷ record { id = record { 0 = 5 }; node = record { 0 = 1 }; tag = record { 0 = 22 }; disk = false }
          ∷ [];
      bundles = [];
      threads =
          record { id = 0; node = record { 0 = 0 } }
          ∷ record { id = 1; node = record { 0 = 1 } }
          ∷ [];
      plan =
          record { from = record { 0 = 0 }; to = record { 0 = 1 }; number = 1; fault = (Late 2) }
          ∷ record { from = record { 0 = 0 }; to = record { 0 = 1 }; number = 2; fault = Repeat }
          ∷ record { from = record { 0 = 1 }; to = record { 0 = 0 }; number = 2; fault = Lose }
          ∷ record { from = record { 0 = 0 }; to = record { 0 = 0 }; number = 1; fault = Repeat }
          ∷ record { from = record { 0 = 0 }; to = record { 0 = 0 }; number = 4; fault = Lose }
          ∷ record { from = record { 0 = 0 }; to = record { 0 = 1 }; number = 5; fault = (Late 3) }
          ∷ record { from = record { 0 = 1 }; to = record { 0 = 0 }; number = 5; fault = (Late 1) }
          ∷ [];
      faults =
          record { node = record { 0 = 0 }; number = 1 }
          ∷ record { node = record { 0 = 0 }; number = 2 }
          ∷ record { node = record { 0 = 1 }; number = 1 }
          ∷ [];
      script =
          record { thread = 0; endpoint = record { 0 = 0 }; call = Calls.SetHandler 4 Note }
          ∷ record { thread = 0; endpoint = record { 0 = 0 }; call = Calls.Map 0 (record { 0 = 3 }) (record { 0 = 20 }) 2 }
          ∷ record { thread = 0; endpoint = record { 0 = 0 }; call = Calls.Map 1 (record { 0 = 4 }) (record { 0 = 21 }) 2 }
          ∷ record { thread = 0; endpoint = record { 0 = 0 }; call = Calls.Map 2 (record { 0 = 1 }) (record { 0 = 77 }) 2 }
          ∷ record { thread = 0; endpoint = record { 0 = 1 }; call = Calls.SetHandler 3 (Echo 4) }
          ∷ record { thread = 0; endpoint = record { 0 = 0 }; call = Calls.Request 0 3 (record { a = 100; b = 0; c = 0; d = 0 }) }
          ∷ record { thread = 0; endpoint = record { 0 = 0 }; call = Calls.Request 1 3 (record { a = 101; b = 0; c = 0; d = 0 }) }
          ∷ record { thread = 0; endpoint = record { 0 = 0 }; call = Calls.Request 2 3 (record { a = 102; b = 0; c = 0; d = 0 }) }
          ∷ record { thread = 0; endpoint = record { 0 = 0 }; call = Calls.Request 0 3 (record { a = 103; b = 0; c = 0; d = 0 }) }
          ∷ record { thread = 0; endpoint = record { 0 = 1 }; call = Calls.Poll }
          ∷ record { thread = 0; endpoint = record { 0 = 2 }; call = Calls.Poll }
          ∷ record { thread = 1; endpoint = record { 0 = 3 }; call = Calls.SetHandler 3 (Add 4) }
          ∷ record { thread = 1; endpoint = record { 0 = 4 }; call = Calls.SetHandler 3 (Echo 5) }
          ∷ record { thread = 1; endpoint = record { 0 = 5 }; call = Calls.Map 0 (record { 0 = 2 }) (record { 0 = 9 }) 1 }
          ∷ record { thread = 1; endpoint = record { 0 = 5 }; call = Calls.Request 0 1 (record { a = 7; b = 0; c = 0; d = 0 }) }
          ∷ record { thread = 1; endpoint = record { 0 = 3 }; call = Calls.Poll }
          ∷ record { thread = 1; endpoint = record { 0 = 4 }; call = Calls.Poll }
          ∷ record { thread = 1; endpoint = record { 0 = 5 }; call = Calls.Close }
          ∷ [];
      steps = [];
    }

-- what the drain makes of it
abbrev pub journal : List Entry
journal = unwrap_or (after_turns 68 scenario []) []
