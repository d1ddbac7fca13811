-- The layout in which a scenario begins, and the events of its steps.
use Rattle.std.specs.Prelude.{Bool, true, false, List, map}
use Rattle.am_office_entries.specs.declared.Event.{Event}
use Rattle.am_scenario_types.specs.declared.parts.Network.{Network}
use Rattle.am_scenario_types.specs.declared.parts.Network.TheVariants as Networks
use Rattle.am_scenario_types.specs.declared.parts.EndLine.{EndLine}
use Rattle.am_scenario_types.specs.declared.parts.FaultLine.{FaultLine}
use Rattle.am_scenario_types.specs.declared.parts.StepLine.{StepLine}
use Rattle.am_scenario_types.specs.Lists.{ScenarioLists}
use Rattle.am_model.specs.Layout.{Layout, EndSetting, Fault}

abbrev pub is_direct : Network → Bool
is_direct Networks.Direct = true
is_direct Networks.Packet = false

abbrev pub setting_of : EndLine → EndSetting
setting_of line = record { id = line.id; node = line.node; tag = line.tag; disk = line.disk }

abbrev pub fault_of : FaultLine → Fault
fault_of line = record { node = line.node; number = line.number }

-- what a cluster of this scenario begins with
abbrev pub layout_of : ScenarioLists → Layout
layout_of scenario =
    record {
      direct = is_direct scenario.network;
      nodes = scenario.nodes;
      frames = scenario.frames;
      channels = scenario.channels;
      tries = scenario.tries;
      bounces = scenario.bounces;
      pool = scenario.pool;
      log = scenario.log;
      ends = map setting_of scenario.ends;
      faults = map fault_of scenario.faults;
    }

-- the events of a step script, in the order of the lines
abbrev pub events_of : List StepLine → List Event
events_of steps = map (λ (step : StepLine). step.event) steps
