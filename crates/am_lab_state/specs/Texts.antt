-- The text of a state.
use Rattle.std.specs.Prelude.{ℕ, List, [], ◌++◌}
use Rattle.std.specs.List.{flat_map}
use Rattle.am_office_entries.specs.declared.Entry.{Entry}
use Rattle.am_scenario_types.specs.Lists.{ScenarioLists}
use Rattle.am_scenario_types.specs.declared.parts.EndLine.{EndLine}
use Rattle.am_scenario_types.specs.declared.parts.Network.{Network}
use Rattle.am_scenario_types.specs.declared.parts.Network.TheVariants.{Direct, Packet}
use Rattle.am_model_scripts.specs.Layout.{layout_of}
use Rattle.am_lab_state.specs.Channels.{all_channels}
use Rattle.am_lab_state.specs.Ends.{end_lines}
use Rattle.am_lab_state.specs.Links.{all_links}
use Rattle.am_lab_state.specs.Messages.{all_messages}
use Rattle.am_lab_state.specs.Nodes.{all_stores}
use Rattle.am_lab_state.specs.Threads.{all_threads}

-- a declared endpoint as it stands after these entries
abbrev pub declared_lines : ScenarioLists → List Entry → EndLine → List ℕ
declared_lines s past end = end_lines (layout_of s) past end.id

-- the endpoints, by number
abbrev pub all_ends : ScenarioLists → List Entry → List ℕ
all_ends s past = flat_map (declared_lines s past) s.ends

-- what there is in the packet network alone: frames and disks, channels, links and threads
abbrev pub packet_lines : Network → ScenarioLists → List Entry → List ℕ
packet_lines Direct s past = []
packet_lines Packet s past = all_stores s past ++ all_channels s past ++ all_links s past ++ all_threads s past

-- The state of the machine of a scenario after these entries.
abbrev pub state_text : ScenarioLists → List Entry → List ℕ
state_text s past = all_ends s past ++ packet_lines s.network s past ++ all_messages s past
