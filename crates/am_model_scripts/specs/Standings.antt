-- The endpoints of a cluster as they stand.
use Rattle.std.specs.Prelude.{◌≡◌, ℕ, ◌+◌, Bool, true, ◌==◌, ◌&&◌, not, List, map, length}
use Rattle.std.specs.List.{list_all, range_with_len}
use Rattle.am_names.specs.declared.EndpointId.{EndpointId}
use Rattle.am_names.specs.declared.NodeId.{NodeId}
use Rattle.am_names.specs.Names.{same_end, same_node}
use Rattle.am_office_entries.specs.declared.Entry.{Entry}
use Rattle.am_model.specs.Endpoint.{Body, State, is_on_disk}
use Rattle.am_model.specs.Layout.{Layout, EndSetting}
use Rattle.am_model.specs.History.{state_of, is_bound, channel_to}
use Rattle.am_scenario_types.specs.Lists.{ScenarioLists}
use Rattle.am_model_scripts.specs.Layout.{layout_of}
use Rattle.am_model_scripts.specs.Links.{EachLink}

-- an endpoint as it stands
pub record Standing : Type 0 where
  pub setting : EndSetting
  pub state : State

-- a declared endpoint as it stands after these entries
abbrev pub standing_in : Layout → List Entry → EndSetting → Standing
standing_in layout past s = record { setting = s; state = state_of layout past s.id }

-- the endpoints as they stand, in ascending order
abbrev pub standings : Layout → List Entry → List Standing
standings layout past = map (standing_in layout past) layout.ends

abbrev pub is_standing_of : EndpointId → Standing → Bool
is_standing_of e s = same_end e s.setting.id

abbrev pub is_of_node : NodeId → Standing → Bool
is_of_node node s = same_node node s.setting.node

-- whether an endpoint is on disk and wanted
abbrev pub is_missed : Standing → Bool
is_missed s = s.state.head.wanted && is_on_disk s.state.head.place

-- how many messages the lists of an endpoint hold
abbrev pub messages_in : Body → ℕ
messages_in b = length b.requests + length b.replies + length b.in_flight + length b.notices + length b.received

abbrev pub holds_nothing : Standing → Bool
holds_nothing s = messages_in s.state.body == 0

-- whether no channel from one node to another is bound
abbrev pub is_idle : ScenarioLists → List Entry → NodeId → NodeId → Bool
is_idle scenario past node peer = list_all (λ (number : ℕ). not (is_bound (channel_to node peer number) past)) (range_with_len 0 scenario.channels)

-- at rest: no channel is bound, no message is held, and no wanted endpoint is on disk
pub record IsAtRest (scenario : ScenarioLists) (journal : List Entry) : Type 0 where
  pub channels : EachLink scenario (λ peer node. is_idle scenario journal node peer ≡ true)
  pub messages : list_all holds_nothing (standings (layout_of scenario) journal) ≡ true
  pub wanted : list_all (λ (s : Standing). not (is_missed s)) (standings (layout_of scenario) journal) ≡ true
