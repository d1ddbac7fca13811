-- The endpoints of several nodes, each node's from the last to the first, and all of them in the order of their lines.
use Rattle.std.specs.Prelude.{◌≡◌, ℕ, ◌<◌, ◌==◌, Bool, Some, List, [], ◌∷◌, ◌++◌, map, reverse, length, slice_get, Contains, if◌then◌else◌}
use Rattle.std.specs.List.{filter}
use Rattle.std.specs.Global.{Vec}
use Rattle.am_names.specs.declared.NodeId.{NodeId}
use Rattle.am_names.specs.Names.{same_node}
use Rattle.am_model.specs.Endpoint.{is_on_disk}
use Rattle.am_model.specs.Layout.{AllAre, EndSetting, node_at}
use Rattle.am_endpoint.specs.View.{EndpointView}
use Rattle.am_model_scripts.specs.Layout.{setting_of}
use Rattle.am_scenario_types.specs.declared.parts.EndLine.{EndLine}

-- how an endpoint is declared
abbrev pub setting_in : EndpointView → EndSetting
setting_in v = record { id = v.settings.id; node = v.settings.node; tag = v.settings.tag; disk = is_on_disk v.settings.place }

-- whether an endpoint of the node is declared so
abbrev pub is_declared_at : NodeId → EndSetting → Bool
is_declared_at node s = same_node node s.node

-- the endpoints of each node are those that are declared there, from the last to the first
pub record AreDeclared (lines : List EndLine) (groups : List (Vec EndpointView)) : Type 0 where
  pub nodes : AllAre (λ (line : EndLine). line.node.0 < length groups) lines
  pub each : (k : ℕ) (g : Vec EndpointView) → slice_get groups k ≡ Some g → map setting_in (reverse g.items) ≡ filter (is_declared_at (node_at k)) (map setting_of lines)

-- each of the endpoints is one of a node's
abbrev pub AreOfGroups : List (Vec EndpointView) → List EndpointView → Type 0
AreOfGroups groups ends = (v : EndpointView) → Contains ends v → (k : ℕ) × ((g : Vec EndpointView) × ((slice_get groups k ≡ Some g) × Contains g.items v))

abbrev pub HasOne : List (Vec EndpointView) → NodeId → Type 0
HasOne groups node = (g : Vec EndpointView) → slice_get groups node.0 ≡ Some g → 0 < length g.items

-- it was the last of the node's, and all others stay
pub record IsLastOf (old : List (Vec EndpointView)) (node : NodeId) (end : EndpointView) (new : List (Vec EndpointView)) : Type 0 where
  pub all : length new ≡ length old
  pub each : (k : ℕ) (g h : Vec EndpointView) → slice_get old k ≡ Some g → slice_get new k ≡ Some h → g.items ≡ h.items ++ (if k == node.0 then end ∷ [] else [])
