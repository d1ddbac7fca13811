-- Where endpoints live, as an interface is told, and how an interface begins.
use Rattle.std.specs.Prelude.{◌≡◌, ℕ, ◌≤◌, ◌==◌, Option, Some, None, List, [], length, find, slice_get, if◌then◌else◌}
use Rattle.std.specs.Option.{option_map}
use Rattle.std.specs.List.{All}
use Rattle.am_names.specs.declared.NodeId.{NodeId}
use Rattle.am_scenario_types.specs.declared.parts.EndLine.{EndLine}
use Rattle.am_scenario_types.specs.Lawful.{IsLawfulEnd}
use Rattle.am_iface.specs.View.{InterfaceView}
use Rattle.am_model_scripts.specs.Layout.{is_direct}
use Rattle.am_machine.specs.declared.settings.Settings.{Settings}
use Rattle.am_machine.specs.Beginnings.{CanOpen}

-- the node of the endpoint with this number, if it is declared
abbrev pub home_line : List EndLine → ℕ → Option NodeId
home_line lines id = option_map (λ (line : EndLine). line.node) (find (λ (line : EndLine). id == line.id.0) lines)

-- the home that was told first
abbrev pub first_told : Option NodeId → NodeId → Option NodeId
first_told None node = Some node
first_told (Some home) node = Some home

-- the node of the endpoint with each number below 256
pub record AreHomes (lines : List EndLine) (homes : List (Option NodeId)) : Type 0 where
  pub all : length homes ≡ 256
  pub each : (k : ℕ) (home : Option NodeId) → slice_get homes k ≡ Some home → home ≡ home_line lines k

-- the settings are in the ranges that an interface asks for
pub record CanConnect (s : Settings) (lines : List EndLine) : Type 0 where
  pub can_open : CanOpen s
  pub nodes : s.nodes ≤ 16
  pub channels : (1 ≤ s.channels) × (s.channels ≤ 4)
  pub tries : (2 ≤ s.tries) × (s.tries ≤ 16)
  pub ends : All (IsLawfulEnd s.network s.nodes) lines

-- an interface as it begins
pub record IsFresh (s : Settings) (lines : List EndLine) (node : NodeId) (i : InterfaceView) : Type 0 where
  pub is_node : i.settings.node ≡ node
  pub nodes : i.settings.nodes ≡ s.nodes
  pub channels : i.settings.channels ≡ s.channels
  pub tries : i.settings.tries ≡ s.tries
  pub bounces : i.settings.bounces ≡ s.bounces
  pub limit : i.settings.log ≡ s.log
  pub homes : AreHomes lines i.settings.homes
  pub log : i.log ≡ []

-- so many interfaces of the first nodes, as they begin
pub record AreFreshUpTo (s : Settings) (lines : List EndLine) (count : ℕ) (is : List InterfaceView) : Type 0 where
  pub all : length is ≡ count
  pub each : (k : ℕ) (i : InterfaceView) → slice_get is k ≡ Some i → IsFresh s lines (record { 0 = k }) i

-- one for each node of the packet network
abbrev pub AreFresh : Settings → List EndLine → List InterfaceView → Type 0
AreFresh s lines is = AreFreshUpTo s lines (if is_direct s.network then 0 else s.nodes) is
