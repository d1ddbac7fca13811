-- How a node's driver keeps what its worker keeps, from its first turn on.
use Rattle.std.specs.Prelude.{◌≡◌, ℕ, ◌+◌, ◌<◌, ◌^◌, false}
use Rattle.am_names.specs.declared.NodeId.{NodeId}
use Rattle.am_office_entries.specs.declared.Entry.{Entry}
use Rattle.am_swap_device.specs.Causes.{Device}
use Rattle.am_model_parts.specs.Together.{AreDeclaredOnce, ends_of}
use Rattle.am_driver_moves.specs.Choice.Lists.{ViewLists}
use Rattle.am_scenario_types.specs.Lists.{ScenarioLists}
use Rattle.am_model_scripts.specs.Layout.{layout_of}
use Rattle.am_workers_laws.specs.Invariants.Drives.{IsLook, IsMoved}
use Rattle.am_workers_laws.specs.Invariants.Seats.{EndPass, Ids, IsBusy}
use Rattle.am_workers_laws.specs.Invariants.Works.{DriverWorks}

-- the endpoints are those of a node of the packet network, and so many turns can be counted
pub record IsDriverOf (s : ScenarioLists) (ids : Ids) (node : NodeId) (turns : ℕ) : Type 0 where
  pub packet : (layout_of s).direct ≡ false
  pub once : AreDeclaredOnce (layout_of s)
  pub ends : ids ≡ ends_of (layout_of s) node
  pub declared : node.0 < s.nodes
  pub few : turns + 1 < 2 ^ 64

-- a driver that looked at an endpoint keeps its works, as that of a seat that saw more
abbrev pub DriversLook : Type 0
DriversLook =
    (s : ScenarioLists) (ids : Ids) (node : NodeId) (turns k clock : ℕ) (view view' : ViewLists) (device : Device) (v w : EndPass) → DriverWorks s ids node turns clock view device v → IsLook k view view' v w → DriverWorks s ids node turns clock view' device w

-- one that made a move keeps them, with one turn more
abbrev pub DriversGoOn : Type 0
DriversGoOn =
    (s : ScenarioLists) (ids : Ids) (node : NodeId) (turns k clock : ℕ) (view view' : ViewLists) (device device' : Device) (v w : EndPass) (x : Entry) → IsDriverOf s ids node turns → DriverWorks s ids node turns clock view device v → IsMoved node k clock view view' device device' v w x → DriverWorks s ids node (turns + 1) x.stamp view' device' w

-- and one that made none
abbrev pub DriversRest : Type 0
DriversRest = (s : ScenarioLists) (ids : Ids) (node : NodeId) (turns clock : ℕ) (view : ViewLists) (device : Device) (v : EndPass) → DriverWorks s ids node turns clock view device v → DriverWorks s ids node (turns + 1) clock view device v

-- and one that met another seat
abbrev pub DriversWait : Type 0
DriversWait =
    (s : ScenarioLists) (ids : Ids) (node : NodeId) (turns k holder clock : ℕ) (view : ViewLists) (device : Device) (v w : EndPass) → DriverWorks s ids node turns clock view device v → IsBusy k holder v w → DriverWorks s ids node turns clock view device w
