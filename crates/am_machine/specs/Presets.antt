-- How the swaps of a cluster begin: an endpoint that is declared on disk has its opening image there.
use Rattle.std.specs.Prelude.{◌≡◌, ℕ, Bool, true, false, ◌&&◌, Some, List, [], ◌∷◌, length, map, slice_get, if◌then◌else◌}
use Rattle.std.specs.List.{filter}
use Rattle.am_names.specs.declared.NodeId.{NodeId}
use Rattle.am_names.specs.Names.{same_node}
use Rattle.am_office_entries.specs.declared.Place.TheVariants.{Disk}
use Rattle.am_model.specs.Endpoint.{Body, fresh}
use Rattle.am_model.specs.Layout.{node_at}
use Rattle.am_swap_device.specs.Memory.{Store, with_held}
use Rattle.am_swap_image.specs.Image.{image}
use Rattle.am_scenario_types.specs.declared.parts.EndLine.{EndLine}
use Rattle.am_scenario_types.specs.declared.parts.FaultLine.{FaultLine}
use Rattle.am_model_scripts.specs.Layout.{is_direct}
use Rattle.am_machine.specs.declared.settings.Settings.{Settings}

abbrev pub is_of_node : NodeId → FaultLine → Bool
is_of_node node fault = same_node node fault.node

-- the numbers of the node's page calls that fail
abbrev pub fails_of : NodeId → List FaultLine → List ℕ
fails_of node faults = map (λ (f : FaultLine). f.number) (filter (is_of_node node) faults)

-- the body of an endpoint that begins on disk
abbrev pub opening_body : EndLine → Body
opening_body line = (fresh line.tag Disk).body

-- whether it is declared on the disk of the node
abbrev pub begins_on : NodeId → EndLine → Bool
begins_on node line = line.disk && same_node node line.node

-- a swap with the opening image of the endpoint, or without
abbrev pub preset_if : Bool → EndLine → Store → Store
preset_if true line s = with_held s line.id (image (opening_body line))
preset_if false line s = s

-- a swap with the opening images of the endpoints that begin there
abbrev pub preset_all : NodeId → List EndLine → Store → Store
preset_all node [] s = s
preset_all node (line ∷ lines) s = preset_all node lines (preset_if (begins_on node line) line s)

abbrev pub opened_swap : List FaultLine → List EndLine → NodeId → Store
opened_swap faults lines node = preset_all node lines (record { held = []; fails = fails_of node faults; calls = 0; faults = 0 })

-- so many swaps of the first nodes, as they begin
pub record AreOpenedUpTo (faults : List FaultLine) (lines : List EndLine) (count : ℕ) (ss : List Store) : Type 0 where
  pub all : length ss ≡ count
  pub each : (k : ℕ) (s : Store) → slice_get ss k ≡ Some s → s ≡ opened_swap faults lines (node_at k)

-- one for each node of the packet network
abbrev pub AreOpened : Settings → List FaultLine → List EndLine → List Store → Type 0
AreOpened s faults lines ss = AreOpenedUpTo faults lines (if is_direct s.network then 0 else s.nodes) ss
