-- What an interface's turns are for its scenario.
use Rattle.std.specs.Prelude.{if◌then◌else◌, ◌≡◌, ℕ, ◌<◌, ◌≤◌, ◌^◌, Option, Some, None, List, [], ◌∷◌, IsSome}
use Rattle.am_names.specs.declared.NodeId.{NodeId}
use Rattle.am_names.specs.declared.Packet.{Packet}
use Rattle.am_names.specs.declared.Packet.TheVariants as Packets
use Rattle.am_names.specs.Names.{same_node}
use Rattle.am_model.specs.Endpoint.{entry_at}
use Rattle.am_model.specs.Packets.{receiver_of, from_of}
use Rattle.am_model_parts.specs.Together.{IsSet}
use Rattle.am_model_parts.specs.declared.work.Work.{Work}
use Rattle.am_model_parts.specs.declared.work.Work.TheVariants as Works
use Rattle.am_iface.specs.Settings.{SettingsView}
use Rattle.am_iface.specs.View.{InterfaceView, IsChannelOf, own}
use Rattle.am_scenario_types.specs.Lists.{ScenarioLists}
use Rattle.am_model_scripts.specs.Layout.{layout_of}
use Rattle.am_workers_laws.specs.Invariants.Works.{Hand}
use Rattle.am_workers.specs.declared.turns.turns.InterfaceTurn.{InterfaceTurn}
use Rattle.am_workers.specs.declared.turns.turns.InterfaceTurn.TheVariants as Worked

-- the interface is one of the scenario
pub record IsInterfaceOf (s : ScenarioLists) (i : InterfaceView) : Type 0 where
  pub set : IsSet (layout_of s) (own i)
  pub tries : 2 ≤ s.tries
  pub nodes : i.settings.nodes ≡ s.nodes

-- a packet comes from a node of the settings, and its number may be one
pub record IsNumbered (set : SettingsView) (from : NodeId) (number : ℕ) : Type 0 where
  pub from_node : from.0 < set.nodes
  pub first : 1 ≤ number
  pub last : number < 2 ^ 32

-- the numbers of the work's event are in range for an interface with these settings
abbrev pub IsRanged : SettingsView → Work → Type 0
IsRanged set (Works.Receive (Packets.Parcel p)) = IsNumbered set p.from p.number
IsRanged set (Works.Receive (Packets.Answer p)) = IsNumbered set p.from p.number
IsRanged set (Works.Bind end) = IsSome (entry_at set.homes end.0)
IsRanged set (Works.Expire peer channel) = IsChannelOf set peer channel

-- it holds where the turn made an entry
abbrev pub IfMade : InterfaceTurn → Type 0 → Type 0
IfMade (Worked.Made t) P = P
IfMade turn P = Unit {0}

-- the packet that a turn's entry emits, if any
abbrev pub out_of : InterfaceTurn → Option Packet
out_of (Worked.Made t) = t.out
out_of turn = None

-- what of it goes to this node
abbrev pub sent_to : NodeId → Option Packet → List Packet
sent_to to None = []
sent_to to (Some p) = if same_node to (receiver_of p) then p ∷ [] else []

-- a packet goes from the interface's node to one of the nodes
pub record GoesOut (i : InterfaceView) (p : Packet) : Type 0 where
  pub from_node : from_of p ≡ i.settings.node
  pub to_node : (receiver_of p).0 < i.settings.nodes

-- a packet that is received was in hand, and came by its sender's link
abbrev pub HandMoves : Hand → Hand → Work → Type 0
HandMoves hand hand' (Works.Receive p) = (hand ≡ Some (from_of p, p)) × (hand' ≡ None)
HandMoves hand hand' (Works.Bind end) = hand' ≡ hand
HandMoves hand hand' (Works.Expire peer channel) = hand' ≡ hand

-- a packet that is to be received is in hand, and came by its sender's link
abbrev pub HandHolds : Hand → Work → Type 0
HandHolds hand (Works.Receive p) = hand ≡ Some (from_of p, p)
HandHolds hand (Works.Bind end) = Unit {0}
HandHolds hand (Works.Expire peer channel) = Unit {0}

-- what is in hand after a turn: a packet that was received is not
abbrev pub hand_after : Hand → Work → InterfaceTurn → Hand
hand_after hand (Works.Receive p) (Worked.Made t) = None
hand_after hand w turn = hand
