-- What a work of an interface makes of its parts: the interface, and the endpoint that it touches.
use Rattle.std.specs.Prelude.{◌≡◌, ◌≢◌, ◌+◌, ◌-◌, ◌^◌, ◌<◌, ◌≤◌, false, Some, None, Result, Ok, Err, List, [], ◌∷◌, ◌++◌, length, slice_get}
use Rattle.am_names.specs.declared.NodeId.{NodeId}
use Rattle.am_office_entries.specs.declared.Entry.{Entry}
use Rattle.am_model.specs.Channels.{emitted}
use Rattle.am_model.specs.Endpoint.{State, is_direct}
use Rattle.am_model.specs.declared.EntryFault.{EntryFault}
use Rattle.am_model.specs.declared.EntryFault.TheVariants as Faults
use Rattle.am_model_parts.specs.declared.work.Work.{Work}
use Rattle.am_model_parts.specs.declared.work.Work.TheVariants as Works
use Rattle.am_model_parts.specs.Granted.{FitsEndpoint}
use Rattle.am_model_parts.specs.Interface.{event_of, failing_at, home_in, needs, outcome_at, stamp_in}
use Rattle.am_model.specs.Packets.{from_of, number_of}
use Rattle.am_model_drain.specs.Made.{next_stamp}
use Rattle.am_machine_journal.specs.Index.View.{CanCount, Readings}
use Rattle.am_endpoint.specs.View.{EndpointView, state_after}
use Rattle.am_iface.specs.View.{FitsInterface, InterfaceView, own}
use Rattle.am_model.specs.Parts.{last_stamp}
use Rattle.am_iface.specs.Turns.{HasRoom, IsFull}
use Rattle.am_iface.specs.With.{HasRoomWith, IsFullOf, KnowsHome}
use Rattle.am_driver_moves.specs.Logs.{EndLog, kept, state_in}

-- the entry of a work, with the next stamp
abbrev pub entry_of_work : InterfaceView → List Entry → State → Work → Entry
entry_of_work i past s w = record { stamp = next_stamp past; event = event_of i.settings.node w; outcome = outcome_at (own i) s w }

-- what was answered with the entry that was made, if one was
abbrev pub told : Entry → Result (Unit {0}) EntryFault → Result Entry EntryFault
told x (Ok made) = Ok x
told x (Err fault) = Err fault

-- the entries and the one that was made, if one was
abbrev pub entries_after : List Entry → Result Entry EntryFault → List Entry
entries_after past (Ok x) = past ++ x ∷ []
entries_after past (Err fault) = past

pub record IsTurned (i j : InterfaceView) (past : List Entry) (s : State) (w : Work) (x : Entry) : Type 0 where
  pub enabled : failing_at (own i) s w ≡ None
  pub room : length i.log ≢ i.settings.log
  pub entry : x ≡ entry_of_work i past s w
  pub interface : j ≡ record i { log = i.log ++ x ∷ [] }

-- a work that touches no endpoint, whatever the state of one
abbrev pub TurnsAlone : InterfaceView → InterfaceView → List Entry → State → Work → Result Entry EntryFault → Type 0
TurnsAlone i j past s w (Ok x) = IsTurned i j past s w x
TurnsAlone i j past s w (Err (Faults.NotEnabled condition)) = (failing_at (own i) s w ≡ Some condition) × (j ≡ i)
TurnsAlone i j past s w (Err (Faults.LogFull part)) = (failing_at (own i) s w ≡ None) × IsFull i part × (j ≡ i)
TurnsAlone i j past s w (Err Faults.NoMemory) = HasRoom i s w × (j ≡ i)

-- an endpoint had room in its log, and has the entry at the end of it
pub record IsGrown (d : EndLog) (f : EndpointView) (x : Entry) : Type 0 where
  pub room : length d.log < d.settings.log
  pub settings : f.settings ≡ d.settings
  pub log : f.log ≡ d.log ++ x ∷ []

-- a work that touches this endpoint
abbrev pub TurnsWith : InterfaceView → InterfaceView → EndpointView → EndpointView → List Entry → Work → Result Entry EntryFault → Type 0
TurnsWith i j e f past w (Ok x) = IsTurned i j past (state_after e) w x × IsGrown (kept e) f x
TurnsWith i j e f past w (Err (Faults.NotEnabled condition)) = (failing_at (own i) (state_after e) w ≡ Some condition) × (j ≡ i) × (kept f ≡ kept e)
TurnsWith i j e f past w (Err (Faults.LogFull part)) = (failing_at (own i) (state_after e) w ≡ None) × IsFullOf i e part × (j ≡ i) × (kept f ≡ kept e)
TurnsWith i j e f past w (Err Faults.NoMemory) = HasRoomWith i e w × (j ≡ i) × (kept f ≡ kept e)

-- the interface is of a cluster of at most 16 nodes
abbrev pub IsOfCluster : InterfaceView → Type 0
IsOfCluster i = (i.settings.node.0 < 16) × (i.settings.nodes ≤ 16)

-- the packet in hand, if the work has one, is the one with its number on its link to the node
abbrev pub IsTaken : List Entry → NodeId → Work → Type 0
IsTaken past node (Works.Receive p) = slice_get (emitted (from_of p) node past) (number_of p - 1) ≡ Some p
IsTaken past node (Works.Bind end) = Unit {0}
IsTaken past node (Works.Expire peer channel) = Unit {0}

-- the interface can be given the work after the entries of which the index reads this
pub record CanTurn (i : InterfaceView) (r : Readings) (w : Work) : Type 0 where
  pub fits : FitsInterface i w
  pub stamp : r.greatest + 1 < 2 ^ 64
  pub counts : CanCount r
  pub last : last_stamp i.log ≤ r.greatest
  pub packet : stamp_in w ≤ r.greatest
  pub nodes : IsOfCluster i

-- and the work touches this endpoint, which can be given its entry
pub record CanTurnWith (i : InterfaceView) (d : EndLog) (r : Readings) (w : Work) : Type 0 where
  pub turn : CanTurn i r w
  pub needed : needs (own i) w ≡ Some d.settings.id
  pub home : home_in (own i) d.settings.id ≡ Some d.settings.node
  pub network : is_direct (state_in d).head.place ≡ false
  pub bounces : d.settings.bounces ≡ i.settings.bounces
  pub known : KnowsHome (own i) (state_in d) w
  pub flies : FitsEndpoint (own i) (state_in d) w
  pub last : last_stamp d.log ≤ r.greatest
  pub short : length d.log ≤ d.settings.log
