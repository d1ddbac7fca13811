-- What an interface's turn does with its links and with itself.
use Rattle.std.specs.Prelude.{◌≡◌, ◌≢◌, ℕ, ◌+◌, ◌<◌, ◌≤◌, Some, List, ◌++◌, length, slice_get}
use mathlib.Core.Option.{some}
use lib.ListN.{get_elem?}
use Rattle.atomic_table.specs.Seated.{TableId}
use Rattle.am_names.specs.declared.NodeId.{NodeId}
use Rattle.am_names.specs.declared.Packet.{Packet}
use Rattle.am_places.specs.Seats.{pass_of}
use Rattle.am_endpoint_body.specs.declared.settings.EndSettings.{EndSettings}
use Rattle.am_iface.specs.Settings.{AreLawful}
use Rattle.am_scenario_types.specs.Lists.{ScenarioLists}
use Rattle.am_wire.specs.Links.{spare}
use Rattle.am_wire.specs.declared.sending.LinkOut.{LinkOut}
use Rattle.am_workers_laws.specs.Invariants.Seats.{Ids, IsIdle, SameSeat}
use Rattle.am_workers_laws.specs.Invariants.Works.{InterfaceWorks, held_from}
use Rattle.am_workers.specs.Turns.Servers.{IsInterfaceOf}
use Rattle.am_workers.specs.AtWork.{SameIns, SameOuts, sent_by, taken_by}
use Rattle.am_workers.specs.declared.workers.InterfaceWorker.{InterfaceWorker}

-- on each link but one there is room for a packet more
abbrev pub HaveRoomBut : ℕ → List LinkOut → Type 0
HaveRoomBut last outs = (k : ℕ) (o : LinkOut) → slice_get outs k ≡ Some o → k ≢ last → 1 ≤ spare o

-- on each link there is
abbrev pub HaveRoom : List LinkOut → Type 0
HaveRoom outs = (k : ℕ) (o : LinkOut) → slice_get outs k ≡ Some o → 1 ≤ spare o

-- the same links, and nothing more was emitted on them
pub record AreKept (outs outs' : List LinkOut) : Type 0 where
  pub same : SameOuts outs outs'
  pub sent : (to : NodeId) → sent_by outs' to ≡ sent_by outs to

-- the worker looked at its links: it emitted nothing, and a packet that it took is in its hand
pub record Prepares (w u : InterfaceWorker) : Type 0 where
  pub token : u.seat.token ≡ w.seat.token
  pub interface : u.interface ≡ w.interface
  pub set : u.set ≡ w.set
  pub last : u.last ≡ w.last
  pub outs : AreKept w.outs.items u.outs.items
  pub spared : HaveRoomBut w.last w.outs.items → HaveRoomBut w.last u.outs.items
  pub ins : SameIns w.ins.items u.ins.items
  pub within : w.from < length w.ins.items → u.from < length u.ins.items
  pub taken : (node : NodeId) (got : List Packet) → taken_by w.ins.items node ≡ got ++ held_from node w.hand → taken_by u.ins.items node ≡ got ++ held_from node u.hand

-- the worker may do a work with an endpoint of these places: its seat is a guest's between two stays and was told the endpoints of these
-- numbers, and on each of its links there is room for a packet more
pub record CanServe (table : TableId) (count : ℕ) (ids : Ids) (w : InterfaceWorker) : Type 0 where
  pub idle : IsIdle table w.seat.token
  pub counted : count ≡ length ids
  pub guest : (pass_of w.seat).mark ≢ (pass_of w.seat).seats
  pub births : (k : ℕ) (set : EndSettings) → get_elem? (pass_of w.seat).births k ≡ some set → slice_get ids k ≡ Some set.id
  pub lawful : AreLawful w.set
  pub settings : w.set ≡ w.interface.settings
  pub nodes : length w.outs.items ≡ w.interface.settings.nodes
  pub room : HaveRoom w.outs.items

-- the worker made a turn without a look at its links: what its entry emits was emitted on a link
pub record Serves (table : TableId) (ids : Ids) (w u : InterfaceWorker) : Type 0 where
  pub idle : IsIdle table u.seat.token
  pub seat : SameSeat (pass_of w.seat) (pass_of u.seat)
  pub settings : u.interface.settings ≡ w.interface.settings
  pub set : u.set ≡ w.set
  pub outs : SameOuts w.outs.items u.outs.items
  pub spared : HaveRoomBut u.last u.outs.items
  pub ins : u.ins ≡ w.ins
  pub from_node : u.from ≡ w.from
  pub works : (s : ScenarioLists) (turns : ℕ) → IsInterfaceOf s w.interface → InterfaceWorks s ids w.interface.settings.node turns w.interface.log (sent_by w.outs.items) (taken_by w.ins.items) w.hand (pass_of w.seat)
      → InterfaceWorks s ids w.interface.settings.node (turns + 1) u.interface.log (sent_by u.outs.items) (taken_by u.ins.items) u.hand (pass_of u.seat)
