-- How each worker of a node begins: with no turn made, at a seat of places that were just made for these books.
use Rattle.std.specs.Prelude.{◌≡◌, ◌≢◌, ℕ, ◌+◌, ◌<◌, ◌≤◌, true, false, Option, Some, None, List, [], length, map, slice_get}
use Rattle.atomic_table.specs.Seated.{TableId}
use Rattle.atomic_table.specs.declared.shared.Seat.{Seat}
use Rattle.am_names.specs.declared.EndpointId.{EndpointId}
use Rattle.am_names.specs.declared.NodeId.{NodeId}
use Rattle.am_workers_laws.specs.Books.Books.{stands_at}
use Rattle.am_workers_laws.specs.declared.books.EndBook.{EndBook}
use Rattle.am_swap_device.specs.Memory.{Store, device_of}
use Rattle.am_driver_moves.specs.Choice.Lists.{ViewLists}
use Rattle.am_driver_moves.specs.Choice.Views.{line_of}
use Rattle.am_endpoint.specs.View.{state_after}
use Rattle.am_model_scripts.specs.Layout.{layout_of}
use Rattle.am_iface.specs.Settings.{AreLawful}
use Rattle.am_iface.specs.View.{own}
use Rattle.am_model_parts.specs.Together.{IsSet, faults_of}
use Rattle.am_model.specs.Layout.{AllAre}
use Rattle.am_scenario_types.specs.Lists.{ScenarioLists}
use Rattle.am_model_scripts.specs.Follows.{is_thread}
use Rattle.am_workers.specs.Turns.Callers.{IsScript}
use Rattle.am_wire.specs.Links.{emitted, received}
use Rattle.am_wire.specs.declared.receiving.LinkIn.{LinkIn}
use Rattle.am_wire.specs.declared.sending.LinkOut.{LinkOut}
use Rattle.am_workers_laws.specs.Invariants.Begins.{AreFresh, ids_of, IsOpenIn}
use Rattle.am_workers_laws.specs.Invariants.Seats.{EndPass}
use Rattle.am_workers_laws.specs.Invariants.Stands.{fresh_pass}
use Rattle.am_workers_laws.specs.Invariants.Works.{DriverWorks}
use Rattle.am_workers.specs.AtWork.{AreOuts, IsDriverAtWork, IsInterfaceAtWork, IsThreadAtWork}
use Rattle.am_workers.specs.declared.workers.ThreadWorker.{ThreadWorker}
use Rattle.am_workers.specs.declared.workers.InterfaceWorker.{InterfaceWorker}
use Rattle.am_workers.specs.declared.workers.DriverWorker.{DriverWorker}

-- ---- a seat

-- the seat with this number, from 0, of so many of the places for these books, which were just made
pub record IsNewSeat (table : TableId) (books : List EndBook) (named : List EndpointId) (k seats frames : ℕ) (token : Seat (Option EndBook) EndPass) : Type 0 where
  pub table_is : token.table_id ≡ table
  pub pass : token.me ≡ (fresh_pass books named k seats frames, [])

-- ---- a driver

-- the view that shows these books as they are
abbrev pub view_of : List EndBook → ℕ → ℕ → ViewLists
view_of books frames keep =
    record { ends = map (λ (b : EndBook). line_of b.end.value.settings.id (state_after b.end.value)) books; frames = frames; keep = keep; last = None }

-- the disk of a node before its first page call
pub record IsNewDisk (s : ScenarioLists) (node : NodeId) (books : List EndBook) (swap : Store) : Type 0 where
  pub fails : swap.fails ≡ faults_of (layout_of s) node
  pub calls : swap.calls ≡ 0
  pub holds : AllAre (λ (b : EndBook). IsOpenIn swap b.end.value.settings) books

-- the books are those of a node of the packet network
pub record AreOfNode (s : ScenarioLists) (node : NodeId) (books : List EndBook) : Type 0 where
  pub packet : (layout_of s).direct ≡ false
  pub homes : AllAre (λ (b : EndBook). b.end.value.settings.node ≡ node) books
  pub fresh_books : AreFresh s books

-- a driver keeps its works at the last seat, with a view that shows the books
abbrev pub DriversBegin : Type 0
DriversBegin =
    (s : ScenarioLists) (books : List EndBook) (named : List EndpointId) (node : NodeId) (k seats keep : ℕ) (swap : Store) → AreOfNode s node books → k + 1 ≡ seats → IsNewDisk s node books swap
    → DriverWorks s (ids_of books) node 0 0 (view_of books s.frames keep) (device_of swap) (fresh_pass books named k seats s.frames)

-- each of the books is on the host or on disk
abbrev pub BooksAreHomely : Type 0
BooksAreHomely = (s : ScenarioLists) (node : NodeId) (books : List EndBook) → AreOfNode s node books → AllAre (λ (b : EndBook). stands_at b.end.value < 2) books

pub record IsNewDriver (s : ScenarioLists) (table : TableId) (books : List EndBook) (named : List EndpointId) (k seats keep : ℕ) (node : NodeId) (w : DriverWorker) : Type 0 where
  pub seat : IsNewSeat table books named k seats s.frames w.seat.token
  pub last : k + 1 ≡ seats
  pub is_node : w.node ≡ node
  pub disk : IsNewDisk s node books w.swap
  pub view : w.view ≡ view_of books s.frames keep
  pub clock : w.clock ≡ 0

abbrev pub NewDriversAreAtWork : Type 0
NewDriversAreAtWork =
    (s : ScenarioLists) (table : TableId) (books : List EndBook) (named : List EndpointId) (k seats keep : ℕ) (node : NodeId) (w : DriverWorker) → AreOfNode s node books → IsNewDriver s table books named k seats keep node w → IsDriverAtWork s table (ids_of books) node 0 w

-- ---- a thread

-- a thread that made no call
pub record IsNewThread (s : ScenarioLists) (table : TableId) (books : List EndBook) (named : List EndpointId) (k seats frames : ℕ) (w : ThreadWorker) : Type 0 where
  pub seat : IsNewSeat table books named k seats frames w.seat.token
  pub guest : k + 1 ≢ seats
  pub declared : is_thread s w.thread ≡ true
  pub script : IsScript s w.thread w.script.items
  pub few : length w.script.items ≤ 65536
  pub next : w.next ≡ 0
  pub clock : w.clock ≡ 0

abbrev pub NewThreadsAreAtWork : Type 0
NewThreadsAreAtWork =
    (s : ScenarioLists) (table : TableId) (books : List EndBook) (named : List EndpointId) (k seats frames : ℕ) (w : ThreadWorker) → AreFresh s books → IsNewThread s table books named k seats frames w → IsThreadAtWork s table (ids_of books) 0 w

-- ---- an interface

-- nothing was emitted on any of the links, and nothing taken out of one
abbrev pub AreUnused : List LinkOut → List LinkIn → Type 0
AreUnused outs ins = ((k : ℕ) (o : LinkOut) → slice_get outs k ≡ Some o → emitted o ≡ []) × ((k : ℕ) (i : LinkIn) → slice_get ins k ≡ Some i → received i ≡ [])

-- an interface of the node, between the links from each node and to each, that did no work
pub record IsNewInterface (s : ScenarioLists) (table : TableId) (books : List EndBook) (named : List EndpointId) (k seats frames : ℕ) (node : NodeId) (w : InterfaceWorker) : Type 0 where
  pub seat : IsNewSeat table books named k seats frames w.seat.token
  pub guest : k + 1 ≢ seats
  pub lawful : AreLawful w.set
  pub set : w.set ≡ w.interface.settings
  pub is_node : w.interface.settings.node ≡ node
  pub nodes : w.interface.settings.nodes ≡ s.nodes
  pub limit : w.interface.settings.log ≡ s.log
  pub layout : IsSet (layout_of s) (own w.interface)
  pub ins : length w.ins.items ≡ s.nodes
  pub outs : AreOuts s node w.last w.outs.items
  pub within_from : w.from < s.nodes
  pub log : w.interface.log ≡ []
  pub unused : AreUnused w.outs.items w.ins.items
  pub hand : w.hand ≡ None

abbrev pub NewInterfacesAreAtWork : Type 0
NewInterfacesAreAtWork =
    (s : ScenarioLists) (table : TableId) (books : List EndBook) (named : List EndpointId) (k seats frames : ℕ) (node : NodeId) (w : InterfaceWorker) → AreFresh s books → IsNewInterface s table books named k seats frames node w → IsInterfaceAtWork s table (ids_of books) node 0 w
