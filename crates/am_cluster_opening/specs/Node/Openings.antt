-- What the workers of a node begin with.
use Rattle.std.specs.Prelude.{◌≡◌, ℕ, ◌+◌, ◌≤◌, None, Some, List, [], filter, length, map, slice_get}
use Rattle.atomic_table.specs.Seated.{TableId}
use Rattle.am_names.specs.declared.EndpointId.{EndpointId}
use Rattle.am_names.specs.declared.NodeId.{NodeId}
use Rattle.am_names.specs.Names.{same_node}
use Rattle.am_endpoint_body.specs.declared.settings.EndSettings.{EndSettings}
use Rattle.am_office_entries.specs.declared.Entry.{Entry}
use Rattle.am_workers_laws.specs.Books.Ends.{end_in}
use Rattle.am_workers_laws.specs.declared.books.EndBook.{EndBook}
use Rattle.am_workers_laws.specs.contracts.books.EndBookBook.TheImpl.{ghosts}
use Rattle.am_swap_device.specs.Memory.{Store}
use Rattle.am_driver_moves.specs.Choice.Views.{line_of}
use Rattle.am_driver_moves.specs.declared.choice.EndView.{EndView}
use Rattle.am_endpoint.specs.View.{EndpointView, state_after}
use Rattle.am_model.specs.Layout.{AllAre, EndSetting, Layout, node_at}
use Rattle.am_model_parts.specs.Together.{ends_of, faults_of}
use Rattle.am_machine.specs.declared.node.NodePart.{NodePart}
use Rattle.am_places.specs.declared.places.Places.{Places}
use Rattle.am_places.specs.declared.places.Seat.{Seat}
use Rattle.am_places.specs.Seats.{me_of, table_in}
use Rattle.am_scenario_types.specs.declared.parts.ThreadLine.{ThreadLine}
use Rattle.am_scenario_types.specs.Lists.{ScenarioLists}
use Rattle.am_model_scripts.specs.Layout.{layout_of}
use Rattle.am_iface.specs.Settings.{AreLawful}
use Rattle.am_machine.specs.Interfaces.{IsInterface}
use Rattle.am_workers_laws.specs.Invariants.Begins.{AreFresh, IsOpenIn}
use Rattle.am_workers_laws.specs.Invariants.Stands.{fresh_pass}
use Rattle.am_workers_laws.specs.Invariants.Seats.{IsBorn, setting_by}
use Rattle.am_cluster_opening.specs.declared.node.nodes.Reading.{Reading}
use Rattle.am_cluster_opening.specs.declared.node.opening.Opening.{Opening}

-- ---- endpoints

-- these are the settings of the node's endpoints, in order
pub record AreDeclared (layout : Layout) (node : NodeId) (births : List EndSettings) : Type 0 where
  pub declared : map setting_by births ≡ filter (λ (s : EndSetting). same_node node s.node) layout.ends
  pub each : AllAre (IsBorn layout) births

abbrev pub births_of : List EndBook → List EndSettings
births_of books = map (λ (b : EndBook). b.end.value.settings) books

-- the lines of these endpoints in a driver's view
abbrev pub lines_of : List EndpointView → List EndView
lines_of ends = map (λ (e : EndpointView). line_of e.settings.id (state_after e)) ends

-- ---- threads

-- the numbers of the threads that the scenario declares on the node, in order
abbrev pub thread_ids : List ThreadLine → NodeId → List ℕ
thread_ids lines node = map (λ (t : ThreadLine). t.id) (filter (λ (t : ThreadLine). same_node node t.node) lines)

abbrev pub threads_of : ScenarioLists → NodeId → List ℕ
threads_of s node = thread_ids s.threads node

-- ---- a node

-- a seat of the places of a node's endpoints
abbrev pub EndSeat : Type 0
EndSeat = Seat EndBook Entry EndSettings ghosts

-- the seat with this number, from 0, of so many of the places for these books, which were just made
pub record IsFreshSeat (table : TableId) (books : List EndBook) (named : List EndpointId) (k seats frames : ℕ) (seat : EndSeat) : Type 0 where
  pub table_is : seat.token.table_id ≡ table
  pub pass : me_of seat ≡ (fresh_pass books named k seats frames, [])

-- the places for the books of these endpoints
abbrev pub EndPlaces : Type 0
EndPlaces = Places EndBook Entry EndSettings

-- these are places for the books of these endpoints, and so many seats that were just made
pub record ArePlacesOf (ends : List EndpointView) (frames count : ℕ) (places : EndPlaces) (seats : List EndSeat) : Type 0 where
  pub ids : places.ids.items ≡ map (λ (e : EndpointView). e.settings.id) ends
  pub framed : places.frames ≡ frames
  pub books : List EndBook
  pub made : map end_in books ≡ ends
  pub all : length seats ≡ count
  pub seats' : (k : ℕ) (seat : EndSeat) → slice_get seats k ≡ Some seat → IsFreshSeat (table_in places) books places.ids.items k count frames seat

-- what is read of the part of a node, before the part is taken apart
pub record IsReadOf (s : ScenarioLists) (p : NodePart) (r : Reading) : Type 0 where
  pub threads' : r.threads.items ≡ threads_of s p.node
  pub few : length r.threads.items ≤ 4
  pub view' : r.view ≡ record { ends = lines_of p.ends.items; frames = s.frames; keep = s.keep; last = None }
  pub set' : r.set ≡ p.iface.settings
  pub lawful : AreLawful r.set

-- the disk of a node before its first page call
pub record IsFreshDisk (layout : Layout) (node : NodeId) (births : List EndSettings) (swap : Store) : Type 0 where
  pub fails : swap.fails ≡ faults_of layout node
  pub calls : swap.calls ≡ 0
  pub holds : AllAre (IsOpenIn swap) births

-- the places of a node with its endpoints as they begin, a seat for each of its threads, one for its interface and one for its driver,
-- its interface, its disk, and what its driver sees
pub record IsOpening (s : ScenarioLists) (node : NodeId) (o : Opening) : Type 0 where
  pub is_node : o.node ≡ node
  pub ids : o.places.ids.items ≡ ends_of (layout_of s) node
  pub frames : o.places.frames ≡ s.frames
  pub books : List EndBook
  pub named : map (λ (b : EndBook). b.end.value.settings.id) books ≡ o.places.ids.items
  pub declared : AreDeclared (layout_of s) node (births_of books)
  pub homes : AllAre (λ (b : EndBook). b.end.value.settings.node ≡ node) books
  pub fresh_books : AreFresh s books
  pub threads' : o.threads.items ≡ threads_of s node
  pub all : length o.seats.items ≡ length o.threads.items + 2
  pub seats' : (k : ℕ) (seat : EndSeat) → slice_get o.seats.items k ≡ Some seat → IsFreshSeat (table_in o.places) books o.places.ids.items k (length o.threads.items + 2) s.frames seat
  pub interface' : IsInterface (layout_of s) [] node o.interface
  pub set' : o.set ≡ o.interface.settings
  pub lawful : AreLawful o.set
  pub disk : IsFreshDisk (layout_of s) node (births_of books) o.swap
  pub view' : o.view ≡ record { ends = map (λ (b : EndBook). line_of b.end.value.settings.id (state_after b.end.value)) books; frames = s.frames; keep = s.keep; last = None }

-- those of all nodes, in order
pub record AreOpenings (s : ScenarioLists) (os : List Opening) : Type 0 where
  pub all : length os ≡ s.nodes
  pub each : (k : ℕ) (o : Opening) → slice_get os k ≡ Some o → IsOpening s (node_at k) o
